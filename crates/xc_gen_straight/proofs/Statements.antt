-- Statements that are well typed and have code stand for straight commands.
use Rattle.std.proofs.Common.{◌≡◌, ℕ, List, [], ◌∷◌, map, Option, Some, None, Bool, true, false, refl, sym, ap, ◌∙◌, subst}
use Rattle.std.specs.Prelude.{IsTrue, ⊤, slice_get, option_map}
use Rattle.xc_text_place.specs.declared.Span.{Span}
use Rattle.xc_tree.specs.declared.stmt.Stmt.{Stmt, roll-Stmt}
use Rattle.xc_tree.specs.declared.stmt.StmtKind.{StmtKind, roll-StmtKind}
use Rattle.xc_tree.specs.declared.stmt.Item.{Item, roll-Item}
use Rattle.xc_tree.specs.declared.stmt.Item.TheOpen.{StmtKind-F, Stmt-F}
use Rattle.xc_tree.specs.declared.stmt.Item.TheFolds.{fold-StmtKind, fold-Item, fold-roll-StmtKind, fold-roll-Stmt, ind-Stmt, map-StmtKind}
use Rattle.xc_tree.specs.declared.tree.Object.{Object}
use Rattle.xc_tree.specs.Lists.{every}
use Rattle.xc_tree.specs.Types.{is_number}
use Rattle.xc_tree.specs.Typed.{Context}
use Rattle.xc_tree.specs.Walk.{of_item}
use Rattle.xc_tree.specs.Statements.{Labelled, label_step, stmt_step, stmt_ok}
use Rattle.xc_tree.proofs.Lists.{and_left, and_right}
use Rattle.xc_meaning.specs.Terms as old
use Rattle.xc_gen.specs.Unbuilt.{earlier, first_done, first_among}
use Rattle.xc_gen.proofs.Typed.{none_left, none_right}
use Rattle.xc_meaning_terms.specs.Terms.{Command, Empty, Eval, Block, Return, Commands, End, Then}
use Rattle.xc_meaning_straight.specs.Straight.{command_for, commands_for, IsStraight, AreStraight}
use Rattle.xc_meaning_trees.specs.Trees.{Around, Piece, Shaped, Entry, commands_of, command_in, shaped_step, piece_at, entry_at, piece_of, command_of, term_of}
use Rattle.xc_gen_straight.proofs.Expressions.{expr_agrees}

module _ (cx : Context) (r : Around) (numbers : (i : ℕ) (g : Object) → slice_get cx.globals i ≡ Some g → is_number g.ty ≡ true) where
  -- the two readings of a statement whose forms all have code agree
  abbrev pub Agreed : old.Command → Command → Type 0
  Agreed c d = first_done c ≡ None → IsStraight c × (command_for c ≡ d)

  abbrev ok_of : StmtKind → Bool
  ok_of = fold-StmtKind Labelled Bool Bool label_step (stmt_step cx) (λ s. s.kind)

  abbrev ok_item : Item → Labelled
  ok_item = fold-Item Labelled Bool Bool label_step (stmt_step cx) (λ s. s.kind)

  abbrev deed_of : StmtKind → Span → old.Command
  deed_of = fold-StmtKind old.Command (Span → old.Command) old.Command (of_item old.Empty) old.command_in (λ s. s.kind s.span)

  abbrev deed_item : Item → old.Command
  deed_item = fold-Item old.Command (Span → old.Command) old.Command (of_item old.Empty) old.command_in (λ s. s.kind s.span)

  abbrev shaped_of : StmtKind → Shaped
  shaped_of = fold-StmtKind Entry Shaped Piece entry_at (shaped_step r) (λ s. piece_at s.span s.kind)

  abbrev entry_of : Item → Entry
  entry_of = fold-Item Entry Shaped Piece entry_at (shaped_step r) (λ s. piece_at s.span s.kind)

  -- no `switch` has code yet, so nothing is asked of its items
  abbrev ItemAgrees : Item → Type 0
  ItemAgrees i = ⊤

  abbrev KindAgrees : StmtKind → Type 0
  KindAgrees k = (span : Span) (s : Stmt) → IsTrue (ok_of k) → Agreed (deed_of k span) ((shaped_of k).command s)

  abbrev StmtAgrees : Stmt → Type 0
  StmtAgrees s = IsTrue (stmt_ok cx s) → Agreed (old.command_of s) (command_of r s)

  abbrev StmtChild : Type 0
  StmtChild = (s : Stmt) × StmtAgrees s

  abbrev KindChild : Type 0
  KindChild = (k : StmtKind) × KindAgrees k

  abbrev ItemChild : Type 0
  ItemChild = (i : Item) × ItemAgrees i

  abbrev layer : StmtKind-F ItemChild KindChild StmtChild → StmtKind-F Item StmtKind Stmt
  layer y = map-StmtKind ItemChild KindChild StmtChild Item StmtKind Stmt (λ i. i.0) (λ k. k.0) (λ s. s.0) y

  abbrev ok_layer : StmtKind-F ItemChild KindChild StmtChild → StmtKind-F Labelled Bool Bool
  ok_layer y = map-StmtKind Item StmtKind Stmt Labelled Bool Bool ok_item ok_of (stmt_ok cx) (layer y)

  abbrev deed_layer : StmtKind-F ItemChild KindChild StmtChild → StmtKind-F old.Command (Span → old.Command) old.Command
  deed_layer y = map-StmtKind Item StmtKind Stmt old.Command (Span → old.Command) old.Command deed_item deed_of old.command_of (layer y)

  abbrev shaped_layer : StmtKind-F ItemChild KindChild StmtChild → StmtKind-F Entry Shaped Piece
  shaped_layer y = map-StmtKind Item StmtKind Stmt Entry Shaped Piece entry_of shaped_of (piece_of r) (layer y)

  unbuilt : (span : Span) (d : Command) → Agreed (old.Command.Unbuilt span) d
  unbuilt span d e = absurd cc

  none_among : (ss : old.Commands) (found : Option Span) → first_among ss found ≡ None → found ≡ None
  none_among old.End found e = e
  none_among (old.Then s ss) found e = none_left found (first_done s) (none_among ss (earlier found (first_done s)) e)

  all_agree : (ss : List StmtChild) (found : Option Span) → IsTrue (every (map (stmt_ok cx) (map (λ s. s.0) ss))) → first_among (old.commands_of (map old.command_of (map (λ s. s.0) ss))) found ≡ None
      → AreStraight (old.commands_of (map old.command_of (map (λ s. s.0) ss)))
      × (commands_for (old.commands_of (map old.command_of (map (λ s. s.0) ss))) ≡ commands_of (map (λ (c : Piece). c.command) (map (piece_of r) (map (λ s. s.0) ss))))
  all_agree [] found h u = (tt, refl)
  all_agree (s ∷ ss) found h u =
      let c = old.command_of s.0 in
      let none = none_right found (first_done c) (none_among (old.commands_of (map old.command_of (map (λ s. s.0) ss))) (earlier found (first_done c)) u) in
      let here = s.1 (and_left _ _ h) none in
      let rest = all_agree ss (earlier found (first_done c)) (and_right (stmt_ok cx s.0) _ h) u in
      ((here.0, rest.0), ap (λ w. Then w (commands_for (old.commands_of (map old.command_of (map (λ s. s.0) ss))))) here.1 ∙ ap (Then (command_of r s.0)) rest.1)

  level : (y : StmtKind-F ItemChild KindChild StmtChild) (span : Span) (s : Stmt) → IsTrue (stmt_step cx (ok_layer y)) → Agreed (old.command_in (deed_layer y) span) (command_in r (shaped_layer y) s)
  level StmtKind-F.Empty span s h e = (tt, refl)
  level (StmtKind-F.Declare x init) span s h e = unbuilt span _ e
  level (StmtKind-F.Eval v) span s h e = let b = ((expr_agrees cx r.shapes numbers v).agrees (and_left _ _ h)).built e in (b.0, ap Eval b.1)
  level (StmtKind-F.Block all) span s h e = let b = all_agree all None h e in (b.0, ap Block b.1)
  level (StmtKind-F.If test a b) span s h e = unbuilt span _ e
  level (StmtKind-F.Loop id f init test step body pragmas) span s h e = unbuilt span _ e
  level (StmtKind-F.Switch value items) span s h e = unbuilt span _ e
  level (StmtKind-F.Return None) span s h e = unbuilt span _ e
  level (StmtKind-F.Return (Some v)) span s h e = let b = ((expr_agrees cx r.shapes numbers v).agrees (and_left _ _ h)).built e in (b.0, ap (λ w. Return (Some w)) b.1)
  level StmtKind-F.Break span s h e = unbuilt span _ e
  level StmtKind-F.Continue span s h e = unbuilt span _ e
  level (StmtKind-F.Future place captures body) span s h e = unbuilt span _ e

  pub stmt_agrees : (s : Stmt) → StmtAgrees s
  stmt_agrees = ind-Stmt ItemAgrees KindAgrees StmtAgrees
      (λ x y is. tt)
      (λ x y is. subst (λ z. KindAgrees (roll-StmtKind z)) is (λ span s h.
      let ok_same = fold-roll-StmtKind Labelled Bool Bool label_step (stmt_step cx) (λ s. s.kind) (layer y) in
      let deed_same = fold-roll-StmtKind old.Command (Span → old.Command) old.Command (of_item old.Empty) old.command_in (λ s. s.kind s.span) (layer y) in
      let shaped_same = fold-roll-StmtKind Entry Shaped Piece entry_at (shaped_step r) (λ s. piece_at s.span s.kind) (layer y) in
      subst (λ (d : Span → old.Command). Agreed (d span) ((shaped_of (roll-StmtKind (layer y))).command s)) (sym deed_same)
      (subst (λ (k : Shaped). Agreed (old.command_in (deed_layer y) span) (k.command s)) (sym shaped_same) (level y span s (subst IsTrue ok_same h)))))
      (λ x y is. subst (λ z. StmtAgrees (roll-Stmt z)) is (λ h.
      let l : Stmt-F Item StmtKind Stmt = record { span = y.span; kind = y.kind.0 } in
      let ok_same = fold-roll-Stmt Labelled Bool Bool label_step (stmt_step cx) (λ s. s.kind) l in
      let deed_same = fold-roll-Stmt old.Command (Span → old.Command) old.Command (of_item old.Empty) old.command_in (λ s. s.kind s.span) l in
      let piece_same = fold-roll-Stmt Entry Shaped Piece entry_at (shaped_step r) (λ s. piece_at s.span s.kind) l in
      subst (λ d. Agreed d (command_of r (roll-Stmt l))) (sym deed_same)
      (subst (λ (p : Piece). Agreed (deed_of y.kind.0 y.span) p.command) (sym piece_same) (y.kind.1 y.span _ (subst IsTrue ok_same h)))))
