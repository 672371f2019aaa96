-- What is well typed and has no form without code names globals that are there, and prints as its formats say.
use Rattle.std.proofs.Common.{◌≡◌, ℕ, zero, suc, ◌+◌, ◌<◌, ◌≤◌, List, [], ◌∷◌, length, map, get_or, Option, Some, None, Bool, true, false, cond, refl, sym, ap, ◌∙◌, subst, arith}
use Rattle.std.specs.Prelude.{IsTrue, ⊤, ◌==◌, nat_le, slice_get}
use Rattle.std.specs.Option.{option_map}
use Rattle.std.proofs.lemmas.Bool.{ltb-true, leb-true, eqb-true}
use Rattle.xc_text_place.specs.declared.Span.{Span}
use Rattle.xc_word.specs.declared.memory.Kind.TheVariants as kind
use Rattle.xc_text_format.specs.Pieces.{pieces_of, conversions_of}
use Rattle.xc_tree.specs.declared.ty.Ty.{Ty}
use Rattle.xc_tree.specs.declared.expr.Expr.{Expr, roll-Expr}
use Rattle.xc_tree.specs.declared.expr.ExprKind.{ExprKind, roll-ExprKind}
use Rattle.xc_tree.specs.declared.expr.ExprKind.TheOpen.{ExprKind-F}
use Rattle.xc_tree.specs.declared.expr.ExprKind.TheFolds.{fold-ExprKind, fold-roll-ExprKind, fold-roll-Expr, ind-Expr, map-ExprKind}
use Rattle.xc_tree.specs.Lists.{every, passes}
use Rattle.xc_tree.specs.Types.{is_number}
use Rattle.xc_tree.specs.Formats.{integers_taken}
use Rattle.xc_tree.specs.Typed.{Context, Row, kind_step, part_of as typed_of, expr_ok, part_ok, parts, named, operands, are_values, rule, print_ok}
use Rattle.xc_tree.specs.Typed as typed
use Rattle.xc_tree.proofs.Lists.{and_left, and_right, pick}
use Rattle.xc_tree_words.specs.Words.{works_on_uint}
use Rattle.xc_meaning_world.proofs.Puts.{eqb_same}
use Rattle.xc_tree.specs.declared.ty.Ty.{out-Ty}
use Rattle.xc_tree.specs.declared.ty.Ty.TheOpen.{Ty-F}
use Rattle.xc_tree.specs.declared.ty.Ty.TheFolds.{fold_out-Ty, map-Ty}
use Rattle.xc_tree.specs.declared.stmt.Stmt.{Stmt, roll-Stmt}
use Rattle.xc_tree.specs.declared.stmt.StmtKind.{StmtKind, roll-StmtKind}
use Rattle.xc_tree.specs.declared.stmt.Item.{Item}
use Rattle.xc_tree.specs.declared.stmt.Item.TheOpen.{StmtKind-F}
use Rattle.xc_tree.specs.declared.stmt.Item.TheFolds.{fold-StmtKind, fold-Item, fold-roll-StmtKind, fold-roll-Stmt, ind-Stmt, map-StmtKind}
use Rattle.xc_tree.specs.declared.tree.Object.{Object}
use Rattle.xc_tree.specs.declared.tree.Func.{Func}
use Rattle.xc_tree.specs.declared.tree.Tree.{Tree}
use Rattle.xc_tree.specs.Types.{Shape, Formed, form_step as form_step_of, formed, size_of, number_at}
use Rattle.xc_tree.specs.Walk.{of_item}
use Rattle.xc_tree.specs.Statements.{Labelled, label_step, stmt_step, stmt_ok}
use Rattle.xc_tree.specs.Valid.{func_ok}
use Rattle.xc_tree.specs.Around.{context_of, shapes_of}
use Rattle.xc_tree.proofs.Parts.{tree_test, func_typed}
use Rattle.xc_meaning.specs.Terms.{Command, Empty, Commands, End, Then, command_in, command_of, commands_of, cells_from, cells_of, body_of, program_of}
use Rattle.xc_gen.specs.Unbuilt.{first_done, first_among, first_global, first_func, unbuilt_of}
use Rattle.xc_gen.specs.Globals.{cell_of}
use Rattle.xc_gen.specs.Fits.{NamesIn, AllNamesIn, PrintsIn, AllPrintsIn}
use Rattle.xc_meaning.specs.Terms.{Term, Number, Read, Write, Update, Unary, Binary, And, Or, Cond, Comma, Print, Terms, NoMore, More, Form, Part, form_step, part_of, global_in, term_in, at_global, terms_of, term_of}
use Rattle.xc_gen.specs.Unbuilt.{earlier, first_in, first_of}
use Rattle.xc_gen.specs.Fits.{count_of, NamesBelow, AllNamesBelow, PrintsSo, PrintsFit, AllPrintsFit}
use Rattle.xc_gen.proofs.Formats.{formats_agree}

-- ---- none is the earlier one where both are none

pub none_left : (a b : Option Span) → earlier a b ≡ None → a ≡ None
none_left None b e = refl
none_left (Some x) None e = absurd cc
none_left (Some x) (Some y) e = absurd cc

pub none_right : (a b : Option Span) → earlier a b ≡ None → b ≡ None
none_right None b e = e
none_right (Some x) None e = absurd cc
none_right (Some x) (Some y) e = absurd cc

pub none_before : (es : Terms) (found : Option Span) → first_of es found ≡ None → found ≡ None
none_before NoMore found e = e
none_before (More t es) found e = none_left found (first_in t) (none_before es (earlier found (first_in t)) e)

module _ (cx : Context) where
  abbrev n : ℕ
  n = length cx.globals

  abbrev fs : List (List ℕ)
  fs = cx.formats

  -- a term whose forms all have code, and a global whose place is named
  pub record Good (global : Option ℕ) (t : Term) : Type 0 where
    pub there : (g : ℕ) → global ≡ Some g → g < n
    pub fits : first_in t ≡ None → NamesBelow n t × PrintsFit fs t

  abbrev row_of : ExprKind → Row
  row_of = fold-ExprKind Row typed.Part (kind_step cx) (λ e. record { ty = e.ty; variable = e.kind.variable; within = e.kind.within; ok = e.kind.ok e.ty })

  abbrev form_of : ExprKind → Form
  form_of = fold-ExprKind Form Part form_step (λ e. record { ty = e.ty; global = e.kind.global; term = e.kind.term e.ty e.span })

  abbrev KeptKind : ExprKind → Type 0
  KeptKind k = (ty : Ty) (span : Span) → IsTrue ((row_of k).ok ty) → Good (form_of k).global ((form_of k).term ty span)

  abbrev Kept : Expr → Type 0
  Kept e = IsTrue (expr_ok cx e) → Good (part_of e).global (term_of e)

  -- a child and what is known of it
  abbrev Child : Type 0
  Child = (e : Expr) × Kept e

  abbrev KindChild : Type 0
  KindChild = (k : ExprKind) × KeptKind k

  abbrev layer : ExprKind-F KindChild Child → ExprKind-F ExprKind Expr
  layer y = map-ExprKind KindChild Child ExprKind Expr (λ k. k.0) (λ e. e.0) y

  abbrev typed_layer : ExprKind-F KindChild Child → ExprKind-F Row typed.Part
  typed_layer y = map-ExprKind ExprKind Expr Row typed.Part row_of (typed_of cx) (layer y)

  abbrev term_layer : ExprKind-F KindChild Child → ExprKind-F Form Part
  term_layer y = map-ExprKind ExprKind Expr Form Part form_of part_of (layer y)

  -- not a place
  no_place : (t : Term) → (first_in t ≡ None → NamesBelow n t × PrintsFit fs t) → Good None t
  no_place t fits = record { there = λ g e. absurd cc; fits = fits }

  unbuilt : (span : Span) → Good None (Term.Unbuilt span)
  unbuilt span = no_place (Term.Unbuilt span) (λ e. absurd cc)

  read_good : (o : Option ℕ) (span : Span) → ((g : ℕ) → o ≡ Some g → g < n) → Good None (at_global o span Read)
  read_good None span there = unbuilt span
  read_good (Some g) span there = no_place (Read g) (λ e. (there g refl, tt))

  write_good : (o : Option ℕ) (span : Span) (t : Term) → ((g : ℕ) → o ≡ Some g → g < n) → (first_in t ≡ None → NamesBelow n t × PrintsFit fs t) → Good None (at_global o span (λ g. Write g t))
  write_good None span t there fits = unbuilt span
  write_good (Some g) span t there fits = no_place (Write g t) (λ e. let f = fits e in ((there g refl, f.0), f.1))

  -- arguments, each with what is known of it
  args_good : (es : List Child) (found : Option Span) → IsTrue (every (map part_ok (map (typed_of cx) (map (λ e. e.0) es)))) → first_of (terms_of (map part_of (map (λ e. e.0) es))) found ≡ None
      → AllNamesBelow n (terms_of (map part_of (map (λ e. e.0) es))) × AllPrintsFit fs (terms_of (map part_of (map (λ e. e.0) es)))
  args_good [] found h u = (tt, tt)
  args_good (e ∷ es) found h u =
      let t = term_of e.0 in
      let none = none_right found (first_in t) (none_before (terms_of (map part_of (map (λ e. e.0) es))) (earlier found (first_in t)) u) in
      let here = (e.1 (and_left _ _ h)).fits none in
      let rest = args_good es (earlier found (first_in t)) (and_right (expr_ok cx e.0) _ h) u in
      ((here.0, rest.0), (here.1, rest.1))

  count_is : (es : List Child) → count_of (terms_of (map part_of (map (λ e. e.0) es))) ≡ length (map (typed_of cx) (map (λ e. e.0) es))
  count_is [] = refl
  count_is (e ∷ es) = omega (arith, count_is es)

  -- the format is there and takes so many integers
  format_good : (o : Option (List ℕ)) (f count : ℕ) → slice_get fs f ≡ o → IsTrue (passes (λ bytes. passes (λ k. k == count) (integers_taken bytes)) o) → PrintsSo fs f count
  format_good None f count e h = absurd cc
  format_good (Some bytes) f count e h = (bytes, e, taken (integers_taken bytes) (formats_agree bytes) h)
    where
      taken : (o : Option ℕ) → o ≡ option_map conversions_of (pieces_of bytes) → IsTrue (passes (λ k. k == count) o) → option_map conversions_of (pieces_of bytes) ≡ Some count
      taken None e h = absurd cc
      taken (Some k) e h = sym e ∙ ap Some (eqb-true k count h)

  update_good : (o : Option ℕ) (span : Span) (make : ℕ → Term) (t : Term) → ((g : ℕ) → first_in (make g) ≡ first_in t) → ((g : ℕ) → g < n → NamesBelow n t → NamesBelow n (make g)) → ((g : ℕ) → PrintsFit fs t → PrintsFit fs (make g))
      → ((g : ℕ) → o ≡ Some g → g < n) → (first_in t ≡ None → NamesBelow n t × PrintsFit fs t) → Good None (at_global o span make)
  update_good None span make t same names prints there fits = unbuilt span
  update_good (Some g) span make t same names prints there fits = no_place (make g) (λ e. let f = fits (sym (same g) ∙ e) in (names g (there g refl) f.0, prints g f.1))

  -- the test of the whole form
  abbrev Whole : ExprKind-F KindChild Child → Ty → Type 0
  Whole y ty = IsTrue ((kind_step cx (typed_layer y)).ok ty)

  part : (y : ExprKind-F KindChild Child) (ty : Ty) → Whole y ty → IsTrue (every (map part_ok (parts (typed_layer y))))
  part y ty h = and_left _ _ h

  naming : (y : ExprKind-F KindChild Child) (ty : Ty) → Whole y ty → IsTrue (named cx (typed_layer y))
  naming y ty h = and_left _ _ (and_right (every (map part_ok (parts (typed_layer y)))) _ h)

  ruled : (y : ExprKind-F KindChild Child) (ty : Ty) → Whole y ty → IsTrue (rule cx (typed_layer y) ty)
  ruled y ty h = and_right (are_values (operands (typed_layer y))) _ (and_right (named cx (typed_layer y)) _ (and_right (every (map part_ok (parts (typed_layer y)))) _ h))

  one : (y : ExprKind-F KindChild Child) (ty : Ty) (k : ℕ) → Whole y ty → IsTrue (get_or (map part_ok (parts (typed_layer y))) k true)
  one y ty k h = pick (map part_ok (parts (typed_layer y))) k (part y ty h)

  both : (a b : Term) → (first_in a ≡ None → NamesBelow n a × PrintsFit fs a) → (first_in b ≡ None → NamesBelow n b × PrintsFit fs b) → earlier (first_in a) (first_in b) ≡ None → (NamesBelow n a × NamesBelow n b) × (PrintsFit fs a × PrintsFit fs b)
  both a b fa fb e =
      let ga = fa (none_left (first_in a) (first_in b) e) in
      let gb = fb (none_right (first_in a) (first_in b) e) in
      ((ga.0, gb.0), (ga.1, gb.1))

  print_good : (f : ℕ) (args : List Child) (ty : Ty) → Whole (ExprKind-F.Print f args) ty → Good None (Print f (terms_of (map part_of (map (λ e. e.0) args))))
  unfolding rule
  print_good f args ty h =
      let es = terms_of (map part_of (map (λ e. e.0) args)) in
      let ts = map (typed_of cx) (map (λ e. e.0) args) in
      let ok : IsTrue (print_ok (slice_get fs f) ts) = and_left _ _ (ruled (ExprKind-F.Print f args) ty h) in
      let rest = and_right (every (map (λ a. is_number a.ty) ts)) _ ok in
      let few : length ts ≤ 8 = leb-true (length ts) 8 (and_left _ _ rest) in
      let format = format_good (slice_get fs f) f (length ts) refl (and_right (nat_le (length ts) 8) _ rest) in
      no_place (Print f es) (λ u. let g = args_good args None (part (ExprKind-F.Print f args) ty h) u in
      ((omega (arith, few, count_is args), g.0), (subst (PrintsSo fs f) (sym (count_is args)) format, g.1)))

  level : (y : ExprKind-F KindChild Child) (ty : Ty) (span : Span) → Whole y ty → Good (global_in (term_layer y)) (term_in (term_layer y) ty span)
  level (ExprKind-F.Const v) ty span h = at (is_number ty)
    where
      at : (b : Bool) → Good None (cond b (Number v) (Term.Unbuilt span))
      at true = no_place (Number v) (λ e. (tt, tt))
      at false = unbuilt span
  level (ExprKind-F.Local x) ty span h = unbuilt span
  level (ExprKind-F.Set x v) ty span h = unbuilt span
  level (ExprKind-F.Global g) ty span h = record { there = λ g' e. let same : g ≡ g' = cc in subst (λ x. x < n) same (ltb-true g n (naming (ExprKind-F.Global g) ty h)); fits = λ e. absurd cc }
  level (ExprKind-F.Auto x) ty span h = unbuilt span
  level (ExprKind-F.Index base index size bound) ty span h = unbuilt span
  level (ExprKind-F.Member base off) ty span h = unbuilt span
  level (ExprKind-F.Read kind.ReadXx place) ty span h = read_good (part_of place.0).global span (place.1 (one (ExprKind-F.Read kind.ReadXx place) ty 0 h)).there
  level (ExprKind-F.Read k place) ty span h = unbuilt span
  level (ExprKind-F.Write kind.WriteXf place value) ty span h =
      write_good (part_of place.0).global span (term_of value.0) (place.1 (one (ExprKind-F.Write kind.WriteXf place value) ty 0 h)).there (value.1 (one (ExprKind-F.Write kind.WriteXf place value) ty 1 h)).fits
  level (ExprKind-F.Write k place value) ty span h = unbuilt span
  level (ExprKind-F.FetchAdd place value) ty span h = unbuilt span
  level (ExprKind-F.Purge place) ty span h = unbuilt span
  level (ExprKind-F.Update o post place value) ty span h =
      update_good (part_of place.0).global span (λ g. Update o (works_on_uint o ty (part_of value.0).ty) post g (term_of value.0)) (term_of value.0) (λ g. refl) (λ g a b. (a, b)) (λ g f. f)
      (place.1 (one (ExprKind-F.Update o post place value) ty 0 h)).there (value.1 (one (ExprKind-F.Update o post place value) ty 1 h)).fits
  level (ExprKind-F.Unary o of) ty span h = no_place (Unary o (term_of of.0)) (of.1 (one (ExprKind-F.Unary o of) ty 0 h)).fits
  level (ExprKind-F.Binary o a b) ty span h =
      no_place (Binary o (works_on_uint o (part_of a.0).ty (part_of b.0).ty) (term_of a.0) (term_of b.0)) (both (term_of a.0) (term_of b.0) (a.1 (one (ExprKind-F.Binary o a b) ty 0 h)).fits (b.1 (one (ExprKind-F.Binary o a b) ty 1 h)).fits)
  level (ExprKind-F.And a b) ty span h = no_place (And (term_of a.0) (term_of b.0)) (both (term_of a.0) (term_of b.0) (a.1 (one (ExprKind-F.And a b) ty 0 h)).fits (b.1 (one (ExprKind-F.And a b) ty 1 h)).fits)
  level (ExprKind-F.Or a b) ty span h = no_place (Or (term_of a.0) (term_of b.0)) (both (term_of a.0) (term_of b.0) (a.1 (one (ExprKind-F.Or a b) ty 0 h)).fits (b.1 (one (ExprKind-F.Or a b) ty 1 h)).fits)
  level (ExprKind-F.Cond test a b) ty span h = no_place (Cond (term_of test.0) (term_of a.0) (term_of b.0)) (λ e.
      let rest = earlier (first_in (term_of a.0)) (first_in (term_of b.0)) in
      let t = (test.1 (one (ExprKind-F.Cond test a b) ty 0 h)).fits (none_left (first_in (term_of test.0)) rest e) in
      let u = both (term_of a.0) (term_of b.0) (a.1 (one (ExprKind-F.Cond test a b) ty 1 h)).fits (b.1 (one (ExprKind-F.Cond test a b) ty 2 h)).fits (none_right (first_in (term_of test.0)) rest e) in
      ((t.0, u.0.0, u.0.1), (t.1, u.1.0, u.1.1)))
  level (ExprKind-F.Comma a b) ty span h = no_place (Comma (term_of a.0) (term_of b.0)) (both (term_of a.0) (term_of b.0) (a.1 (one (ExprKind-F.Comma a b) ty 0 h)).fits (b.1 (one (ExprKind-F.Comma a b) ty 1 h)).fits)
  level (ExprKind-F.Call f args) ty span h = unbuilt span
  level (ExprKind-F.Print f args) ty span h = print_good f args ty h

  pub term_good : (e : Expr) → IsTrue (expr_ok cx e) → Good (part_of e).global (term_of e)
  term_good = ind-Expr KeptKind Kept
      (λ x y is. subst (λ z. KeptKind (roll-ExprKind z)) is (λ ty span h.
      let typed_same = fold-roll-ExprKind Row typed.Part (kind_step cx) (λ e. record { ty = e.ty; variable = e.kind.variable; within = e.kind.within; ok = e.kind.ok e.ty }) (layer y) in
      let form_same = fold-roll-ExprKind Form Part form_step (λ e. record { ty = e.ty; global = e.kind.global; term = e.kind.term e.ty e.span }) (layer y) in
      subst (λ k. Good k.global (k.term ty span)) (sym form_same) (level y ty span (subst (λ k. IsTrue (k.ok ty)) typed_same h))))
      (λ x y is. subst (λ z. Kept (roll-Expr z)) is (λ h.
      let typed_same = fold-roll-Expr Row typed.Part (kind_step cx) (λ e. record { ty = e.ty; variable = e.kind.variable; within = e.kind.within; ok = e.kind.ok e.ty }) (record { ty = y.ty; span = y.span; kind = y.kind.0 }) in
      let form_same = fold-roll-Expr Form Part form_step (λ e. record { ty = e.ty; global = e.kind.global; term = e.kind.term e.ty e.span }) (record { ty = y.ty; span = y.span; kind = y.kind.0 }) in
      subst (λ p. Good p.global p.term) (sym form_same) (y.kind.1 y.ty y.span (subst (λ p. IsTrue p.ok) typed_same h))))

  -- ---- statements

  pub record GoodCommand (s : Command) : Type 0 where
    pub fits : first_done s ≡ None → NamesIn n s × PrintsIn fs s

  abbrev ok_of : StmtKind → Bool
  ok_of = fold-StmtKind Labelled Bool Bool label_step (stmt_step cx) (λ s. s.kind)

  abbrev ok_item : Item → Labelled
  ok_item = fold-Item Labelled Bool Bool label_step (stmt_step cx) (λ s. s.kind)

  abbrev deed_of : StmtKind → Span → Command
  deed_of = fold-StmtKind Command (Span → Command) Command (of_item Empty) command_in (λ s. s.kind s.span)

  abbrev deed_item : Item → Command
  deed_item = fold-Item Command (Span → Command) Command (of_item Empty) command_in (λ s. s.kind s.span)

  -- no `switch` has code yet, so nothing is asked of its items
  abbrev KeptItem : Item → Type 0
  KeptItem i = ⊤

  abbrev KeptStmtKind : StmtKind → Type 0
  KeptStmtKind k = (span : Span) → IsTrue (ok_of k) → GoodCommand (deed_of k span)

  abbrev KeptStmt : Stmt → Type 0
  KeptStmt s = IsTrue (stmt_ok cx s) → GoodCommand (command_of s)

  abbrev StmtChild : Type 0
  StmtChild = (s : Stmt) × KeptStmt s

  abbrev StmtKindChild : Type 0
  StmtKindChild = (k : StmtKind) × KeptStmtKind k

  abbrev ItemChild : Type 0
  ItemChild = (i : Item) × KeptItem i

  abbrev stmt_layer : StmtKind-F ItemChild StmtKindChild StmtChild → StmtKind-F Item StmtKind Stmt
  stmt_layer y = map-StmtKind ItemChild StmtKindChild StmtChild Item StmtKind Stmt (λ i. i.0) (λ k. k.0) (λ s. s.0) y

  abbrev ok_layer : StmtKind-F ItemChild StmtKindChild StmtChild → StmtKind-F Labelled Bool Bool
  ok_layer y = map-StmtKind Item StmtKind Stmt Labelled Bool Bool ok_item ok_of (stmt_ok cx) (stmt_layer y)

  abbrev deed_layer : StmtKind-F ItemChild StmtKindChild StmtChild → StmtKind-F Command (Span → Command) Command
  deed_layer y = map-StmtKind Item StmtKind Stmt Command (Span → Command) Command deed_item deed_of command_of (stmt_layer y)

  unbuilt_command : (span : Span) → GoodCommand (Command.Unbuilt span)
  unbuilt_command span = record { fits = λ e. absurd cc }

  none_among : (ss : Commands) (found : Option Span) → first_among ss found ≡ None → found ≡ None
  none_among End found e = e
  none_among (Then s ss) found e = none_left found (first_done s) (none_among ss (earlier found (first_done s)) e)

  all_good : (ss : List StmtChild) (found : Option Span) → IsTrue (every (map (stmt_ok cx) (map (λ s. s.0) ss))) → first_among (commands_of (map command_of (map (λ s. s.0) ss))) found ≡ None
      → AllNamesIn n (commands_of (map command_of (map (λ s. s.0) ss))) × AllPrintsIn fs (commands_of (map command_of (map (λ s. s.0) ss)))
  all_good [] found h u = (tt, tt)
  all_good (s ∷ ss) found h u =
      let c = command_of s.0 in
      let none = none_right found (first_done c) (none_among (commands_of (map command_of (map (λ s. s.0) ss))) (earlier found (first_done c)) u) in
      let here = (s.1 (and_left _ _ h)).fits none in
      let rest = all_good ss (earlier found (first_done c)) (and_right (stmt_ok cx s.0) _ h) u in
      ((here.0, rest.0), (here.1, rest.1))

  stmt_level : (y : StmtKind-F ItemChild StmtKindChild StmtChild) (span : Span) → IsTrue (stmt_step cx (ok_layer y)) → GoodCommand (command_in (deed_layer y) span)
  stmt_level StmtKind-F.Empty span h = record { fits = λ e. (tt, tt) }
  stmt_level (StmtKind-F.Declare x init) span h = unbuilt_command span
  stmt_level (StmtKind-F.Eval e) span h = record { fits = (term_good e (and_left _ _ h)).fits }
  stmt_level (StmtKind-F.Block all) span h = record { fits = all_good all None h }
  stmt_level (StmtKind-F.If test a b) span h = unbuilt_command span
  stmt_level (StmtKind-F.Loop id f init test step body pragmas) span h = unbuilt_command span
  stmt_level (StmtKind-F.Switch value items) span h = unbuilt_command span
  stmt_level (StmtKind-F.Return None) span h = unbuilt_command span
  stmt_level (StmtKind-F.Return (Some e)) span h = record { fits = (term_good e (and_left _ _ h)).fits }
  stmt_level StmtKind-F.Break span h = unbuilt_command span
  stmt_level StmtKind-F.Continue span h = unbuilt_command span
  stmt_level (StmtKind-F.Future place captures body) span h = unbuilt_command span

  pub command_good : (s : Stmt) → IsTrue (stmt_ok cx s) → GoodCommand (command_of s)
  command_good = ind-Stmt KeptItem KeptStmtKind KeptStmt
      (λ x y is. tt)
      (λ x y is. subst (λ z. KeptStmtKind (roll-StmtKind z)) is (λ span h.
      let ok_same = fold-roll-StmtKind Labelled Bool Bool label_step (stmt_step cx) (λ s. s.kind) (stmt_layer y) in
      let deed_same = fold-roll-StmtKind Command (Span → Command) Command (of_item Empty) command_in (λ s. s.kind s.span) (stmt_layer y) in
      subst (λ d. GoodCommand (d span)) (sym deed_same) (stmt_level y span (subst IsTrue ok_same h))))
      (λ x y is. subst (λ z. KeptStmt (roll-Stmt z)) is (λ h.
      let ok_same = fold-roll-Stmt Labelled Bool Bool label_step (stmt_step cx) (λ s. s.kind) (record { span = y.span; kind = y.kind.0 }) in
      let deed_same = fold-roll-Stmt Command (Span → Command) Command (of_item Empty) command_in (λ s. s.kind s.span) (record { span = y.span; kind = y.kind.0 }) in
      subst GoodCommand (sym deed_same) (y.kind.1 y.span (subst IsTrue ok_same h))))

-- ---- the whole program

every_get : {X : Type 0} (p : X → Bool) (xs : List X) (i : ℕ) (x : X) → IsTrue (every (map p xs)) → slice_get xs i ≡ Some x → IsTrue (p x)
every_get p [] i x h e = absurd cc
every_get p (y ∷ xs) zero x h e = let same : y ≡ x = cc in subst (λ z. IsTrue (p z)) same (and_left _ _ h)
every_get p (y ∷ xs) (suc i) x h e = every_get p xs i x (and_right (p y) _ h) e

-- each function is `main`, and has code
pub func_none : (main k : ℕ) (funcs : List Func) (found : Option Span) → first_func main k funcs found ≡ None → (found ≡ None) × ((i : ℕ) (f : Func) → slice_get funcs i ≡ Some f → k + i ≡ main → first_done (command_of f.body) ≡ None)
func_none main k [] found e = (e, λ i f at is. absurd cc)
func_none main k (g ∷ gs) found e =
    let here : Option Span = cond (k == main) (first_done (command_of g.body)) (Some g.name) in
    let rest = func_none main (suc k) gs (earlier found here) e in
    let now = none_right found here rest.0 in
    (none_left found here rest.0, λ i f at is. by_index main k g gs i f at is now rest.1)
  where
    by_index : (main k : ℕ) (g : Func) (gs : List Func) (i : ℕ) (f : Func) → slice_get (g ∷ gs) i ≡ Some f → k + i ≡ main → cond (k == main) (first_done (command_of g.body)) (Some g.name) ≡ None
        → ((i : ℕ) (f : Func) → slice_get gs i ≡ Some f → suc k + i ≡ main → first_done (command_of f.body) ≡ None) → first_done (command_of f.body) ≡ None
    by_index main k g gs zero f at is now rest =
        let same : g ≡ f = cc in
        let mine : (k == main) ≡ true = eqb_same k main (omega (arith, is)) in
        subst (λ x. first_done (command_of x.body) ≡ None) same (sym (ap (λ b. cond b (first_done (command_of g.body)) (Some g.name)) mine) ∙ now)
    by_index main k g gs (suc i) f at is now rest = rest i f at (omega (arith, is))

-- each global is a number
pub global_none : (gs : List Object) (found : Option Span) → first_global gs found ≡ None → (found ≡ None) × ((i : ℕ) (g : Object) → slice_get gs i ≡ Some g → is_number g.ty ≡ true)
global_none [] found e = (e, λ i g at. absurd cc)
global_none (o ∷ gs) found e =
    let here : Option Span = cond (is_number o.ty) None (Some o.name) in
    let rest = global_none gs (earlier found here) e in
    (none_left found here rest.0, λ i g at. by_index o gs i g at (none_right found here rest.0) rest.1)
  where
    numbered : (b : Bool) (s : Span) → cond b None (Some s) ≡ None → b ≡ true
    numbered true s e = refl
    numbered false s e = absurd cc

    by_index : (o : Object) (gs : List Object) (i : ℕ) (g : Object) → slice_get (o ∷ gs) i ≡ Some g → cond (is_number o.ty) None (Some o.name) ≡ None → ((i : ℕ) (g : Object) → slice_get gs i ≡ Some g → is_number g.ty ≡ true) → is_number g.ty ≡ true
    by_index o gs zero g at now rest = let same : o ≡ g = cc in subst (λ x. is_number x.ty ≡ true) same (numbered (is_number o.ty) o.name now)
    by_index o gs (suc i) g at now rest = rest i g at

pub body_good : (t : Tree) → unbuilt_of t ≡ None → NamesIn (length t.globals) (program_of t).body × PrintsIn t.formats (program_of t).body
body_good t u = at (slice_get t.funcs t.main) refl
  where
    none : (i : ℕ) (f : Func) → slice_get t.funcs i ≡ Some f → 0 + i ≡ t.main → first_done (command_of f.body) ≡ None
    none = (func_none t.main 0 t.funcs (first_global t.globals None) u).1

    at : (o : Option Func) → slice_get t.funcs t.main ≡ o → NamesIn (length t.globals) (body_of o) × PrintsIn t.formats (body_of o)
    at None e = (tt, tt)
    at (Some f) e =
        let valid = every_get (func_ok t.structs t.globals t.funcs t.formats) t.funcs t.main f (tree_test t.structs t.globals t.funcs t.formats t.loops t.main 0 t.valid) e in
        (command_good (context_of t f) f.body (func_typed t.structs t.globals t.funcs t.formats f valid)).fits (none t.main f e (omega arith))

-- ---- globals

pub number_size : (shapes : List Shape) (ty : Ty) → is_number ty ≡ true → size_of shapes ty ≡ 1
number_size shapes ty h = ap (λ (f : Formed). f.shape.size) (fold_out-Ty Formed (form_step_of shapes) ty) ∙ at (out-Ty ty) h
  where
    at : (l : Ty-F Ty) → number_at l ≡ true → (form_step_of shapes (map-Ty Ty Formed (formed shapes) l)).shape.size ≡ 1
    at Ty-F.Int h = refl
    at Ty-F.Uint h = refl
    at Ty-F.Void h = absurd cc
    at (Ty-F.Ptr x) h = absurd cc
    at (Ty-F.Array k x) h = absurd cc
    at (Ty-F.Struct k) h = absurd cc
    at (Ty-F.Sync x) h = absurd cc
    at (Ty-F.Future x) h = absurd cc

pub one_cell : (t : Tree) (g : Object) → is_number g.ty ≡ true → cells_of t g ≡ cell_of g.init ∷ []
one_cell t g h = ap (λ k. cells_from k g.init) (number_size (shapes_of t) g.ty h) ∙ at g.init
  where
    at : (cs : List (ℕ × Bool)) → cells_from 1 cs ≡ cell_of cs ∷ []
    at [] = refl
    at (c ∷ cs) = refl
