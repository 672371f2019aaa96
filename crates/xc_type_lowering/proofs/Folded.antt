-- What does not look at expressions, or only at what lowering keeps of them, is the same of the lowered statement.
use Rattle.std.proofs.Common.{◌≡◌, ℕ, List, [], ◌∷◌, ◌++◌, map, Bool, true, false, refl, sym, ap, ◌∙◌, subst}
use Rattle.std.specs.Prelude.{◌&&◌, Option, Some, None, option_map, is_some, is_none}
use mathlib.Core.Path.{fun_ext}
use Rattle.xc_tree.specs.declared.ty.Ty.{Ty}
use Rattle.xc_tree.specs.declared.expr.Expr.{Expr}
use Rattle.xc_tree.specs.declared.stmt.Stmt.{Stmt, roll-Stmt}
use Rattle.xc_tree.specs.declared.stmt.Capture.{Capture}
use Rattle.xc_tree.specs.declared.stmt.LoopForm.{LoopForm}
use Rattle.xc_tree.specs.declared.stmt.LoopForm.TheVariants as keyword
use Rattle.xc_tree.specs.declared.stmt.StmtKind.{StmtKind, roll-StmtKind}
use Rattle.xc_tree.specs.declared.stmt.Item.{Item, roll-Item}
use Rattle.xc_tree.specs.declared.stmt.Item.TheOpen.{StmtKind-F, Item-F}
use Rattle.xc_tree.specs.declared.stmt.Item.TheFolds.{fold-Stmt, fold-StmtKind, fold-Item, fold-roll-StmtKind, fold-roll-Stmt, fold-roll-Item, ind-Stmt, map-StmtKind, map-Item}
use Rattle.xc_tree.specs.Lists.{every, allows, passes, has}
use Rattle.xc_tree.specs.Types.{fits, future_under}
use Rattle.xc_tree.specs.Walk.{of_item, ids_step, loop_ids, declared_step, declared}
use Rattle.xc_tree.specs.Statements.{Leaving, acts, leaves_nothing, part_ok, body_ok, in_loop, header_ok, leave_step, leaving, Sight, adds_none, sees_nothing, sees, sees_all, added, sees_pragmas, sight_step, sees_ok}
use Rattle.xc_type_lowering.specs.Lowered.{lowered, init_with, capture_with, with_exprs, lower_stmt_step, lowered_stmt}
use Rattle.xc_type_lowering.specs.InnerLowered.{lowered_stmt_kind, lowered_item}
use Rattle.xc_type_lowering.proofs.Names.{type_kept, same_names}

module _ (flags : List Bool) where
  abbrev f : Expr → Expr
  f = lowered flags

  module _ (A : Type 0) (none : A) (rule : StmtKind-F A A A → A) (same : (l : StmtKind-F A A A) → rule (with_exprs f l) ≡ rule l) where
    abbrev folded : Stmt → A
    folded = fold-Stmt A A A (of_item none) rule (λ s. s.kind)

    abbrev folded_kind : StmtKind → A
    folded_kind = fold-StmtKind A A A (of_item none) rule (λ s. s.kind)

    abbrev folded_item : Item → A
    folded_item = fold-Item A A A (of_item none) rule (λ s. s.kind)

    abbrev KeptItem : Item → Type 0
    KeptItem i = folded_item (lowered_item flags i) ≡ folded_item i

    abbrev KeptKind : StmtKind → Type 0
    KeptKind k = folded_kind (lowered_stmt_kind flags k) ≡ folded_kind k

    abbrev Kept : Stmt → Type 0
    Kept s = folded (lowered_stmt flags s) ≡ folded s

    abbrev Child : Type 0
    Child = (s : Stmt) × Kept s

    abbrev KindChild : Type 0
    KindChild = (k : StmtKind) × KeptKind k

    abbrev ItemChild : Type 0
    ItemChild = (i : Item) × KeptItem i

    abbrev layer : StmtKind-F ItemChild KindChild Child → StmtKind-F Item StmtKind Stmt
    layer y = map-StmtKind ItemChild KindChild Child Item StmtKind Stmt (λ i. i.0) (λ k. k.0) (λ s. s.0) y

    abbrev folded_layer : StmtKind-F Item StmtKind Stmt → StmtKind-F A A A
    folded_layer l = map-StmtKind Item StmtKind Stmt A A A folded_item folded_kind folded l

    abbrev lowered_layer : StmtKind-F ItemChild KindChild Child → StmtKind-F Item StmtKind Stmt
    lowered_layer y = map-StmtKind Item StmtKind Stmt Item StmtKind Stmt (lowered_item flags) (lowered_stmt_kind flags) (lowered_stmt flags) (layer y)

    abbrev item_layer : Item-F ItemChild KindChild Child → Item-F Item StmtKind Stmt
    item_layer y = map-Item ItemChild KindChild Child Item StmtKind Stmt (λ i. i.0) (λ k. k.0) (λ s. s.0) y

    abbrev folded_item_layer : Item-F Item StmtKind Stmt → Item-F A A A
    folded_item_layer l = map-Item Item StmtKind Stmt A A A folded_item folded_kind folded l

    abbrev lowered_item_layer : Item-F ItemChild KindChild Child → Item-F Item StmtKind Stmt
    lowered_item_layer y = map-Item Item StmtKind Stmt Item StmtKind Stmt (lowered_item flags) (lowered_stmt_kind flags) (lowered_stmt flags) (item_layer y)

    abbrev low : Child → A
    low s = folded (lowered_stmt flags s.0)

    abbrev lows : List Child → List A
    lows ss = map folded (map (lowered_stmt flags) (map (λ s. s.0) ss))

    abbrev olds : List Child → List A
    olds ss = map folded (map (λ s. s.0) ss)

    rows : (ss : List Child) → lows ss ≡ olds ss
    rows [] = refl
    rows (s ∷ ss) = ap (λ a. a ∷ lows ss) s.1 ∙ ap (λ vs. folded s.0 ∷ vs) (rows ss)

    abbrev item_lows : List ItemChild → List A
    item_lows is = map folded_item (map (lowered_item flags) (map (λ i. i.0) is))

    item_rows : (is : List ItemChild) → item_lows is ≡ map folded_item (map (λ i. i.0) is)
    item_rows [] = refl
    item_rows (i ∷ is) = ap (λ a. a ∷ item_lows is) i.1 ∙ ap (λ vs. folded_item i.0 ∷ vs) (item_rows is)

    item_level : (y : Item-F ItemChild KindChild Child) → of_item none (folded_item_layer (lowered_item_layer y)) ≡ of_item none (folded_item_layer (item_layer y))
    item_level (Item-F.At n) = refl
    item_level Item-F.Other = refl
    item_level (Item-F.Do s) = s.1

    level : (y : StmtKind-F ItemChild KindChild Child) → rule (folded_layer (with_exprs f (lowered_layer y))) ≡ rule (folded_layer (layer y))
    level StmtKind-F.Empty = refl
    level (StmtKind-F.Declare x init) = same (StmtKind-F.Declare x init)
    level (StmtKind-F.Eval e) = same (StmtKind-F.Eval e)
    level (StmtKind-F.Block all) = ap (λ vs. rule (StmtKind-F.Block vs)) (rows all)
    level (StmtKind-F.If test then None) = same (StmtKind-F.If test (low then) None) ∙ ap (λ a. rule (StmtKind-F.If test a None)) then.1
    level (StmtKind-F.If test then (Some other)) = same (StmtKind-F.If test (low then) (Some (low other)))
        ∙ (ap (λ a. rule (StmtKind-F.If test a (Some (low other)))) then.1 ∙ ap (λ a. rule (StmtKind-F.If test (folded then.0) (Some a))) other.1)
    level (StmtKind-F.Loop id k init test step body pragmas) = same (StmtKind-F.Loop id k (lows init) test step (low body) pragmas)
        ∙ (ap (λ vs. rule (StmtKind-F.Loop id k vs test step (low body) pragmas)) (rows init) ∙ ap (λ a. rule (StmtKind-F.Loop id k (olds init) test step a pragmas)) body.1)
    level (StmtKind-F.Switch value items) = same (StmtKind-F.Switch value (item_lows items)) ∙ ap (λ vs. rule (StmtKind-F.Switch value vs)) (item_rows items)
    level (StmtKind-F.Return e) = same (StmtKind-F.Return e)
    level StmtKind-F.Break = refl
    level StmtKind-F.Continue = refl
    level (StmtKind-F.Future place captures body) = same (StmtKind-F.Future place captures (low body)) ∙ ap (λ a. rule (StmtKind-F.Future place captures a)) body.1

    unchanged : (s : Stmt) → Kept s
    unchanged = ind-Stmt KeptItem KeptKind Kept
        (λ x y is. subst (λ z. KeptItem (roll-Item z)) is
        (ap folded_item (fold-roll-Item Item StmtKind Stmt roll-Item (lower_stmt_step flags) roll-Stmt (item_layer y))
        ∙ (fold-roll-Item A A A (of_item none) rule (λ s. s.kind) (lowered_item_layer y)
        ∙ (item_level y ∙ sym (fold-roll-Item A A A (of_item none) rule (λ s. s.kind) (item_layer y))))))
        (λ x y is. subst (λ z. KeptKind (roll-StmtKind z)) is
        (ap folded_kind (fold-roll-StmtKind Item StmtKind Stmt roll-Item (lower_stmt_step flags) roll-Stmt (layer y))
        ∙ (fold-roll-StmtKind A A A (of_item none) rule (λ s. s.kind) (with_exprs f (lowered_layer y))
        ∙ (level y ∙ sym (fold-roll-StmtKind A A A (of_item none) rule (λ s. s.kind) (layer y))))))
        (λ x y is. subst (λ z. Kept (roll-Stmt z)) is
        (ap folded (fold-roll-Stmt Item StmtKind Stmt roll-Item (lower_stmt_step flags) roll-Stmt _)
        ∙ (fold-roll-Stmt A A A (of_item none) rule (λ s. s.kind) _
        ∙ (y.kind.1 ∙ sym (fold-roll-Stmt A A A (of_item none) rule (λ s. s.kind) _)))))

  -- ---- leaving

  some_same : (o : Option Expr) → is_some (option_map f o) ≡ is_some o
  some_same None = refl
  some_same (Some e) = refl

  none_same : (o : Option Expr) → is_none (option_map f o) ≡ is_none o
  none_same None = refl
  none_same (Some e) = refl

  test_alone : (test step : Option Expr) → (is_some (option_map f test) && is_none (option_map f step)) ≡ (is_some test && is_none step)
  test_alone test step = ap (λ b. b && is_none (option_map f step)) (some_same test) ∙ ap (λ b. is_some test && b) (none_same step)

  header_same : (k : LoopForm) (init : List Leaving) (test step : Option Expr) → header_ok k init (option_map f test) (option_map f step) ≡ header_ok k init test step
  header_same keyword.For init test step = refl
  header_same keyword.While [] test step = test_alone test step
  header_same keyword.Do [] test step = test_alone test step
  header_same keyword.While (s ∷ ss) test step = refl
  header_same keyword.Do (s ∷ ss) test step = refl

  leave_same : (l : StmtKind-F Leaving Leaving Leaving) → leave_step (with_exprs f l) ≡ leave_step l
  leave_same (StmtKind-F.Return (Some e)) = ap (λ t. acts (λ w. fits w.ret t)) (type_kept flags e)
  leave_same (StmtKind-F.Future place captures body) =
      ap (λ t. acts (λ w. passes (body_ok body) (future_under t))) (type_kept flags place)
  leave_same (StmtKind-F.Loop id k init test step body pragmas) =
      ap (λ b. acts (λ w. b && part_ok body (in_loop w))) (header_same k init test step)
  leave_same l = refl

  pub leaving_kept : (s : Stmt) → leaving (lowered_stmt flags s) ≡ leaving s
  leaving_kept s = unchanged Leaving leaves_nothing leave_step leave_same s

  -- ---- scopes

  sees_same : (seen : List ℕ) (e : Expr) → sees seen (f e) ≡ sees seen e
  sees_same seen e = same_names (λ x. has x seen) flags e

  allows_same : (seen : List ℕ) (o : Option Expr) → allows (sees seen) (option_map f o) ≡ allows (sees seen) o
  allows_same seen None = refl
  allows_same seen (Some e) = sees_same seen e

  inits_same : (seen : List ℕ) (init : List (ℕ × Expr)) → every (map (λ i. sees seen i.1) (map (init_with f) init)) ≡ every (map (λ i. sees seen i.1) init)
  inits_same seen [] = refl
  inits_same seen (i ∷ is) = ap (λ b. b && every (map (λ i. sees seen i.1) (map (init_with f) is))) (sees_same seen i.1) ∙ ap (λ b. sees seen i.1 && b) (inits_same seen is)

  captures_same : (seen : List ℕ) (cs : List Capture) → every (map (λ c. sees seen c.from) (map (capture_with f) cs)) ≡ every (map (λ c. sees seen c.from) cs)
  captures_same seen [] = refl
  captures_same seen (c ∷ cs) = ap (λ b. b && every (map (λ c. sees seen c.from) (map (capture_with f) cs))) (sees_same seen c.from) ∙ ap (λ b. sees seen c.from && b) (captures_same seen cs)

  locals_same : (cs : List Capture) → map (λ c. c.local) (map (capture_with f) cs) ≡ map (λ c. c.local) cs
  locals_same [] = refl
  locals_same (c ∷ cs) = ap (λ xs. c.local ∷ xs) (locals_same cs)

  abbrev declares : ℕ → (List ℕ → Bool) → Sight
  declares x ok = record { adds = x ∷ []; ok = ok }

  sight_same : (l : StmtKind-F Sight Sight Sight) → sight_step (with_exprs f l) ≡ sight_step l
  sight_same (StmtKind-F.Declare x init) = ap (declares x) (fun_ext (λ seen. inits_same (x ∷ seen) init))
  sight_same (StmtKind-F.Eval e) = ap adds_none (fun_ext (λ seen. sees_same seen e))
  sight_same (StmtKind-F.If test then other) = ap adds_none (fun_ext (λ seen. ap (λ b. b && (then.ok seen && allows (λ s. s.ok seen) other)) (sees_same seen test)))
  sight_same (StmtKind-F.Loop id k init test step body pragmas) = ap adds_none (fun_ext (λ seen.
      let inner = added init seen in
      ap (λ b. sees_pragmas seen pragmas && (sees_all init seen && (b && (allows (sees inner) (option_map f step) && body.ok inner)))) (allows_same inner test)
      ∙ ap (λ b. sees_pragmas seen pragmas && (sees_all init seen && (allows (sees inner) test && (b && body.ok inner)))) (allows_same inner step)))
  sight_same (StmtKind-F.Switch value items) = ap adds_none (fun_ext (λ seen. ap (λ b. b && every (map (λ s. s.ok seen) items)) (sees_same seen value)))
  sight_same (StmtKind-F.Return e) = ap adds_none (fun_ext (λ seen. allows_same seen e))
  sight_same (StmtKind-F.Future place captures body) = ap adds_none (fun_ext (λ seen.
      ap (λ b. b && (every (map (λ c. sees seen c.from) (map (capture_with f) captures)) && body.ok (map (λ c. c.local) (map (capture_with f) captures)))) (sees_same seen place)
      ∙ (ap (λ b. sees seen place && (b && body.ok (map (λ c. c.local) (map (capture_with f) captures)))) (captures_same seen captures)
      ∙ ap (λ xs. sees seen place && (every (map (λ c. sees seen c.from) captures) && body.ok xs)) (locals_same captures))))
  sight_same l = refl

  pub sees_kept : (s : Stmt) (seen : List ℕ) → sees_ok (lowered_stmt flags s) seen ≡ sees_ok s seen
  sees_kept s seen = ap (λ (l : Sight). l.ok seen) (unchanged Sight sees_nothing sight_step sight_same s)

  -- ---- loops and declarations

  ids_same : (l : StmtKind-F (List ℕ) (List ℕ) (List ℕ)) → ids_step (with_exprs f l) ≡ ids_step l
  ids_same StmtKind-F.Empty = refl
  ids_same l = refl

  pub ids_kept : (s : Stmt) → loop_ids (lowered_stmt flags s) ≡ loop_ids s
  ids_kept s = unchanged (List ℕ) [] ids_step ids_same s

  declared_same : (l : StmtKind-F (List ℕ) (List ℕ) (List ℕ)) → declared_step (with_exprs f l) ≡ declared_step l
  declared_same (StmtKind-F.Future place captures body) = ap (λ xs. xs ++ body) (locals_same captures)
  declared_same l = refl

  pub declared_kept : (s : Stmt) → declared (lowered_stmt flags s) ≡ declared s
  declared_kept s = unchanged (List ℕ) [] declared_step declared_same s
