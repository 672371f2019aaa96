-- A statement that is well typed with all locals as objects stays so where those whose address is never taken are values.
use Rattle.std.proofs.Common.{◌≡◌, ℕ, ◌+◌, List, [], ◌∷◌, ◌++◌, length, map, Bool, true, false, refl, sym, ap, ◌∙◌, subst}
use Rattle.std.specs.Prelude.{IsTrue, ◌&&◌, nat_le, nat_lt, sum_by, Option, Some, None, option_map, slice_get}
use Rattle.std.proofs.lemmas.Option.{slice_get-map}
use Rattle.std.proofs.lemmas.List.{length-map}
use Rattle.std.proofs.lemmas.List.Sums.{sum_by-cons}
use Rattle.xc_word.specs.declared.memory.Kind.{Kind}
use Rattle.xc_word.specs.declared.memory.Kind.TheVariants as kind
use Rattle.xc_tree.specs.declared.ty.Ty.{Ty}
use Rattle.xc_tree.specs.declared.expr.Expr.{Expr}
use Rattle.xc_tree.specs.declared.expr.ExprKind.{ExprKind, out-ExprKind, roll-ExprKind}
use Rattle.xc_tree.specs.declared.expr.ExprKind.TheOpen.{ExprKind-F}
use Rattle.xc_tree.specs.declared.expr.ExprKind.TheViews.{out-roll-ExprKind}
use Rattle.xc_tree.specs.declared.expr.ExprKind.TheFolds.{fold_out-Expr, fold_out-ExprKind, map-ExprKind}
use Rattle.xc_tree.specs.declared.pragmas.Pragmas.{Pragmas}
use Rattle.xc_tree.specs.declared.pragmas.Root.{Root}
use Rattle.xc_tree.specs.declared.pragmas.Root.TheVariants as root
use Rattle.xc_tree.specs.declared.stmt.Stmt.{Stmt, roll-Stmt}
use Rattle.xc_tree.specs.declared.stmt.Capture.{Capture}
use Rattle.xc_tree.specs.declared.stmt.StmtKind.{StmtKind, roll-StmtKind}
use Rattle.xc_tree.specs.declared.stmt.Item.{Item, roll-Item}
use Rattle.xc_tree.specs.declared.stmt.Item.TheOpen.{StmtKind-F, Item-F}
use Rattle.xc_tree.specs.declared.stmt.Item.TheFolds.{fold-Stmt, fold-StmtKind, fold-Item, fold-roll-StmtKind, fold-roll-Stmt, fold-roll-Item, ind-Stmt, map-StmtKind, map-Item}
use Rattle.xc_tree.specs.declared.tree.Local.{Local}
use Rattle.xc_tree.specs.Lists.{every, joined, distinct, allows, passes, ascending}
use Rattle.xc_tree.specs.Types.{same_ty, is_number, is_plain, may_hold, cell_of, holds_pointer, pointee}
use Rattle.xc_tree.specs.Typed.{Context, expr_ok, value_ok}
use Rattle.xc_tree.specs.Walk.{of_item}
use Rattle.xc_tree.specs.Statements.{test_ok, init_ok, inits_ok, object_named, variable_named, capture_ok, root_ok, is_pointer_root, pragmas_ok, Labelled, label_step, labels_ok, choice_ok, stmt_step, stmt_ok}
use Rattle.xc_tree.proofs.Lists.{and_left, and_right, and_both}
use Rattle.xc_type_lowering.specs.Lowered.{Lowered, LoweredKind, with_kind, lower_step, lowering, lowered, read_of, init_with, capture_with, with_exprs, lower_stmt_step, lowered_stmt}
use Rattle.xc_type_lowering.specs.InnerLowered.{lowering_kind, lowered_stmt_kind, lowered_item}
use Rattle.xc_type_lowering.specs.Accessed.{only_accessed, accessed_step, stmt_accessed}
use Rattle.xc_type_lowering.specs.Kept.{with_address, with_addresses, addressed_in, values_plain, StmtKept}
use Rattle.xc_type_lowering.proofs.Names.{type_kept}
use Rattle.xc_type_lowering.proofs.Expressions.{value_kept, place_kept}

-- ---- a variable stays one

module _ (flags : List Bool) where
  abbrev lowered_layer : ExprKind-F ExprKind Expr → ExprKind-F LoweredKind Lowered
  lowered_layer l = map-ExprKind ExprKind Expr LoweredKind Lowered (lowering_kind flags) (lowering flags) l

  form_kept : (e : Expr) → (lowered flags e).kind ≡ (lower_step flags (lowered_layer (out-ExprKind e.kind))).kind
  form_kept e = ap (λ (l : Lowered). l.expr.kind) (fold_out-Expr LoweredKind Lowered (lower_step flags) with_kind e)
      ∙ ap (λ (l : LoweredKind). l.kind) (fold_out-ExprKind LoweredKind Lowered (lower_step flags) with_kind e.kind)

  rolled : (test : ExprKind-F ExprKind Expr → Bool) (l : ExprKind-F ExprKind Expr) → IsTrue (test l) → IsTrue (test (out-ExprKind (roll-ExprKind l)))
  rolled test l h = subst (λ z. IsTrue (test z)) (sym (out-roll-ExprKind l)) h

  object_form : (l : ExprKind-F ExprKind Expr) → IsTrue (object_named l) → IsTrue (object_named (out-ExprKind (lower_step flags (lowered_layer l)).kind))
  unfolding roll-ExprKind denote.Hole.Carrier.roll
  object_form (ExprKind-F.Global g) h = rolled object_named (ExprKind-F.Global g) h
  object_form (ExprKind-F.Auto x) h = rolled object_named (ExprKind-F.Auto x) h
  object_form _ h = absurd cc

  object_kept : (e : Expr) → IsTrue (object_named (out-ExprKind e.kind)) → IsTrue (object_named (out-ExprKind (lowered flags e).kind))
  object_kept e h = subst (λ k. IsTrue (object_named (out-ExprKind k))) (sym (form_kept e)) (object_form (out-ExprKind e.kind) h)

  read_kept : (place : Expr) (o : Option ℕ) → IsTrue (object_named (out-ExprKind place.kind) && passes is_plain (pointee place.ty))
      → IsTrue (variable_named (out-ExprKind (read_of kind.ReadXx o (lowered flags place))))
  unfolding roll-ExprKind denote.Hole.Carrier.roll
  read_kept place (Some x) h = rolled variable_named (ExprKind-F.Local x) refl
  read_kept place None h = rolled variable_named (ExprKind-F.Read kind.ReadXx (lowered flags place))
      (and_both (object_named (out-ExprKind (lowered flags place).kind)) _ (object_kept place (and_left _ _ h))
      (subst (λ t. IsTrue (passes is_plain (pointee t))) (sym (type_kept flags place)) (and_right (object_named (out-ExprKind place.kind)) _ h)))

  variable_form : (l : ExprKind-F ExprKind Expr) → IsTrue (variable_named l) → IsTrue (variable_named (out-ExprKind (lower_step flags (lowered_layer l)).kind))
  variable_form (ExprKind-F.Local x) h = rolled variable_named (ExprKind-F.Local x) h
  variable_form (ExprKind-F.Read kind.ReadXx place) h = read_kept place (lowering flags place).value h
  variable_form _ h = absurd cc

  variable_kept : (e : Expr) → IsTrue (variable_named (out-ExprKind e.kind)) → IsTrue (variable_named (out-ExprKind (lowered flags e).kind))
  variable_kept e h = subst (λ k. IsTrue (variable_named (out-ExprKind k))) (sym (form_kept e)) (variable_form (out-ExprKind e.kind) h)

-- ---- the parts of statements

module _ (cx : Context) (plain : IsTrue (values_plain cx)) where
  abbrev flags : List Bool
  flags = addressed_in cx

  abbrev all : Context
  all = with_addresses cx

  abbrev f : Expr → Expr
  f = lowered flags

  is_local : (x : ℕ) → IsTrue (nat_lt x (length all.locals)) → IsTrue (nat_lt x (length cx.locals))
  is_local x h = subst (λ k. IsTrue (nat_lt x k)) (length-map cx.locals with_address) h

  test_kept : (e : Expr) → IsTrue (only_accessed flags e) → IsTrue (test_ok all e) → IsTrue (test_ok cx (f e))
  test_kept e u h = and_both (value_ok cx (f e)) _ (value_kept cx plain e u (and_left _ _ h))
      (subst (λ t. IsTrue (is_plain t)) (sym (type_kept flags e)) (and_right (value_ok all e) _ h))

  tests_kept : (o : Option Expr) → IsTrue (allows (only_accessed flags) o) → IsTrue (allows (test_ok all) o) → IsTrue (allows (test_ok cx) (option_map f o))
  tests_kept None u h = refl
  tests_kept (Some e) u h = test_kept e u h

  choice_kept : (e : Expr) → IsTrue (only_accessed flags e) → IsTrue (choice_ok all e) → IsTrue (choice_ok cx (f e))
  choice_kept e u h = and_both (value_ok cx (f e)) _ (value_kept cx plain e u (and_left _ _ h))
      (subst (λ t. IsTrue (is_number t)) (sym (type_kept flags e)) (and_right (value_ok all e) _ h))

  values_kept : (o : Option Expr) → IsTrue (allows (only_accessed flags) o) → IsTrue (allows (value_ok all) o) → IsTrue (allows (value_ok cx) (option_map f o))
  values_kept None u h = refl
  values_kept (Some e) u h = value_kept cx plain e u h

  offsets_same : (init : List (ℕ × Expr)) → map (λ i. i.0) (map (init_with f) init) ≡ map (λ i. i.0) init
  offsets_same [] = refl
  offsets_same (i ∷ is) = ap (λ ks. i.0 ∷ ks) (offsets_same is)

  init_kept : (l : Local) (i : ℕ × Expr) → IsTrue (only_accessed flags i.1) → IsTrue (init_ok all (with_address l) i) → IsTrue (init_ok cx l (init_with f i))
  init_kept l i u h = and_both (value_ok cx (f i.1)) _ (value_kept cx plain i.1 u (and_left _ _ h))
      (subst (λ t. IsTrue (passes (λ c. may_hold c t) (cell_of cx.shapes l.ty i.0))) (sym (type_kept flags i.1)) (and_right (value_ok all i.1) _ h))

  inits_of : (l : Local) (init : List (ℕ × Expr)) → IsTrue (every (map (λ i. only_accessed flags i.1) init)) → IsTrue (every (map (init_ok all (with_address l)) init))
      → IsTrue (every (map (init_ok cx l) (map (init_with f) init)))
  inits_of l [] u h = refl
  inits_of l (i ∷ is) u h = and_both (init_ok cx l (init_with f i)) _ (init_kept l i (and_left _ _ u) (and_left _ _ h))
      (inits_of l is (and_right (only_accessed flags i.1) _ u) (and_right (init_ok all (with_address l) i) _ h))

  inits_kept : (o : Option Local) (init : List (ℕ × Expr)) → IsTrue (every (map (λ i. only_accessed flags i.1) init)) → IsTrue (inits_ok all (option_map with_address o) init)
      → IsTrue (inits_ok cx o (map (init_with f) init))
  inits_kept None init u h = absurd cc
  inits_kept (Some l) init u h = inits_of l init u h

  declare_kept : (x : ℕ) (init : List (ℕ × Expr)) → IsTrue (every (map (λ i. only_accessed flags i.1) init)) → IsTrue (stmt_step all (StmtKind-F.Declare x init))
      → IsTrue (stmt_step cx (StmtKind-F.Declare x (map (init_with f) init)))
  declare_kept x init u h =
      let rest = and_right (nat_lt x (length all.locals)) _ h in
      and_both (nat_lt x (length cx.locals)) _ (is_local x (and_left _ _ h))
      (and_both (ascending (map (λ i. i.0) (map (init_with f) init))) _ (subst (λ ks. IsTrue (ascending ks)) (sym (offsets_same init)) (and_left _ _ rest))
      (inits_kept (slice_get cx.locals x) init u
      (subst (λ o. IsTrue (inits_ok all o init)) (slice_get-map with_address cx.locals x) (and_right (ascending (map (λ i. i.0) init)) _ rest))))

  from_local : (p : Local → Bool) (o : Option Local) → ((l : Local) → IsTrue (p (with_address l)) → IsTrue (p l)) → IsTrue (passes p (option_map with_address o)) → IsTrue (passes p o)
  from_local p None keeps h = h
  from_local p (Some l) keeps h = keeps l h

  local_kept : (p : Local → Bool) (x : ℕ) → ((l : Local) → IsTrue (p (with_address l)) → IsTrue (p l)) → IsTrue (passes p (slice_get all.locals x)) → IsTrue (passes p (slice_get cx.locals x))
  local_kept p x keeps h = from_local p (slice_get cx.locals x) keeps (subst (λ o. IsTrue (passes p o)) (slice_get-map with_address cx.locals x) h)

  capture_kept : (c : Capture) → IsTrue (only_accessed flags c.from) → IsTrue (capture_ok all c) → IsTrue (capture_ok cx (capture_with f c))
  capture_kept c u h =
      let rest = and_right (value_ok all c.from) _ h in
      and_both (value_ok cx (f c.from)) _ (value_kept cx plain c.from u (and_left _ _ h))
      (and_both (variable_named (out-ExprKind (f c.from).kind)) _ (variable_kept flags c.from (and_left _ _ rest))
      (subst (λ t. IsTrue (passes (λ l. is_plain l.ty && same_ty l.ty t) (slice_get cx.locals c.local))) (sym (type_kept flags c.from))
      (local_kept (λ l. is_plain l.ty && same_ty l.ty c.from.ty) c.local (λ l k. k) (and_right (variable_named (out-ExprKind c.from.kind)) _ rest))))

  captures_kept : (cs : List Capture) → IsTrue (every (map (λ c. only_accessed flags c.from) cs)) → IsTrue (every (map (capture_ok all) cs)) → IsTrue (every (map (capture_ok cx) (map (capture_with f) cs)))
  captures_kept [] u h = refl
  captures_kept (c ∷ cs) u h = and_both (capture_ok cx (capture_with f c)) _ (capture_kept c (and_left _ _ u) (and_left _ _ h))
      (captures_kept cs (and_right (only_accessed flags c.from) _ u) (and_right (capture_ok all c) _ h))

  root_kept : (r : Root) → IsTrue (root_ok all r) → IsTrue (root_ok cx r)
  root_kept (root.Global g) h = h
  root_kept (root.Local x) h = is_local x h
  root_kept (root.GlobalPointer g) h = h
  root_kept (root.LocalPointer x) h = local_kept (λ l. holds_pointer l.ty) x (λ l k. k) h
  root_kept root.Other h = h

  roots_kept : (rs : List Root) → IsTrue (every (map (root_ok all) rs)) → IsTrue (every (map (root_ok cx) rs))
  roots_kept [] h = refl
  roots_kept (r ∷ rs) h = and_both (root_ok cx r) _ (root_kept r (and_left _ _ h)) (roots_kept rs (and_right (root_ok all r) _ h))

  pointers_kept : (rs : List Root) → IsTrue (every (map (λ r. is_pointer_root r && root_ok all r) rs)) → IsTrue (every (map (λ r. is_pointer_root r && root_ok cx r) rs))
  pointers_kept [] h = refl
  pointers_kept (r ∷ rs) h =
      let here : IsTrue (is_pointer_root r && root_ok all r) = and_left _ _ h in
      and_both (is_pointer_root r && root_ok cx r) _ (and_both (is_pointer_root r) _ (and_left _ _ here) (root_kept r (and_right (is_pointer_root r) _ here)))
      (pointers_kept rs (and_right (is_pointer_root r && root_ok all r) _ h))

  pragmas_kept : (p : Pragmas) → IsTrue (pragmas_ok all p) → IsTrue (pragmas_ok cx p)
  unfolding pragmas_ok
  pragmas_kept p h =
      let most = and_right (nat_le 1 p.streams) _ h in
      let rest = and_right (nat_le p.streams 8192) _ most in
      and_both (nat_le 1 p.streams) _ (and_left _ _ h)
      (and_both (nat_le p.streams 8192) _ (and_left _ _ most)
      (and_both (every (map (root_ok cx) p.nodep)) _ (roots_kept p.nodep (and_left _ _ rest)) (pointers_kept p.noalias (and_right (every (map (root_ok all) p.nodep)) _ rest))))

  -- ---- statements

  abbrev ok_in : Context → StmtKind → Bool
  ok_in c = fold-StmtKind Labelled Bool Bool label_step (stmt_step c) (λ s. s.kind)

  abbrev item_in : Context → Item → Labelled
  item_in c = fold-Item Labelled Bool Bool label_step (stmt_step c) (λ s. s.kind)

  abbrev accessed_in : StmtKind → Bool
  accessed_in = fold-StmtKind Bool Bool Bool (of_item true) (accessed_step flags) (λ s. s.kind)

  abbrev accessed_item : Item → Bool
  accessed_item = fold-Item Bool Bool Bool (of_item true) (accessed_step flags) (λ s. s.kind)

  -- the same labels, and a statement that stays well typed
  record Relabelled (used : Bool) (old new : Labelled) : Type 0 where
    pub cases : new.cases ≡ old.cases
    pub defaults : new.defaults ≡ old.defaults
    pub ok : IsTrue used → IsTrue old.ok → IsTrue new.ok

  abbrev KeptItem : Item → Type 0
  KeptItem i = Relabelled (accessed_item i) (item_in all i) (item_in cx (lowered_item flags i))

  abbrev KeptKind : StmtKind → Type 0
  KeptKind k = IsTrue (accessed_in k) → IsTrue (ok_in all k) → IsTrue (ok_in cx (lowered_stmt_kind flags k))

  abbrev Kept : Stmt → Type 0
  Kept s = IsTrue (stmt_accessed flags s) → IsTrue (stmt_ok all s) → IsTrue (stmt_ok cx (lowered_stmt flags s))

  abbrev Child : Type 0
  Child = (s : Stmt) × Kept s

  abbrev KindChild : Type 0
  KindChild = (k : StmtKind) × KeptKind k

  abbrev ItemChild : Type 0
  ItemChild = (i : Item) × KeptItem i

  abbrev layer : StmtKind-F ItemChild KindChild Child → StmtKind-F Item StmtKind Stmt
  layer y = map-StmtKind ItemChild KindChild Child Item StmtKind Stmt (λ i. i.0) (λ k. k.0) (λ s. s.0) y

  abbrev ok_layer : Context → StmtKind-F Item StmtKind Stmt → StmtKind-F Labelled Bool Bool
  ok_layer c l = map-StmtKind Item StmtKind Stmt Labelled Bool Bool (item_in c) (ok_in c) (stmt_ok c) l

  abbrev accessed_layer : StmtKind-F Item StmtKind Stmt → StmtKind-F Bool Bool Bool
  accessed_layer l = map-StmtKind Item StmtKind Stmt Bool Bool Bool accessed_item accessed_in (stmt_accessed flags) l

  abbrev lowered_stmts : StmtKind-F Item StmtKind Stmt → StmtKind-F Item StmtKind Stmt
  lowered_stmts l = map-StmtKind Item StmtKind Stmt Item StmtKind Stmt (lowered_item flags) (lowered_stmt_kind flags) (lowered_stmt flags) l

  abbrev item_layer : Item-F ItemChild KindChild Child → Item-F Item StmtKind Stmt
  item_layer y = map-Item ItemChild KindChild Child Item StmtKind Stmt (λ i. i.0) (λ k. k.0) (λ s. s.0) y

  abbrev ok_item_layer : Context → Item-F Item StmtKind Stmt → Item-F Labelled Bool Bool
  ok_item_layer c l = map-Item Item StmtKind Stmt Labelled Bool Bool (item_in c) (ok_in c) (stmt_ok c) l

  abbrev accessed_item_layer : Item-F Item StmtKind Stmt → Item-F Bool Bool Bool
  accessed_item_layer l = map-Item Item StmtKind Stmt Bool Bool Bool accessed_item accessed_in (stmt_accessed flags) l

  abbrev lowered_items : Item-F Item StmtKind Stmt → Item-F Item StmtKind Stmt
  lowered_items l = map-Item Item StmtKind Stmt Item StmtKind Stmt (lowered_item flags) (lowered_stmt_kind flags) (lowered_stmt flags) l

  abbrev new : Child → Bool
  new s = stmt_ok cx (lowered_stmt flags s.0)

  abbrev old : Child → Bool
  old s = stmt_ok all s.0

  abbrev use_ok : Child → Bool
  use_ok s = stmt_accessed flags s.0

  rows : (ss : List Child) → IsTrue (every (map (stmt_accessed flags) (map (λ s. s.0) ss))) → IsTrue (every (map (stmt_ok all) (map (λ s. s.0) ss)))
      → IsTrue (every (map (stmt_ok cx) (map (lowered_stmt flags) (map (λ s. s.0) ss))))
  rows [] u h = refl
  rows (s ∷ ss) u h = and_both (new s) _ (s.1 (and_left _ _ u) (and_left _ _ h)) (rows ss (and_right (use_ok s) _ u) (and_right (old s) _ h))

  -- ---- the items of a `switch`

  abbrev news : List ItemChild → List Labelled
  news is = map (item_in cx) (map (lowered_item flags) (map (λ i. i.0) is))

  abbrev olds : List ItemChild → List Labelled
  olds is = map (item_in all) (map (λ i. i.0) is)

  cases_same : (is : List ItemChild) → joined (map (λ (i : Labelled). i.cases) (news is)) ≡ joined (map (λ (i : Labelled). i.cases) (olds is))
  cases_same [] = refl
  cases_same (i ∷ is) = ap (λ ns. ns ++ joined (map (λ (i : Labelled). i.cases) (news is))) i.1.cases ∙ ap (λ ns. (item_in all i.0).cases ++ ns) (cases_same is)

  defaults_same : (is : List ItemChild) → sum_by (λ (i : Labelled). i.defaults) (news is) ≡ sum_by (λ (i : Labelled). i.defaults) (olds is)
  defaults_same [] = refl
  defaults_same (i ∷ is) =
      let count : Labelled → ℕ = λ i. i.defaults in
      let this = item_in cx (lowered_item flags i.0) in
      sum_by-cons count this (news is) ∙ (ap (λ n. n + sum_by count (news is)) i.1.defaults ∙ (ap (λ n. (item_in all i.0).defaults + n) (defaults_same is)
      ∙ sym (sum_by-cons count (item_in all i.0) (olds is))))

  labels_kept : (is : List ItemChild) → IsTrue (labels_ok (olds is)) → IsTrue (labels_ok (news is))
  labels_kept is h = subst (λ ns. IsTrue (distinct ns && nat_le (sum_by (λ (i : Labelled). i.defaults) (news is)) 1)) (sym (cases_same is))
      (subst (λ n. IsTrue (distinct (joined (map (λ (i : Labelled). i.cases) (olds is))) && nat_le n 1)) (sym (defaults_same is)) h)

  items_kept : (is : List ItemChild) → IsTrue (every (map accessed_item (map (λ i. i.0) is))) → IsTrue (every (map (λ (i : Labelled). i.ok) (olds is))) → IsTrue (every (map (λ (i : Labelled). i.ok) (news is)))
  items_kept [] u h = refl
  items_kept (i ∷ is) u h = and_both (item_in cx (lowered_item flags i.0)).ok _ (i.1.ok (and_left _ _ u) (and_left _ _ h))
      (items_kept is (and_right (accessed_item i.0) _ u) (and_right (item_in all i.0).ok _ h))

  item_level : (y : Item-F ItemChild KindChild Child)
      → Relabelled (of_item true (accessed_item_layer (item_layer y))) (label_step (ok_item_layer all (item_layer y))) (label_step (ok_item_layer cx (lowered_items (item_layer y))))
  item_level (Item-F.At n) = record { cases = refl; defaults = refl; ok = λ u h. refl }
  item_level Item-F.Other = record { cases = refl; defaults = refl; ok = λ u h. refl }
  item_level (Item-F.Do s) = record { cases = refl; defaults = refl; ok = s.1 }

  item_kept : (y : Item-F ItemChild KindChild Child) → KeptItem (roll-Item (item_layer y))
  item_kept y =
      let i = roll-Item (item_layer y) in
      let new_is : item_in cx (lowered_item flags i) ≡ label_step (ok_item_layer cx (lowered_items (item_layer y))) =
      ap (item_in cx) (fold-roll-Item Item StmtKind Stmt roll-Item (lower_stmt_step flags) roll-Stmt (item_layer y))
      ∙ fold-roll-Item Labelled Bool Bool label_step (stmt_step cx) (λ s. s.kind) (lowered_items (item_layer y)) in
      let old_is : item_in all i ≡ label_step (ok_item_layer all (item_layer y)) = fold-roll-Item Labelled Bool Bool label_step (stmt_step all) (λ s. s.kind) (item_layer y) in
      let use_is : accessed_item i ≡ of_item true (accessed_item_layer (item_layer y)) = fold-roll-Item Bool Bool Bool (of_item true) (accessed_step flags) (λ s. s.kind) (item_layer y) in
      subst (λ u. Relabelled u (item_in all i) (item_in cx (lowered_item flags i))) (sym use_is)
      (subst (λ o. Relabelled (of_item true (accessed_item_layer (item_layer y))) o (item_in cx (lowered_item flags i))) (sym old_is)
      (subst (λ n. Relabelled (of_item true (accessed_item_layer (item_layer y))) (label_step (ok_item_layer all (item_layer y))) n) (sym new_is) (item_level y)))

  level : (y : StmtKind-F ItemChild KindChild Child) → IsTrue (accessed_step flags (accessed_layer (layer y))) → IsTrue (stmt_step all (ok_layer all (layer y)))
      → IsTrue (stmt_step cx (ok_layer cx (with_exprs f (lowered_stmts (layer y)))))
  level StmtKind-F.Empty u h = refl
  level (StmtKind-F.Declare x init) u h = declare_kept x init u h
  level (StmtKind-F.Eval e) u h = value_kept cx plain e u h
  level (StmtKind-F.Block all) u h = rows all u h
  level (StmtKind-F.If test then None) u h =
      let us = and_right (only_accessed flags test) _ u in
      let hs = and_right (test_ok all test) _ h in
      and_both (test_ok cx (f test)) _ (test_kept test (and_left _ _ u) (and_left _ _ h)) (and_both (new then) true (then.1 (and_left _ _ us) (and_left _ _ hs)) refl)
  level (StmtKind-F.If test then (Some other)) u h =
      let us = and_right (only_accessed flags test) _ u in
      let hs = and_right (test_ok all test) _ h in
      and_both (test_ok cx (f test)) _ (test_kept test (and_left _ _ u) (and_left _ _ h))
      (and_both (new then) _ (then.1 (and_left _ _ us) (and_left _ _ hs)) (other.1 (and_right (use_ok then) _ us) (and_right (old then) _ hs)))
  level (StmtKind-F.Loop id k init test step body pragmas) u h =
      let u1 = and_right (every (map (stmt_accessed flags) (map (λ s. s.0) init))) _ u in
      let u2 = and_right (allows (only_accessed flags) test) _ u1 in
      let h1 = and_right (every (map (stmt_ok all) (map (λ s. s.0) init))) _ h in
      let h2 = and_right (allows (test_ok all) test) _ h1 in
      let h3 = and_right (allows (value_ok all) step) _ h2 in
      and_both (every (map (stmt_ok cx) (map (lowered_stmt flags) (map (λ s. s.0) init)))) _ (rows init (and_left _ _ u) (and_left _ _ h))
      (and_both (allows (test_ok cx) (option_map f test)) _ (tests_kept test (and_left _ _ u1) (and_left _ _ h1))
      (and_both (allows (value_ok cx) (option_map f step)) _ (values_kept step (and_left _ _ u2) (and_left _ _ h2))
      (and_both (new body) _ (body.1 (and_right (allows (only_accessed flags) step) _ u2) (and_left _ _ h3)) (pragmas_kept pragmas (and_right (old body) _ h3)))))
  level (StmtKind-F.Switch value items) u h =
      let hs = and_right (choice_ok all value) _ h in
      and_both (choice_ok cx (f value)) _ (choice_kept value (and_left _ _ u) (and_left _ _ h))
      (and_both (labels_ok (news items)) _ (labels_kept items (and_left _ _ hs))
      (items_kept items (and_right (only_accessed flags value) _ u) (and_right (labels_ok (olds items)) _ hs)))
  level (StmtKind-F.Return e) u h = values_kept e u h
  level StmtKind-F.Break u h = refl
  level StmtKind-F.Continue u h = refl
  level (StmtKind-F.Future place captures body) u h =
      let us = and_right (only_accessed flags place) _ u in
      let hs = and_right (expr_ok all place) _ h in
      and_both (expr_ok cx (f place)) _ (place_kept cx plain place (and_left _ _ u) (and_left _ _ h))
      (and_both (every (map (capture_ok cx) (map (capture_with f) captures))) _ (captures_kept captures (and_left _ _ us) (and_left _ _ hs))
      (body.1 (and_right (every (map (λ c. only_accessed flags c.from) captures)) _ us) (and_right (every (map (capture_ok all) captures)) _ hs)))

  stmt_kept : (s : Stmt) → Kept s
  stmt_kept = ind-Stmt KeptItem KeptKind Kept
      (λ x y is. subst (λ z. KeptItem (roll-Item z)) is (item_kept y))
      (λ x y is. subst (λ z. KeptKind (roll-StmtKind z)) is (λ u h.
      let new_is = ap (ok_in cx) (fold-roll-StmtKind Item StmtKind Stmt roll-Item (lower_stmt_step flags) roll-Stmt (layer y))
      ∙ fold-roll-StmtKind Labelled Bool Bool label_step (stmt_step cx) (λ s. s.kind) (with_exprs f (lowered_stmts (layer y))) in
      subst IsTrue (sym new_is) (level y
      (subst IsTrue (fold-roll-StmtKind Bool Bool Bool (of_item true) (accessed_step flags) (λ s. s.kind) (layer y)) u)
      (subst IsTrue (fold-roll-StmtKind Labelled Bool Bool label_step (stmt_step all) (λ s. s.kind) (layer y)) h))))
      (λ x y is. subst (λ z. Kept (roll-Stmt z)) is (λ u h.
      let new_is = ap (stmt_ok cx) (fold-roll-Stmt Item StmtKind Stmt roll-Item (lower_stmt_step flags) roll-Stmt (record { span = y.span; kind = y.kind.0 }))
      ∙ fold-roll-Stmt Labelled Bool Bool label_step (stmt_step cx) (λ s. s.kind) (record { span = y.span; kind = lowered_stmt_kind flags y.kind.0 }) in
      subst IsTrue (sym new_is) (y.kind.1
      (subst IsTrue (fold-roll-Stmt Bool Bool Bool (of_item true) (accessed_step flags) (λ s. s.kind) (record { span = y.span; kind = y.kind.0 })) u)
      (subst IsTrue (fold-roll-Stmt Labelled Bool Bool label_step (stmt_step all) (λ s. s.kind) (record { span = y.span; kind = y.kind.0 })) h))))

pub stmt_typed : (addressed : List Bool) (s : Stmt) → StmtKept addressed s (lowered_stmt addressed s)
stmt_typed addressed s cx is plain u h =
    subst (λ g. IsTrue (stmt_ok cx (lowered_stmt g s))) (sym is) (stmt_kept cx plain s (subst (λ g. IsTrue (stmt_accessed g s)) is u) h)
