-- Types that declarators may make, by their outermost part.
use Rattle.std.proofs.Common.{◌≡◌, ℕ, ◌*◌, ◌-◌, ◌^◌, ◌≤◌, min, List, length, refl, sym, ap, ◌∙◌, subst, arith}
use Rattle.std.specs.Prelude.{IsTrue, ◌&&◌, ◌||◌, nat_le, nat_lt, is_some}
use Rattle.std.proofs.lemmas.Option.{slice_get_within}
use Rattle.std.proofs.lemmas.Bool.{lt-ltb, leb-true}
use Rattle.xc_tree.specs.declared.ty.Ty.{Ty, out-Ty, roll-Ty, roll-out-Ty, out-roll-Ty, Void, Int, Uint, Ptr, Array, Struct, Sync, Future}
use Rattle.xc_tree.specs.declared.ty.Ty.TheOpen.{Ty-F}
use Rattle.xc_tree.specs.declared.ty.Ty.TheFolds.{ind-Ty, map-Ty, fold-roll-Ty}
use Rattle.xc_tree.proofs.Lists.{and_left, and_right, and_both}
use Rattle.xc_tree.specs.Types.{void_at, is_void, plain_at, is_plain, base_at, base, is_size}
use Rattle.xc_type_rule.specs.Cells.{cells, cells_step, listed}
use Rattle.xc_welltyped_claims.specs.Types.{Promise, promise_step, promised, will_be_object, may_be_pointed_to}
use Rattle.xc_welltyped_structs.proofs.Promises.{sized_stands}

pub size_most : (n : ℕ) → IsTrue (is_size n) → n ≤ 2 ^ 22
size_most n h = leb-true n (2 ^ 22) (and_right (nat_le 1 n) _ h)

pub size_least : (n : ℕ) → IsTrue (is_size n) → 1 ≤ n
size_least n h = leb-true 1 n (and_left (nat_le 1 n) _ h)

pub at_layer : (P : Ty → Type 0) → ((l : Ty-F Ty) → P (roll-Ty l)) → (t : Ty) → P t
at_layer P f t = subst P (roll-out-Ty t) (f (out-Ty t))

module _ (ns : List ℕ) where
  abbrev folded : Ty-F Ty → Promise
  folded l = promise_step ns (map-Ty Ty Promise (promised ns) l)

  rolled : (l : Ty-F Ty) → promised ns (roll-Ty l) ≡ folded l
  rolled l = fold-roll-Ty Promise (promise_step ns) l

  -- the type of a promise ---------------------------------------------------------

  abbrev Same : Ty → Type 0
  Same t = (promised ns t).ty ≡ t

  same_level : (y : Ty-F ((t : Ty) × Same t)) → (folded (map-Ty ((t : Ty) × Same t) Ty (λ c. c.0) y)).ty ≡ roll-Ty (map-Ty ((t : Ty) × Same t) Ty (λ c. c.0) y)
  unfolding roll-Ty denote.Hole.Carrier.roll
  same_level Ty-F.Void = refl
  same_level Ty-F.Int = refl
  same_level Ty-F.Uint = refl
  same_level (Ty-F.Ptr c) = ap Ptr c.1
  same_level (Ty-F.Array n c) = ap (Array n) c.1
  same_level (Ty-F.Struct s) = refl
  same_level (Ty-F.Sync c) = ap Sync c.1
  same_level (Ty-F.Future c) = ap Future c.1

  pub promised_same : (t : Ty) → (promised ns t).ty ≡ t
  promised_same = ind-Ty Same (λ x y is. subst (λ z. Same (roll-Ty z)) is
      (ap (λ (p : Promise). p.ty) (rolled (map-Ty ((t : Ty) × Same t) Ty (λ c. c.0) y)) ∙ same_level y))

  -- the cells of a promise ----------------------------------------------------------

  abbrev Sized : Ty → Type 0
  Sized t = IsTrue (will_be_object ns t) → cells ns t ≡ (promised ns t).size

  abbrev Child : Type 0
  Child = (t : Ty) × Sized t

  abbrev layer : Ty-F Child → Ty-F Ty
  layer y = map-Ty Child Ty (λ c. c.0) y

  cut : (n : ℕ) → IsTrue (is_size n) → min n (2 ^ 32 - 1) ≡ n
  cut n h = let few = size_most n h in omega (arith, few)

  size_level : (y : Ty-F Child) → IsTrue (folded (layer y)).kept → cells_step ns (map-Ty Ty ℕ (cells ns) (layer y)) ≡ (folded (layer y)).size
  size_level Ty-F.Void h = refl
  size_level Ty-F.Int h = refl
  size_level Ty-F.Uint h = refl
  size_level (Ty-F.Ptr c) h = refl
  size_level (Ty-F.Array n c) h = ap (λ k. min (n * k) (2 ^ 32 - 1)) (c.1 (and_left (promised ns c.0).kept _ h))
      ∙ cut (n * (promised ns c.0).size) (and_right (promised ns c.0).kept _ h)
  size_level (Ty-F.Struct s) h = refl
  size_level (Ty-F.Sync c) h = refl
  size_level (Ty-F.Future c) h = refl

  pub promised_cells : (t : Ty) → IsTrue (will_be_object ns t) → cells ns t ≡ (promised ns t).size
  promised_cells = ind-Ty Sized (λ x y is. subst (λ z. Sized (roll-Ty z)) is (λ h.
      fold-roll-Ty ℕ (cells_step ns) (layer y) ∙ size_level y (subst (λ (p : Promise). IsTrue p.kept) (rolled (layer y)) h)
      ∙ ap (λ (p : Promise). p.size) (sym (rolled (layer y)))))

  -- where a pointer may lead ----------------------------------------------------------

  pointed_level : (l : Ty-F Ty) → IsTrue (folded l).kept → IsTrue (folded l).pointed
  pointed_level Ty-F.Void h = h
  pointed_level Ty-F.Int h = h
  pointed_level Ty-F.Uint h = h
  pointed_level (Ty-F.Ptr t) h = h
  pointed_level (Ty-F.Array n t) h = h
  pointed_level (Ty-F.Struct s) h = lt-ltb s (length ns) (slice_get_within ns s (listed ns s) (sized_stands ns s h))
  pointed_level (Ty-F.Sync t) h = h
  pointed_level (Ty-F.Future t) h = h

  pub kept_pointed : (t : Ty) → IsTrue (will_be_object ns t) → IsTrue (may_be_pointed_to ns t)
  kept_pointed = at_layer (λ t. IsTrue (will_be_object ns t) → IsTrue (may_be_pointed_to ns t))
      (λ l. subst (λ (p : Promise). IsTrue p.kept → IsTrue p.pointed) (sym (rolled l)) (pointed_level l))

  -- void, or one to which a pointer may lead ------------------------------------------

  abbrev pub Led : Ty → Type 0
  Led t = IsTrue (is_void t || may_be_pointed_to ns t)

  abbrev led : Ty-F Ty → Type 0
  led l = IsTrue (void_at l || (folded l).pointed)

  led_level : (l : Ty-F Ty) → Led (roll-Ty l) → led l
  led_level l h = let o = out-roll-Ty l in let r = rolled l in
      let e : (is_void (roll-Ty l) || may_be_pointed_to ns (roll-Ty l)) ≡ (void_at l || (folded l).pointed) = (λ i. void_at (o i) || (r i).pointed) in
      subst IsTrue e h

  complete_level : (l : Ty-F Ty) → led l → IsTrue (is_size (cells_step ns (map-Ty Ty ℕ (cells ns) l))) → IsTrue (folded l).kept
  complete_level Ty-F.Void h w = absurd cc
  complete_level Ty-F.Int h w = h
  complete_level Ty-F.Uint h w = h
  complete_level (Ty-F.Ptr t) h w = h
  complete_level (Ty-F.Array n t) h w = h
  complete_level (Ty-F.Struct s) h w = w
  complete_level (Ty-F.Sync t) h w = h
  complete_level (Ty-F.Future t) h w = h

  -- it has cells
  pub complete_kept : (t : Ty) → Led t → IsTrue (is_size (cells ns t)) → IsTrue (will_be_object ns t)
  complete_kept = at_layer (λ t. Led t → IsTrue (is_size (cells ns t)) → IsTrue (will_be_object ns t)) (λ l h w.
      subst (λ (p : Promise). IsTrue p.kept) (sym (rolled l))
      (complete_level l (led_level l h) (subst (λ n. IsTrue (is_size n)) (fold-roll-Ty ℕ (cells_step ns) l) w)))

  scalar_level : (t : Ty) (l : Ty-F Ty) → led l → IsTrue (is_some (base_at t l)) → IsTrue (folded l).kept
  scalar_level u Ty-F.Void h w = absurd cc
  scalar_level u Ty-F.Int h w = h
  scalar_level u Ty-F.Uint h w = h
  scalar_level u (Ty-F.Ptr t) h w = h
  scalar_level u (Ty-F.Array n t) h w = absurd cc
  scalar_level u (Ty-F.Struct s) h w = absurd cc
  scalar_level u (Ty-F.Sync t) h w = h
  scalar_level u (Ty-F.Future t) h w = h

  -- it is a scalar
  pub scalar_kept : (t : Ty) → Led t → IsTrue (is_some (base t)) → IsTrue (will_be_object ns t)
  scalar_kept = at_layer (λ t. Led t → IsTrue (is_some (base t)) → IsTrue (will_be_object ns t)) (λ l h w.
      subst (λ (p : Promise). IsTrue p.kept) (sym (rolled l))
      (scalar_level (roll-Ty l) l (led_level l h) (subst (λ y. IsTrue (is_some (base_at (roll-Ty l) y))) (out-roll-Ty l) w)))

  result_level : (l : Ty-F Ty) → led l → IsTrue (void_at l || plain_at l) → IsTrue (void_at l || (plain_at l && (folded l).kept))
  result_level Ty-F.Void h w = refl
  result_level Ty-F.Int h w = refl
  result_level Ty-F.Uint h w = refl
  result_level (Ty-F.Ptr t) h w = h
  result_level (Ty-F.Array n t) h w = absurd cc
  result_level (Ty-F.Struct s) h w = absurd cc
  result_level (Ty-F.Sync t) h w = absurd cc
  result_level (Ty-F.Future t) h w = absurd cc

  -- void, or a plain scalar
  pub result_kept : (t : Ty) → Led t → IsTrue (is_void t || is_plain t) → IsTrue (is_void t || (is_plain t && will_be_object ns t))
  result_kept = at_layer (λ t. Led t → IsTrue (is_void t || is_plain t) → IsTrue (is_void t || (is_plain t && will_be_object ns t))) (λ l h w.
      let o = out-roll-Ty l in
      let r = rolled l in
      let e : (is_void (roll-Ty l) || (is_plain (roll-Ty l) && will_be_object ns (roll-Ty l))) ≡ (void_at l || (plain_at l && (folded l).kept)) = (λ i. void_at (o i) || (plain_at (o i) && (r i).kept)) in
      subst IsTrue (sym e) (result_level l (led_level l h) (subst (λ y. IsTrue (void_at y || plain_at y)) o w)))

  -- single types ----------------------------------------------------------------------

  pub pointer_kept : (t : Ty) → IsTrue (may_be_pointed_to ns t) → IsTrue (will_be_object ns (Ptr t))
  unfolding roll-Ty denote.Hole.Carrier.roll
  pointer_kept t h = subst (λ (p : Promise). IsTrue p.kept) (sym (rolled (Ty-F.Ptr t))) h

  pub struct_pointed : (s : ℕ) → IsTrue (nat_lt s (length ns)) → IsTrue (may_be_pointed_to ns (Struct s))
  unfolding roll-Ty denote.Hole.Carrier.roll
  struct_pointed s h = subst (λ (p : Promise). IsTrue p.pointed) (sym (rolled (Ty-F.Struct s))) h

  pub int_kept : IsTrue (will_be_object ns Int)
  unfolding roll-Ty denote.Hole.Carrier.roll
  int_kept = subst (λ (p : Promise). IsTrue p.kept) (sym (rolled Ty-F.Int)) refl

  pub uint_kept : IsTrue (will_be_object ns Uint)
  unfolding roll-Ty denote.Hole.Carrier.roll
  uint_kept = subst (λ (p : Promise). IsTrue p.kept) (sym (rolled Ty-F.Uint)) refl

  pub sync_kept : (t : Ty) → IsTrue (will_be_object ns t) → IsTrue (is_plain t) → IsTrue (will_be_object ns (Sync t))
  unfolding roll-Ty denote.Hole.Carrier.roll
  sync_kept t h w = subst (λ (p : Promise). IsTrue p.kept) (sym (rolled (Ty-F.Sync t)))
      (and_both (promised ns t).kept _ h (subst (λ u. IsTrue (is_plain u)) (sym (promised_same t)) w))

  pub future_kept : (t : Ty) → IsTrue (will_be_object ns t) → IsTrue (is_plain t) → IsTrue (will_be_object ns (Future t))
  unfolding roll-Ty denote.Hole.Carrier.roll
  future_kept t h w = subst (λ (p : Promise). IsTrue p.kept) (sym (rolled (Ty-F.Future t)))
      (and_both (promised ns t).kept _ h (subst (λ u. IsTrue (is_plain u)) (sym (promised_same t)) w))

  pub array_kept : (n : ℕ) (t : Ty) → IsTrue (will_be_object ns t) → IsTrue (is_size (n * (promised ns t).size)) → IsTrue (will_be_object ns (Array n t)) × ((promised ns (Array n t)).size ≡ n * (promised ns t).size)
  unfolding roll-Ty denote.Hole.Carrier.roll
  array_kept n t h w = (
    subst (λ (p : Promise). IsTrue p.kept) (sym (rolled (Ty-F.Array n t))) (and_both (promised ns t).kept _ h w),
    ap (λ (p : Promise). p.size) (rolled (Ty-F.Array n t)),
  )

pub void_is : IsTrue (is_void Void)
unfolding roll-Ty denote.Hole.Carrier.roll
void_is = ap void_at (out-roll-Ty Ty-F.Void)

pub int_plain : IsTrue (is_plain Int)
unfolding roll-Ty denote.Hole.Carrier.roll
int_plain = ap plain_at (out-roll-Ty Ty-F.Int)

pub uint_plain : IsTrue (is_plain Uint)
unfolding roll-Ty denote.Hole.Carrier.roll
uint_plain = ap plain_at (out-roll-Ty Ty-F.Uint)

pub pointer_plain : (t : Ty) → IsTrue (is_plain (Ptr t))
unfolding roll-Ty denote.Hole.Carrier.roll
pointer_plain t = ap plain_at (out-roll-Ty (Ty-F.Ptr t))
