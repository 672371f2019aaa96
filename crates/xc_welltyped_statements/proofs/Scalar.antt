-- Each cell of an object is a scalar.
use Rattle.std.proofs.Common.{◌≡◌, ℕ, zero, suc, ◌-◌, ◌*◌, ◌%◌, ◌<◌, List, [], ◌∷◌, length, map, Bool, true, false, refl, sym, ap, ◌∙◌, subst, arith}
use Rattle.std.specs.Prelude.{IsTrue, is_some, nat_lt, ◌==◌, if◌then◌else◌, sum_by, Option, Some, None, slice_get}
use Rattle.std.proofs.lemmas.Bool.{lt-ltb, ltb-true, ltb-false}
use Rattle.std.proofs.lemmas.Nat.{mod_below}
use Rattle.std.proofs.lemmas.List.Sums.{sum_by-cons}
use Rattle.xc_tree.specs.declared.ty.Ty.{Ty, Int, Uint, Ptr, Sync, Future, roll-Ty, out-roll-Ty}
use Rattle.xc_tree.specs.declared.ty.Ty.TheOpen.{Ty-F}
use Rattle.xc_tree.specs.declared.ty.Ty.TheFolds.{ind-Ty, map-Ty, fold-roll-Ty}
use Rattle.xc_tree.specs.Lists.{passes}
use Rattle.xc_tree.specs.Types.{Shape, Formed, formed, form_step, struct_formed, base, base_at, in_order, cell_in, shape_of, size_of, cell_of, shapes_within, struct_shapes}
use Rattle.xc_welltyped_claims.proofs.RankLevels.{some_within, none_within}

-- a scalar
abbrev pub is_scalar : Ty → Bool
is_scalar c = is_some (base c)

abbrev pub Scalars : Shape → Type 0
Scalars h = (k : ℕ) → k < h.size → IsTrue (passes is_scalar (h.cell k))

pub int_scalar : IsTrue (is_scalar Int)
unfolding roll-Ty denote.Hole.Carrier.roll
int_scalar = ap (λ (l : Ty-F Ty). is_some (base_at Int l)) (out-roll-Ty Ty-F.Int)

pub uint_scalar : IsTrue (is_scalar Uint)
unfolding roll-Ty denote.Hole.Carrier.roll
uint_scalar = ap (λ (l : Ty-F Ty). is_some (base_at Uint l)) (out-roll-Ty Ty-F.Uint)

pub pointer_scalar : (t : Ty) → IsTrue (is_scalar (Ptr t))
unfolding roll-Ty denote.Hole.Carrier.roll
pointer_scalar t = ap (λ (l : Ty-F Ty). is_some (base_at (Ptr t) l)) (out-roll-Ty (Ty-F.Ptr t))

pub sync_scalar : (t : Ty) → IsTrue (is_scalar (Sync t))
unfolding roll-Ty denote.Hole.Carrier.roll
sync_scalar t = ap (λ (l : Ty-F Ty). is_some (base_at (Sync t) l)) (out-roll-Ty (Ty-F.Sync t))

pub future_scalar : (t : Ty) → IsTrue (is_scalar (Future t))
unfolding roll-Ty denote.Hole.Carrier.roll
future_scalar t = ap (λ (l : Ty-F Ty). is_some (base_at (Future t) l)) (out-roll-Ty (Ty-F.Future t))

abbrev AllScalars : List Shape → Type 0
AllScalars S = (s : ℕ) (h : Shape) → slice_get S s ≡ Some h → Scalars h

some_size : (n k s : ℕ) → k < n * s → 0 < s
some_size n k zero lt = absurd (omega (arith, lt))
some_size n k (suc s) lt = omega arith

module _ (S : List Shape) (all : AllScalars S) where
  abbrev Child : Type 0
  Child = (t : Ty) × Scalars (shape_of S t)

  abbrev layer : Ty-F Child → Ty-F Ty
  layer y = map-Ty Child Ty (λ c. c.0) y

  one : (u : Ty) → IsTrue (is_scalar u) → (k : ℕ) → k < 1 → IsTrue (passes is_scalar (if k == 0 then Some u else None))
  one u h zero lt = h
  one u h (suc k) lt = absurd (omega (arith, lt))

  elements : (n : ℕ) (c : Child) (k : ℕ) → k < n * size_of S c.0 → IsTrue (passes is_scalar (if nat_lt k (n * size_of S c.0) then cell_of S c.0 (k % size_of S c.0) else None))
  elements n c k lt = subst (λ b. IsTrue (passes is_scalar (if b then cell_of S c.0 (k % size_of S c.0) else None))) (sym (lt-ltb k (n * size_of S c.0) lt))
      (c.1 (k % size_of S c.0) (mod_below k (size_of S c.0) (some_size n k (size_of S c.0) lt)))

  of_struct : (s : ℕ) (o : Option Shape) → slice_get S s ≡ o → Scalars (struct_formed s o).shape
  of_struct s None e k lt = absurd (omega (arith, lt))
  of_struct s (Some h) e k lt = all s h e k lt

  level : (y : Ty-F Child) → Scalars (form_step S (map-Ty Ty Formed (formed S) (layer y))).shape
  level Ty-F.Void k lt = absurd (omega (arith, lt))
  level Ty-F.Int k lt = one Int int_scalar k lt
  level Ty-F.Uint k lt = one Uint uint_scalar k lt
  level (Ty-F.Ptr c) k lt = one (Ptr (formed S c.0).ty) (pointer_scalar (formed S c.0).ty) k lt
  level (Ty-F.Array n c) k lt = elements n c k lt
  level (Ty-F.Struct s) k lt = of_struct s (slice_get S s) refl k lt
  level (Ty-F.Sync c) k lt = one (Sync (formed S c.0).ty) (sync_scalar (formed S c.0).ty) k lt
  level (Ty-F.Future c) k lt = one (Future (formed S c.0).ty) (future_scalar (formed S c.0).ty) k lt

  scalars : (t : Ty) → Scalars (shape_of S t)
  scalars = ind-Ty (λ t. Scalars (shape_of S t)) (λ x y is. subst (λ z. Scalars (shape_of S (roll-Ty z))) is
      (subst (λ (f : Formed). Scalars f.shape) (sym (fold-roll-Ty Formed (form_step S) (layer y))) (level y)))

  one_of : (m : Ty) (ss : List Shape) (k : ℕ) (b : Bool) → (b ≡ true → IsTrue (passes is_scalar (cell_of S m k))) → (b ≡ false → IsTrue (passes is_scalar (cell_in ss (k - size_of S m)))) →
      IsTrue (passes is_scalar (if b then cell_of S m k else cell_in ss (k - size_of S m)))
  one_of m ss k true f g = f refl
  one_of m ss k false f g = g refl

  list_scalars : (ms : List Ty) → Scalars (in_order (map (shape_of S) ms))
  list_scalars [] k lt = let none : sum_by {X = Shape} (λ h. h.size) [] ≡ 0 = refl in absurd (omega (arith, lt, none))
  list_scalars (m ∷ ms) k lt =
      let sum = sum_by-cons (λ (h : Shape). h.size) (shape_of S m) (map (shape_of S) ms) in
      one_of m (map (shape_of S) ms) k (nat_lt k (size_of S m)) (λ e. scalars m k (ltb-true k (size_of S m) e))
      (λ e. let past = ltb-false k (size_of S m) e in list_scalars ms (k - size_of S m) (omega (arith, lt, sum, past)))

level_scalars : (structs : List (List Ty)) (n : ℕ) → AllScalars (shapes_within n structs) → (s : ℕ) (h : Shape) → slice_get (shapes_within (suc n) structs) s ≡ Some h → (o : Option (List Ty)) → slice_get structs s ≡ o → Scalars h
level_scalars structs n lower s h e None f = absurd (let bad : None ≡ Some h = sym (none_within structs s f (suc n)) ∙ e in cc)
level_scalars structs n lower s h e (Some ms) f =
    let two : Some h ≡ Some (in_order (map (shape_of (shapes_within n structs)) ms)) = sym e ∙ some_within structs s ms f n in
    let same : h ≡ in_order (map (shape_of (shapes_within n structs)) ms) = cc in
    subst Scalars (sym same) (list_scalars (shapes_within n structs) lower ms)

lowest_scalars : (structs : List (List Ty)) → AllScalars (shapes_within 0 structs)
unfolding shapes_within
lowest_scalars structs s h e = absurd (let bad : None ≡ Some h = e in cc)

levels_scalars : (structs : List (List Ty)) (n : ℕ) → AllScalars (shapes_within n structs)
levels_scalars structs zero s h e = lowest_scalars structs s h e
levels_scalars structs (suc n) s h e = level_scalars structs n (levels_scalars structs n) s h e (slice_get structs s) refl

-- each cell of a type
pub all_scalars : (structs : List (List Ty)) (ty : Ty) → Scalars (shape_of (struct_shapes structs) ty)
all_scalars structs ty = scalars (struct_shapes structs) (levels_scalars structs (length structs)) ty
