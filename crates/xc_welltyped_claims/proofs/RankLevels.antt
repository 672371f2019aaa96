-- Where structs have ranks, one more level makes none of them another.
use Rattle.std.proofs.Common.{◌≡◌, ℕ, zero, suc, ◌+◌, ◌<◌, ◌≤◌, List, [], ◌∷◌, length, get_or, map, true, refl, sym, ap, ◌∙◌, subst, arith, add-one}
use Rattle.std.specs.Prelude.{◌&&◌, Option, Some, None, slice_get, option_map}
use Rattle.std.specs.List.{All}
use Rattle.std.proofs.Math.Bool.{and-true}
use Rattle.std.proofs.lemmas.Option.{slice_get-map}
use Rattle.xc_tree.specs.declared.ty.Ty.{Ty, Ptr, Sync, Future, roll-Ty}
use Rattle.xc_tree.specs.declared.ty.Ty.TheOpen.{Ty-F}
use Rattle.xc_tree.specs.declared.ty.Ty.TheFolds.{ind-Ty, map-Ty, fold-roll-Ty}
use Rattle.xc_tree.specs.Lists.{every, same_numbers}
use Rattle.std.proofs.lemmas.Bool.{eq-eqb}
use Rattle.xc_tree.specs.Types.{Shape, Formed, formed, form_step, struct_formed, one_cell, repeated, shape_of, in_order, shapes_within, struct_shapes, is_object, is_size, sizes, structs_ok}
use Rattle.xc_welltyped_claims.specs.Ranks.{rank_of, height, height_step, next_level, AreRanked, Known}
use Rattle.xc_type_structs.proofs.Agree.{told_is}
use Rattle.xc_type_structs.specs.Kinds.{summary}

-- what is formed of a type is of that type
pub formed_same : (shapes : List Shape) (t : Ty) → (formed shapes t).ty ≡ t
formed_same shapes t = (told_is shapes (map (λ h. summary h.kinds) shapes) refl t).same

-- two lists of shapes that agree at all lower ranks ----------------------------

module _ (S T : List Shape) (ranks : List ℕ) (r : ℕ) (agree : (s : ℕ) → rank_of ranks s < r → slice_get S s ≡ slice_get T s) where
  abbrev Agree : Ty → Type 0
  Agree t = height ranks t < r → shape_of S t ≡ shape_of T t

  abbrev Child : Type 0
  Child = (t : Ty) × Agree t

  abbrev layer : Ty-F Child → Ty-F Ty
  layer y = map-Ty Child Ty (λ c. c.0) y

  cell : (t : Ty) (f : Ty → Ty) → one_cell (f (formed S t).ty) ≡ one_cell (f (formed T t).ty)
  cell t f = ap (λ u. one_cell (f u)) (formed_same S t ∙ sym (formed_same T t))

  level : (y : Ty-F Child) → height_step ranks (map-Ty Ty ℕ (height ranks) (layer y)) < r →
      (form_step S (map-Ty Ty Formed (formed S) (layer y))).shape ≡ (form_step T (map-Ty Ty Formed (formed T) (layer y))).shape
  level Ty-F.Void h = refl
  level Ty-F.Int h = refl
  level Ty-F.Uint h = refl
  level (Ty-F.Ptr c) h = cell c.0 Ptr
  level (Ty-F.Array n c) h = ap (repeated n) (c.1 h)
  level (Ty-F.Struct s) h = ap (λ o. (struct_formed s o).shape) (agree s h)
  level (Ty-F.Sync c) h = cell c.0 Sync
  level (Ty-F.Future c) h = cell c.0 Future

  pub shape_agrees : (t : Ty) → Agree t
  shape_agrees = ind-Ty Agree (λ x y is. subst (λ z. Agree (roll-Ty z)) is (λ h.
      let z = layer y in
      ap (λ (f : Formed). f.shape) (fold-roll-Ty Formed (form_step S) z)
      ∙ (level y (subst (λ k. k < r) (fold-roll-Ty ℕ (height_step ranks) z) h)
      ∙ sym (ap (λ (f : Formed). f.shape) (fold-roll-Ty Formed (form_step T) z)))))

  pub members_agree : (ms : List Ty) → All (λ m. height ranks m < r) ms → map (shape_of S) ms ≡ map (shape_of T) ms
  members_agree [] h = refl
  members_agree (m ∷ ms) h =
      let lt : 0 < length (m ∷ ms) = omega arith in
      let first = shape_agrees m (h 0 m lt) in
      let rest = members_agree ms (λ k d l. h (suc k) d (omega (arith, l))) in
      (λ i. first i ∷ rest i)

-- levels -----------------------------------------------------------------------

-- lists with the same elements
pub same_list : {A : Type 0} (xs ys : List A) → ((i : ℕ) → slice_get xs i ≡ slice_get ys i) → xs ≡ ys
same_list [] [] h = refl
same_list [] (y ∷ ys) h = absurd (let e : None ≡ Some y = h 0 in cc)
same_list (x ∷ xs) [] h = absurd (let e : Some x ≡ None = h 0 in cc)
same_list (x ∷ xs) (y ∷ ys) h =
    let e : Some x ≡ Some y = h 0 in
    let first : x ≡ y = cc in
    (λ i. first i ∷ same_list xs ys (λ k. h (suc k)) i)

pub none_within : (structs : List (List Ty)) (s : ℕ) → slice_get structs s ≡ None → (j : ℕ) → slice_get (shapes_within j structs) s ≡ None
unfolding shapes_within
none_within structs s e zero = refl
none_within structs s e (suc j) = slice_get-map (λ ms. in_order (map (shape_of (shapes_within j structs)) ms)) structs s
    ∙ ap (option_map (λ ms. in_order (map (shape_of (shapes_within j structs)) ms))) e

pub some_within : (structs : List (List Ty)) (s : ℕ) (ms : List Ty) → slice_get structs s ≡ Some ms → (j : ℕ) →
    slice_get (shapes_within (suc j) structs) s ≡ Some (in_order (map (shape_of (shapes_within j structs)) ms))
unfolding shapes_within
some_within structs s ms e j = slice_get-map (λ ms. in_order (map (shape_of (shapes_within j structs)) ms)) structs s
    ∙ ap (option_map (λ ms. in_order (map (shape_of (shapes_within j structs)) ms))) e

below_rank : (ranks : List ℕ) (r k : ℕ) (ms : List Ty) → r ≤ k → All (λ m. height ranks m < r) ms → All (λ m. height ranks m < k) ms
below_rank ranks r k ms le h i d lt = let low : height ranks (get_or ms i d) < r = h i d lt in omega (arith, le, low)

level_again : (structs : List (List Ty)) → shapes_within (suc (length structs)) structs ≡ next_level structs (struct_shapes structs)
unfolding shapes_within
level_again structs = refl

module _ (structs : List (List Ty)) (ranks : List ℕ) (ranked : AreRanked structs ranks) where
  abbrev Same : ℕ → ℕ → ℕ → Type 0
  Same j k s = slice_get (shapes_within j structs) s ≡ slice_get (shapes_within k structs) s

  lowest : (j k s : ℕ) → rank_of ranks s ≤ 0 → (o : Option (List Ty)) → slice_get structs s ≡ o → Same j k s
  lowest j k s h None e = none_within structs s e j ∙ sym (none_within structs s e k)
  lowest j k s h (Some ms) e = let some : 0 < rank_of ranks s = (ranked s ms e).first in absurd (omega (arith, some, h))

  higher : (r : ℕ) → ((j k : ℕ) → r ≤ j → r ≤ k → (s : ℕ) → rank_of ranks s ≤ r → Same j k s) →
      (j k : ℕ) → suc r ≤ j → suc r ≤ k → (s : ℕ) → rank_of ranks s ≤ suc r → (o : Option (List Ty)) → slice_get structs s ≡ o → Same j k s
  higher r lower j k le le' s h None e = none_within structs s e j ∙ sym (none_within structs s e k)
  higher r lower zero k le le' s h (Some ms) e = absurd (omega arith)
  higher r lower (suc j) zero le le' s h (Some ms) e = absurd (omega arith)
  higher r lower (suc j) (suc k) le le' s h (Some ms) e =
      let low : All (λ m. height ranks m < suc r) ms = below_rank ranks (rank_of ranks s) (suc r) ms h (ranked s ms e).above in
      some_within structs s ms e j
      ∙ (ap (λ l. Some (in_order l)) (members_agree (shapes_within j structs) (shapes_within k structs) ranks (suc r)
      (λ t lt. lower j k (omega arith) (omega arith) t (omega (arith, lt))) ms low)
      ∙ sym (some_within structs s ms e k))

  fixed : (r j k : ℕ) → r ≤ j → r ≤ k → (s : ℕ) → rank_of ranks s ≤ r → Same j k s
  fixed zero j k le le' s h = lowest j k s h (slice_get structs s) refl
  fixed (suc r) j k le le' s h = higher r (fixed r) j k le le' s h (slice_get structs s) refl

  next_same : (s : ℕ) (o : Option (List Ty)) → slice_get structs s ≡ o → Same (length structs) (suc (length structs)) s
  next_same s None e = none_within structs s e (length structs) ∙ sym (none_within structs s e (suc (length structs)))
  next_same s (Some ms) e = fixed (length structs) (length structs) (suc (length structs)) (omega arith) (omega arith) s (ranked s ms e).last

  level_same : struct_shapes structs ≡ shapes_within (suc (length structs)) structs
  level_same = same_list (struct_shapes structs) (shapes_within (suc (length structs)) structs) (λ s. next_same s (slice_get structs s) refl)

  pub known : Known structs ranks
  known = record { level = level_same ∙ level_again structs; above = λ s ms e. (ranked s ms e).above }

-- each member may be an object, and each struct has a size
same_self : (ns : List ℕ) → same_numbers ns ns ≡ true
unfolding same_numbers
same_self [] = refl
same_self (n ∷ ns) = ap (λ b. b && same_numbers ns ns) (eq-eqb n n refl) ∙ same_self ns

pub structs_known : (structs : List (List Ty)) (ranks : List ℕ) → Known structs ranks →
    structs_ok structs ≡ (every (map (λ members. every (map (is_object (struct_shapes structs)) members)) structs) && every (map is_size (sizes (struct_shapes structs))))
unfolding structs_ok
structs_known structs ranks k =
    let S = struct_shapes structs in
    let objects = every (map (λ members. every (map (is_object S) members)) structs) in
    let level : shapes_within (length structs + 1) structs ≡ S = ap (λ n. shapes_within n structs) (add-one (length structs)) ∙ sym (k.level ∙ sym (level_again structs)) in
    ap (λ hs. objects && (every (map is_size (sizes S)) && same_numbers (sizes S) (sizes hs))) level
    ∙ ap (λ b. objects && b) (ap (λ b. every (map is_size (sizes S)) && b) (same_self (sizes S)) ∙ and-true (every (map is_size (sizes S))))
