-- Members of a struct, as structs are added and completed.
use Rattle.std.proofs.Common.{◌≡◌, ℕ, ◌+◌, ◌-◌, ◌^◌, ◌≤◌, min, List, [], ◌∷◌, ◌++◌, length, map, refl, sym, ap, subst, arith}
use Rattle.std.specs.Prelude.{IsTrue, Option, sum_by}
use Rattle.std.proofs.lemmas.List.Sums.{sum_by-cons}
use Rattle.xc_tree.specs.declared.ty.Ty.{Ty}
use Rattle.xc_tree.specs.Types.{Shape, is_size, shape_of}
use Rattle.xc_type_rule.specs.declared.found.Member.{Member}
use Rattle.xc_type_rule.specs.Cells.{cells, listed}
use Rattle.xc_type_structs.specs.declared.structs.Structs.{Structs}
use Rattle.xc_type_structs.specs.Table.{part_cells}
use Rattle.xc_type_structs.specs.Agree.{Agrees, part_shape, members_shape}
use Rattle.xc_type_structs.proofs.Table.{cells_told}
use Rattle.xc_welltyped_claims.specs.Table.{with_known, tys_of, IsMember, AreMembers, has_members}
use Rattle.xc_welltyped_structs.proofs.Scalars.{size_least, promised_cells}
use Rattle.xc_welltyped_structs.proofs.Promises.{kept_goes}
use Rattle.xc_welltyped_structs.proofs.Kept.{kept_sized, cells_same}

abbrev most : ℕ
most = 2 ^ 32 - 1

-- types and shapes of members -----------------------------------------------------------------

abbrev pub member_tys : List Member → List (Option Ty)
member_tys ms = map (λ m. m.ty) ms

-- all have types
pub parts_tys : (S : List Shape) (ns : List ℕ) (off : ℕ) (ms : List Member) → AreMembers ns off ms → map (part_shape S) (member_tys ms) ≡ map (shape_of S) (tys_of ms)
parts_tys S ns off [] h = refl
parts_tys S ns off (m ∷ ms) h = subst (λ o. part_shape S o ∷ map (part_shape S) (member_tys ms) ≡ map (shape_of S) (with_known o (tys_of ms))) (sym h.0.typed)
    (ap (λ l. shape_of S h.0.ty ∷ l) (parts_tys S ns (min (off + part_cells ns m.ty) most) ms h.1))

-- more structs ----------------------------------------------------------------------------------

module _ (few more : List ℕ) (same : (s : ℕ) → IsTrue (is_size (listed few s)) → listed few s ≡ listed more s) (fewer : length few ≤ length more) where
  member_goes : (off : ℕ) (m : Member) → IsMember few off m → IsMember more off m
  member_goes off m h = record { ty = h.ty; typed = h.typed; object = kept_goes few more same fewer h.ty h.object; lies = h.lies }

  pub members_go : (off : ℕ) (ms : List Member) → AreMembers few off ms → AreMembers more off ms
  members_go off [] h = tt
  members_go off (m ∷ ms) h =
      let part : part_cells few m.ty ≡ part_cells more m.ty = subst (λ o. part_cells few o ≡ part_cells more o) (sym h.0.typed) (cells_same few more same h.0.ty h.0.object) in
      (member_goes off m h.0, subst (λ k. AreMembers more (min (off + k) most) ms) part (members_go (min (off + part_cells few m.ty) most) ms h.1))

-- one more member ---------------------------------------------------------------------------------

-- where the next member lies
abbrev pub end_of : List ℕ → ℕ → List Member → ℕ
end_of ns off [] = off
end_of ns off (m ∷ ms) = end_of ns (min (off + part_cells ns m.ty) most) ms

pub members_with : (ns : List ℕ) (off : ℕ) (ms : List Member) (m : Member) → AreMembers ns off ms → IsMember ns (end_of ns off ms) m → AreMembers ns off (ms ++ m ∷ [])
members_with ns off [] m h is = (is, tt)
members_with ns off (x ∷ ms) m h is = (h.0, members_with ns (min (off + part_cells ns x.ty) most) ms m h.1 is)

module _ (s : Structs) (S : List Shape) (a : Agrees s S) where
  pub part_told : (off : ℕ) (m : Member) → IsMember s.sizes off m → part_cells s.sizes m.ty ≡ min (part_shape S m.ty).size most
  part_told off m h = subst (λ o. part_cells s.sizes o ≡ min (part_shape S o).size most) (sym h.typed) (cells_told s S a h.ty)

  end_told : (x : ℕ) (ms : List Member) (off : ℕ) → off ≡ min x most → AreMembers s.sizes off ms → end_of s.sizes off ms ≡ min (x + (members_shape S (member_tys ms)).size) most
  end_told x [] off e h = let none : sum_by {X = Shape} (λ h. h.size) [] ≡ 0 = refl in omega (arith, e, none)
  end_told x (m ∷ ms) off e h =
      let part = part_told off m h.0 in
      let next : min (off + part_cells s.sizes m.ty) most ≡ min (x + (part_shape S m.ty).size) most = omega (arith, e, part) in
      let sum = sum_by-cons (λ (h : Shape). h.size) (part_shape S m.ty) (map (part_shape S) (member_tys ms)) in
      let rest = end_told (x + (part_shape S m.ty).size) ms (min (off + part_cells s.sizes m.ty) most) next h.1 in
      omega (arith, sum, rest)

  -- behind all of them
  pub end_is : (ms : List Member) → AreMembers s.sizes 0 ms → end_of s.sizes 0 ms ≡ min (members_shape S (member_tys ms)).size most
  end_is ms h = let told = end_told 0 ms 0 (omega arith) h in omega (arith, told)

  -- some cells
  pub has_cells : (off : ℕ) (ms : List Member) → IsTrue (has_members ms) → AreMembers s.sizes off ms → 1 ≤ (members_shape S (member_tys ms)).size
  has_cells off [] some h = absurd cc
  has_cells off (m ∷ ms) some h =
      let part = part_told off m h.0 in
      let one : 1 ≤ cells s.sizes h.0.ty = subst (λ n. 1 ≤ n) (sym (promised_cells s.sizes h.0.ty h.0.object)) (size_least _ (kept_sized s.sizes h.0.ty h.0.object)) in
      let same : part_cells s.sizes m.ty ≡ cells s.sizes h.0.ty = ap (part_cells s.sizes) h.0.typed in
      let sum = sum_by-cons (λ (h : Shape). h.size) (part_shape S m.ty) (map (part_shape S) (member_tys ms)) in
      omega (arith, part, one, same, sum)
