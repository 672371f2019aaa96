-- Where the members of a struct begin, and their cells.
use Rattle.std.proofs.Common.{◌≡◌, ℕ, zero, suc, ◌+◌, ◌-◌, ◌^◌, ◌<◌, ◌≤◌, min, List, [], ◌∷◌, map, sym, ap, ◌∙◌, subst, arith}
use Rattle.std.specs.Prelude.{IsTrue, if◌then◌else◌, Some, slice_get}
use Rattle.std.proofs.lemmas.Bool.{lt-ltb, le-ltb}
use Rattle.xc_tree.specs.declared.ty.Ty.{Ty}
use Rattle.xc_tree.specs.Types.{Shape, cell_in, shape_of, size_of, cell_of}
use Rattle.xc_type_rule.specs.declared.found.Member.{Member}
use Rattle.xc_type_rule.specs.Cells.{cells}
use Rattle.xc_type_structs.specs.Table.{part_cells}
use Rattle.xc_welltyped_claims.specs.Types.{will_be_object}
use Rattle.xc_welltyped_claims.specs.Table.{with_known, tys_of, AreMembers}

module _ (ns : List ℕ) where
  -- the cells before the member with this number
  abbrev pub begins : ℕ → List Member → ℕ
  begins zero ms = 0
  begins (suc k) [] = 0
  begins (suc k) (m ∷ ms) = part_cells ns m.ty + begins k ms

  abbrev pub cells_in : List Member → ℕ
  cells_in [] = 0
  cells_in (m ∷ ms) = part_cells ns m.ty + cells_in ms

  pub begins_next : (k : ℕ) (ms : List Member) (m : Member) → slice_get ms k ≡ Some m → begins (suc k) ms ≡ begins k ms + part_cells ns m.ty
  begins_next zero [] m e = absurd cc
  begins_next zero (x ∷ ms) m e = let same : x ≡ m = cc in subst (λ (y : Member). part_cells ns x.ty + 0 ≡ 0 + part_cells ns y.ty) same (omega arith)
  begins_next (suc k) [] m e = absurd cc
  begins_next (suc k) (x ∷ ms) m e = let rest = begins_next k ms m e in omega (arith, rest)

  pub begins_few : (k : ℕ) (ms : List Member) (m : Member) → slice_get ms k ≡ Some m → begins k ms + part_cells ns m.ty ≤ cells_in ms
  begins_few zero [] m e = absurd cc
  begins_few zero (x ∷ ms) m e = let same : x ≡ m = cc in subst (λ (y : Member). 0 + part_cells ns y.ty ≤ part_cells ns x.ty + cells_in ms) same (omega arith)
  begins_few (suc k) [] m e = absurd cc
  begins_few (suc k) (x ∷ ms) m e = let rest = begins_few k ms m e in omega (arith, rest)

  -- no offset is cut
  pub lies : (off k : ℕ) (ms : List Member) (m : Member) → AreMembers ns off ms → off + cells_in ms ≤ 2 ^ 22 → slice_get ms k ≡ Some m → m.off ≡ off + begins k ms
  lies off zero [] m h few e = absurd cc
  lies off zero (x ∷ ms) m h few e = let same : x ≡ m = cc in let at = h.0.lies in subst (λ (y : Member). y.off ≡ off + 0) same (omega (arith, at))
  lies off (suc k) [] m h few e = absurd cc
  lies off (suc k) (x ∷ ms) m h few e =
      let next : min (off + part_cells ns x.ty) (2 ^ 32 - 1) ≡ off + part_cells ns x.ty = omega (arith, few) in
      let rest = lies (min (off + part_cells ns x.ty) (2 ^ 32 - 1)) k ms m h.1 (omega (arith, few, next)) e in
      omega (arith, next, rest)

  pub member_kept : (off k : ℕ) (ms : List Member) (m : Member) → AreMembers ns off ms → slice_get ms k ≡ Some m → (ty : Ty) × (m.ty ≡ Some ty) × IsTrue (will_be_object ns ty)
  member_kept off zero [] m h e = absurd cc
  member_kept off zero (x ∷ ms) m h e = let same : x ≡ m = cc in subst (λ (y : Member). (ty : Ty) × (y.ty ≡ Some ty) × IsTrue (will_be_object ns ty)) same (h.0.ty, h.0.typed, h.0.object)
  member_kept off (suc k) [] m h e = absurd cc
  member_kept off (suc k) (x ∷ ms) m h e = member_kept (min (off + part_cells ns x.ty) (2 ^ 32 - 1)) k ms m h.1 e

-- cells ------------------------------------------------------------------------

pub first_part : (s : Shape) (ss : List Shape) (j : ℕ) → j < s.size → cell_in (s ∷ ss) j ≡ s.cell j
first_part s ss j lt = ap (λ b. if b then s.cell j else cell_in ss (j - s.size)) (lt-ltb j s.size lt)

pub next_part : (s : Shape) (ss : List Shape) (z i : ℕ) → s.size ≡ z → cell_in (s ∷ ss) (z + i) ≡ cell_in ss i
next_part s ss z i e =
    let left : (z + i) - s.size ≡ i = omega (arith, e) in
    ap (λ b. if b then s.cell (z + i) else cell_in ss ((z + i) - s.size)) (le-ltb (z + i) s.size (omega (arith, e))) ∙ ap (cell_in ss) left

module _ (ns : List ℕ) (S : List Shape) (told : (ty : Ty) → IsTrue (will_be_object ns ty) → size_of S ty ≡ cells ns ty) where
  pub member_cells : (off k : ℕ) (ms : List Member) (m : Member) → AreMembers ns off ms → slice_get ms k ≡ Some m → (ty : Ty) → m.ty ≡ Some ty →
      (j : ℕ) → j < cells ns ty → cell_in (map (shape_of S) (tys_of ms)) (begins ns k ms + j) ≡ cell_of S ty j
  member_cells off zero [] m h e ty is j lt = absurd cc
  member_cells off zero (x ∷ ms) m h e ty is j lt =
      let same : x ≡ m = cc in
      let one : Some h.0.ty ≡ Some ty = sym h.0.typed ∙ ap (λ (y : Member). y.ty) same ∙ is in
      let own : h.0.ty ≡ ty = cc in
      let size = told h.0.ty h.0.object in
      let less : j < cells ns h.0.ty = subst (λ u. j < cells ns u) (sym own) lt in
      let start : 0 + j ≡ j = omega arith in
      subst (λ o. cell_in (map (shape_of S) (with_known o (tys_of ms))) (0 + j) ≡ cell_of S ty j) (sym h.0.typed)
      (ap (cell_in (shape_of S h.0.ty ∷ map (shape_of S) (tys_of ms))) start ∙ first_part (shape_of S h.0.ty) (map (shape_of S) (tys_of ms)) j (omega (arith, size, less)) ∙ ap (λ u. cell_of S u j) own)
  member_cells off (suc k) [] m h e ty is j lt = absurd cc
  member_cells off (suc k) (x ∷ ms) m h e ty is j lt =
      let size : size_of S h.0.ty ≡ part_cells ns x.ty = told h.0.ty h.0.object ∙ sym (ap (part_cells ns) h.0.typed) in
      let at : (part_cells ns x.ty + begins ns k ms) + j ≡ part_cells ns x.ty + (begins ns k ms + j) = omega arith in
      subst (λ o. cell_in (map (shape_of S) (with_known o (tys_of ms))) ((part_cells ns x.ty + begins ns k ms) + j) ≡ cell_of S ty j) (sym h.0.typed)
      (ap (cell_in (shape_of S h.0.ty ∷ map (shape_of S) (tys_of ms))) at
      ∙ next_part (shape_of S h.0.ty) (map (shape_of S) (tys_of ms)) (part_cells ns x.ty) (begins ns k ms + j) size
      ∙ member_cells (min (off + part_cells ns x.ty) (2 ^ 32 - 1)) k ms m h.1 e ty is j lt)
