use Rattle.std.proofs.Common.{◌≡◌, ◌≢◌, ℕ, ◌+◌, cond, List, [], ◌∷◌, ◌++◌, bytes_eq, arith}
use Rattle.std.proofs.lemmas.Slice.Eq.{bytes_eq-Decides}
use Rattle.std.proofs.lemmas.List.Sums.{sum_by-append}
use Rattle.xc_edge.specs.InnerShelfState.{name_count}

name_count-push : (names : List (List ℕ)) (name other : List ℕ) → name_count (names ++ name ∷ []) other ≡ name_count names other + cond (bytes_eq name other) 1 0
name_count-push names name other = omega (arith, sum_by-append (λ x. cond (bytes_eq x other) 1 0) names (name ∷ []))

-- a name is counted once more where it is appended
pub name_count-same : (names : List (List ℕ)) (name : List ℕ) → name_count (names ++ name ∷ []) name ≡ name_count names name + 1
name_count-same names name = rw name_count-push (grind (arith, bytes_eq-Decides))

-- and no other name is
pub name_count-other : (names : List (List ℕ)) (name other : List ℕ) → other ≢ name → name_count (names ++ name ∷ []) other ≡ name_count names other
name_count-other names name other differ = rw name_count-push (grind (arith, bytes_eq-Decides))

pub ruleset name_counts = (name_count-same, name_count-other)
