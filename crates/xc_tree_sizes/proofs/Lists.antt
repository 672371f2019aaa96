-- Totals of lists.
use Rattle.std.proofs.Common.{◌≡◌, ℕ, ◌+◌, List, [], ◌∷◌, ◌++◌, map, arith}
use Rattle.xc_tree_sizes.specs.Nodes.{total}

pub total_both : {A : Type 0} (count : A → ℕ) (xs ys : List A) → total (map count (xs ++ ys)) ≡ total (map count xs) + total (map count ys)
total_both count [] ys = omega arith
total_both count (x ∷ xs) ys = omega (arith, total_both count xs ys)
