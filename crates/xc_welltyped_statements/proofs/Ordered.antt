-- Numbers in ascending order, one list behind another.
use Rattle.std.proofs.Common.{ℕ, ◌<◌, ◌≤◌, List, [], ◌∷◌, ◌++◌, map, refl, sym, subst, arith}
use Rattle.std.specs.Prelude.{IsTrue, nat_lt}
use Rattle.std.proofs.lemmas.Bool.{lt-ltb}
use Rattle.std.proofs.lemmas.List.{map-append}
use Rattle.xc_tree.specs.Lists.{every, ascending}
use Rattle.xc_tree.proofs.Lists.{and_left, and_right, and_both}
use Rattle.xc_welltyped_claims.specs.Lists.{Each}
use Rattle.xc_welltyped_claims.proofs.Lists.{every_both}

above : (x k : ℕ) (ys : List ℕ) → x < k → Each (λ y. k ≤ y) ys → IsTrue (every (map (nat_lt x) ys))
above x k [] lt h = refl
above x k (y ∷ ys) lt h = and_both (nat_lt x y) _ (lt-ltb x y (let le = h.0 in omega (arith, lt, le))) (above x k ys lt h.1)

-- all of the first list lie below a number, and none of the second
pub ascending_both : (k : ℕ) (xs ys : List ℕ) → IsTrue (ascending xs) → IsTrue (ascending ys) → Each (λ x. x < k) xs → Each (λ y. k ≤ y) ys → IsTrue (ascending (xs ++ ys))
unfolding ascending
ascending_both k [] ys h g a b = g
ascending_both k (x ∷ xs) ys h g a b = and_both (every (map (nat_lt x) (xs ++ ys))) _
    (subst (λ l. IsTrue (every l)) (sym (map-append (nat_lt x) xs ys))
    (every_both (map (nat_lt x) xs) (map (nat_lt x) ys) (and_left (every (map (nat_lt x) xs)) _ h) (above x k ys a.0 b)))
    (ascending_both k xs ys (and_right (every (map (nat_lt x) xs)) _ h) g a.1 b)

pub ascending_none : IsTrue (ascending [])
unfolding ascending
ascending_none = refl

pub ascending_one : (n : ℕ) → IsTrue (ascending (n ∷ []))
unfolding ascending
ascending_one n = refl
