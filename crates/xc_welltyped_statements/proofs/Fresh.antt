-- Different numbers within bounds.
use Rattle.std.proofs.Common.{◌≡◌, ℕ, ◌+◌, ◌<◌, ◌≤◌, List, [], ◌∷◌, ◌++◌, map, Bool, true, false, refl, sym, ap, ◌∙◌, arith, append_assoc}
use Rattle.std.specs.Prelude.{IsTrue, not, ◌||◌, ◌==◌}
use Rattle.std.proofs.lemmas.Bool.{eqb-true}
use Rattle.xc_tree.specs.Lists.{has, joined, distinct}
use Rattle.xc_tree.proofs.Lists.{and_left, and_right, and_both}
use Rattle.xc_welltyped_claims.specs.Lists.{Each, Fresh}
use Rattle.xc_welltyped_claims.proofs.Lists.{each_both, each_more}

pub same_most : (n : ℕ) → n ≤ n
same_most n = omega arith

pub less_more : (n : ℕ) → n ≤ n + 1
less_more n = omega arith

pub one_more : (n : ℕ) → n < n + 1
one_more n = omega arith

abbrev Within : ℕ → ℕ → ℕ → Type 0
Within from to x = (from ≤ x) × (x < to)

pub fresh_none : (from to : ℕ) → Fresh from to []
unfolding distinct
fresh_none from to = (refl, tt)

pub fresh_one : (from to : ℕ) → from < to → Fresh from to (from ∷ [])
unfolding distinct
fresh_one from to lt = (refl, ((omega arith, lt), tt))

pub fresh_wider : (a b from to : ℕ) (xs : List ℕ) → a ≤ from → to ≤ b → Fresh from to xs → Fresh a b xs
fresh_wider a b from to xs le ge f = (f.0, each_more (Within from to) (Within a b) (λ x h. let low = h.0 in let high = h.1 in (omega (arith, le, low), omega (arith, ge, high))) xs f.1)

-- a number is none of those that lie above it
differs : (x y : ℕ) → x < y → (x == y) ≡ false
differs x y lt = by (x == y) refl
  where
    by : (b : Bool) → (x == y) ≡ b → (x == y) ≡ false
    by false e = e
    by true e = let same : x ≡ y = eqb-true x y e in absurd (omega (arith, lt, same))

or_false : (a b : Bool) → a ≡ false → b ≡ false → (a || b) ≡ false
or_false a b e f = ap (λ c. c || b) e ∙ f

above_none : (x : ℕ) (ys : List ℕ) (from to : ℕ) → x < from → Each (Within from to) ys → has x ys ≡ false
above_none x [] from to lt h = refl
above_none x (y ∷ ys) from to lt h = let low = h.0.0 in or_false (x == y) _ (differs x y (omega (arith, lt, low))) (above_none x ys from to lt h.1)

has_both : (x : ℕ) (xs ys : List ℕ) → has x xs ≡ false → has x ys ≡ false → has x (xs ++ ys) ≡ false
has_both x [] ys h k = k
has_both x (y ∷ xs) ys h k = or_false (x == y) _ (left_false (x == y) (has x xs) h) (has_both x xs ys (right_false (x == y) (has x xs) h) k)
  where
    left_false : (a b : Bool) → (a || b) ≡ false → a ≡ false
    left_false false b e = refl
    left_false true b e = e

    right_false : (a b : Bool) → (a || b) ≡ false → b ≡ false
    right_false false b e = e
    right_false true b e = absurd cc

not_true : (b : Bool) → IsTrue (not b) → b ≡ false
not_true false h = refl
not_true true h = absurd cc

not_false : (b : Bool) → b ≡ false → IsTrue (not b)
not_false b e = ap not e

both_distinct : (from mid to : ℕ) (xs ys : List ℕ) → IsTrue (distinct xs) → Each (Within from mid) xs → Fresh mid to ys → IsTrue (distinct (xs ++ ys))
unfolding distinct
both_distinct from mid to [] ys d h f = f.0
both_distinct from mid to (x ∷ xs) ys d h f = and_both (not (has x (xs ++ ys))) _
    (not_false (has x (xs ++ ys)) (has_both x xs ys (not_true (has x xs) (and_left _ _ d)) (above_none x ys mid to h.0.1 f.1)))
    (both_distinct from mid to xs ys (and_right (not (has x xs)) _ d) h.1 f)

pub fresh_both : (from mid to : ℕ) (xs ys : List ℕ) → from ≤ mid → mid ≤ to → Fresh from mid xs → Fresh mid to ys → Fresh from to (xs ++ ys)
fresh_both from mid to xs ys le ge f g =
    (both_distinct from mid to xs ys f.0 f.1 g, each_both (Within from to) xs ys (fresh_wider from to from mid xs (omega arith) ge f).1 (fresh_wider from to mid to ys le (omega arith) g).1)

-- lists of lists
pub joined_both : {A B : Type 0} (f : A → List B) (xs ys : List A) → joined (map f (xs ++ ys)) ≡ joined (map f xs) ++ joined (map f ys)
joined_both f [] ys = refl
joined_both f (x ∷ xs) ys = ap (λ l. f x ++ l) (joined_both f xs ys) ∙ sym (append_assoc (f x) (joined (map f xs)) (joined (map f ys)))
