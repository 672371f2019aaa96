-- One value alone, and two.
use Rattle.std.proofs.Common.{◌≡◌, ◌<◌, ◌≤◌, List, [], ◌∷◌, ◌++◌, length, get_or, refl, arith}
use Rattle.std.specs.Prelude.{None, option_map}
use Rattle.std.proofs.lemmas.Grind.{common_steps}
use Rattle.xc_type_rule.specs.declared.found.Found.{Found}
use Rattle.xc_type_expressions.specs.Calls.{one_of, two_of}

pub one_of_more : (x : Found) (xs : List Found) (y : Found) → one_of (x ∷ (xs ++ y ∷ [])) ≡ None
one_of_more x [] y = refl
one_of_more x (z ∷ zs) y = refl

-- two, by the first and what is before the last
pub two_of_last : (xs : List Found) (y : Found) → two_of (xs ++ y ∷ []) ≡ option_map (λ x. (x, y)) (one_of xs)
two_of_last [] y = refl
two_of_last (x ∷ []) y = refl
two_of_last (x ∷ z ∷ []) y = refl
two_of_last (x ∷ z ∷ w ∷ ws) y = refl

-- a list of two, and one of three
pub list_two : {A : Type 0} (xs : List A) (a b : A) → 2 ≤ length xs → length xs < 3 → a ≡ get_or xs 0 a → b ≡ get_or xs 1 b → xs ≡ a ∷ b ∷ []
list_two [] a b le lt p q = absurd (omega arith)
list_two (x ∷ []) a b le lt p q = absurd (omega arith)
list_two (x ∷ y ∷ []) a b le lt p q = cc
list_two (x ∷ y ∷ z ∷ zs) a b le lt p q = absurd (omega arith)

pub list_three : {A : Type 0} (xs : List A) (a b d : A) → 3 ≤ length xs → length xs < 4 → a ≡ get_or xs 0 a → b ≡ get_or xs 1 b → d ≡ get_or xs 2 d → xs ≡ a ∷ b ∷ d ∷ []
list_three [] a b d le lt p q r = absurd (omega arith)
list_three (x ∷ []) a b d le lt p q r = absurd (omega arith)
list_three (x ∷ y ∷ []) a b d le lt p q r = absurd (omega arith)
list_three (x ∷ y ∷ z ∷ []) a b d le lt p q r = cc
list_three (x ∷ y ∷ z ∷ w ∷ ws) a b d le lt p q r = absurd (omega arith)

pub ruleset few_rules = (common_steps, one_of_more, two_of_last)
