-- The least of two lists of faults.
use Rattle.std.proofs.Common.{◌≡◌, List, [], ◌∷◌, ◌++◌, refl}
use Rattle.std.specs.Prelude.{Option}
use Rattle.std.proofs.lemmas.Grind.{common_steps}
use Rattle.xc_type_rule.specs.declared.fault.Fault.{Fault}
use Rattle.xc_type_rule.specs.Least.{least_from, lesser}

-- the least of all is that of the later ones, from the least of the earlier ones
pub least_append : (f : Option Fault) (xs ys : List Fault) → least_from f (xs ++ ys) ≡ least_from (least_from f xs) ys
unfolding least_from
least_append f [] ys = refl
least_append f (x ∷ xs) ys = least_append (lesser f x) xs ys

pub least_none : (f : Option Fault) → least_from f [] ≡ f
unfolding least_from
least_none f = refl

-- for functions that note faults
pub ruleset least_rules = (common_steps, least_append, least_none)
