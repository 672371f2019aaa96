-- What is made names only locals that are seen where it stands (C99 6.2.1).
use Rattle.std.specs.Prelude.{ℕ, Bool, true, IsTrue, List, [], ◌∷◌, Option, Some}
use Rattle.xc_tree.specs.declared.expr.Expr.{Expr}
use Rattle.xc_tree.specs.Lists.{has, allows}
use Rattle.xc_tree.specs.Statements.{sees}
use Rattle.xc_type_rule.specs.declared.found.Found.{Found}
use Rattle.xc_type_rule.specs.declared.found.Thing.{Thing}
use Rattle.xc_type_rule.specs.declared.found.Thing.TheVariants as thing

-- what is made, if anything is
abbrev pub MadeSeen : List ℕ → Option Expr → Type 0
MadeSeen seen made = IsTrue (allows (sees seen) made)

abbrev pub IsSeen : List ℕ → Found → Type 0
IsSeen seen f = MadeSeen seen f.made

abbrev pub AreSeen : List ℕ → List Found → Type 0
AreSeen seen [] = Unit {0}
AreSeen seen (f ∷ fs) = IsSeen seen f × AreSeen seen fs

-- an object of the function at work is seen, if its declaration has no fault
abbrev pub thing_seen : List ℕ → Option Thing → Bool
thing_seen seen (Some (thing.Local n (Some ty))) = has n seen
thing_seen seen _ = true
