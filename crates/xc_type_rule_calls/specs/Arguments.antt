-- Arguments against parameters (C99 6.5.2.2).
use Rattle.std.specs.Prelude.{Bool, true, false, ◌&&◌, cond, List, [], ◌∷◌, Option, Some, None, option_and_then}
use Rattle.xc_tree.specs.declared.ty.Ty.{Ty}
use Rattle.xc_tree.specs.declared.expr.Expr.{Expr}
use Rattle.xc_tree.specs.Types.{is_plain, fits, base}
use Rattle.xc_tree.specs.Lists.{passes}
use Rattle.xc_type_rule.specs.declared.found.Found.{Found}
use Rattle.xc_type_rule.specs.declared.found.Known.{Known}
use Rattle.xc_type_rule.specs.Making.{Ruling, both}
use Rattle.xc_type_rule.specs.Nulls.{given}
use Rattle.xc_type_rule.specs.Tests.{may_be}

-- the whole is this, or its rule is broken
abbrev pub ruled : Bool → Known → Ruling
ruled keeps k = cond keeps (Some k) None

abbrev pub given_by : Option Ty → Found → Found
given_by None f = f
given_by (Some p) f = given p f

-- what a parameter holds: its type without a qualifier, if the type is known
abbrev pub held_by : Option Ty → Option Ty
held_by param = option_and_then base param

-- each argument is given to its parameter; one past the last parameter stays
abbrev pub given_to : List (Option Ty) → List Found → List Found
given_to [] fs = fs
given_to (p ∷ ps) [] = []
given_to (p ∷ ps) (f ∷ fs) = given_by (held_by p) f ∷ given_to ps fs

-- an argument fits what its parameter holds, or may fit a parameter of unknown type: some scalar
abbrev pub may_pass : Option Ty → Known → Bool
may_pass None k = may_be is_plain k
may_pass (Some ty) k = passes (λ b. may_be (fits b) k) (base ty)

-- there are as many as parameters, and each fits
abbrev pub all_fit : List (Option Ty) → List Found → Bool
all_fit [] [] = true
all_fit [] (f ∷ fs) = false
all_fit (p ∷ ps) [] = false
all_fit (p ∷ ps) (f ∷ fs) = may_pass p f.known && all_fit ps fs

-- what is made of them, if all are made
unfoldable pub all_made : List Found → Option (List Expr)
all_made [] = Some []
all_made (f ∷ fs) = both (λ e es. e ∷ es) f.made (all_made fs)
