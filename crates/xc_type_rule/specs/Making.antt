-- How what is found is put together.
use Rattle.std.specs.Prelude.{Bool, true, false, List, [], Option, Some, None}
use Rattle.xc_text_place.specs.declared.Span.{Span}
use Rattle.xc_tree.specs.declared.ty.Ty.{Ty, Ptr}
use Rattle.xc_tree.specs.declared.expr.Expr.{Expr}
use Rattle.xc_tree.specs.declared.expr.ExprKind.{ExprKind}
use Rattle.xc_type_rule.specs.declared.fault.Fault.{Fault}
use Rattle.xc_type_rule.specs.declared.found.Found.{Found}
use Rattle.xc_type_rule.specs.declared.found.Known.{Known}
use Rattle.xc_type_rule.specs.declared.found.Known.TheVariants as known
use Rattle.xc_type_rule.specs.Least.{type_fault}

abbrev pub typed : Span → Ty → ExprKind → Expr
typed span ty k = record { ty = ty; span = span; kind = k }

-- after a fault no type is known and nothing is made
abbrev pub unknown : Bool → Found
unknown place = record { known = known.Unknown place; made = None }

-- something that may name an object
abbrev pub unknown_place : Found
unknown_place = unknown true

-- something that names none
abbrev pub unknown_value : Found
unknown_value = unknown false

-- a value of this type, and of this kind if something is made
unfoldable pub value_from : Span → Ty → Option ExprKind → Found
value_from span ty None = record { known = known.Value ty; made = None }
value_from span ty (Some k) = record { known = known.Value ty; made = Some (typed span ty k) }

-- the place of an object: a pointer to it
unfoldable pub place_from : Span → Ty → Bool → Option ExprKind → Found
place_from span ty within None = record { known = known.Place ty within; made = None }
place_from span ty within (Some k) = record { known = known.Place ty within; made = Some (typed span (Ptr ty) k) }

-- the place of what is declared with this type, if that has no fault
unfoldable pub declared_place : Span → Option Ty → Bool → Option ExprKind → Found
declared_place span None within k = unknown_place
declared_place span (Some ty) within k = place_from span ty within k

-- what a rule says of the whole; none where it is broken
abbrev pub Ruling : Type 0
Ruling = Option Known

-- what is found by a rule that gives values
unfoldable pub found_by : Span → Ruling → Option ExprKind → Found
found_by span (Some (known.Value ty)) k = value_from span ty k
found_by span _ k = unknown_value

-- what is found by a rule that gives places
unfoldable pub place_by : Span → Ruling → Option ExprKind → Found
place_by span (Some (known.Place ty within)) k = place_from span ty within k
place_by span _ k = unknown_place

unfoldable pub faults_by : Span → Ruling → List Fault
faults_by span None = type_fault span
faults_by span (Some k) = []

-- the same expression, with more tokens around it
unfoldable pub spanned : Span → Option Expr → Option Expr
spanned span None = None
spanned span (Some e) = Some (typed span e.ty e.kind)

-- both parts, if both are made
unfoldable pub both : {A B C : Type 0} → (A → B → C) → Option A → Option B → Option C
both f (Some x) (Some y) = Some (f x y)
both f _ _ = None
