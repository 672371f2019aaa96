-- What each operator makes, and its faults. Those of its operands are not among them.
use Rattle.std.specs.Prelude.{ℕ, Bool, false, cond, List, Option, Some, None, option_map}
use Rattle.xc_text_place.specs.declared.Span.{Span}
use Rattle.xc_tree.specs.declared.operator.BinOp.{BinOp}
use Rattle.xc_tree.specs.declared.operator.UnOp.{UnOp}
use Rattle.xc_tree.specs.declared.operator.UnOp.TheVariants as un
use Rattle.xc_tree.specs.declared.ty.Ty.{Ty, Int, Uint}
use Rattle.xc_tree.specs.declared.expr.Expr.{Expr}
use Rattle.xc_tree.specs.declared.expr.ExprKind.{ExprKind, Const, Write, Update, Unary, Binary, And, Or, Cond, Comma}
use Rattle.xc_tree.specs.Types.{is_number}
use Rattle.xc_tree.specs.Kinds.{write_kind}
use Rattle.xc_tree.specs.Typed.{Sort, comparison, sort_of}
use Rattle.xc_type_rule.specs.declared.fault.Fault.{Fault}
use Rattle.xc_type_rule.specs.declared.found.Found.{Found}
use Rattle.xc_type_rule.specs.declared.found.Known.{Known}
use Rattle.xc_type_rule.specs.Least.{fault_unless}
use Rattle.xc_type_rule.specs.Making.{unknown_value, value_from, found_by, faults_by, spanned, both}
use Rattle.xc_type_rule.specs.Nulls.{given, against, is_null, is_number_value}
use Rattle.xc_type_rule.specs.Tests.{may_be}
use Rattle.xc_type_rule_operators.specs.declared.logic.Logic.{Logic}
use Rattle.xc_type_rule_operators.specs.declared.logic.Logic.TheVariants as logic
use Rattle.xc_type_rule_operators.specs.Rulings.{unary_ruling, cast_ruling, binary_ruling, logic_ruling, comma_ruling, conditional_ruling, target, assign_ruling, update_ruling}

-- numbers and parentheses --------------------------------------------------

unfoldable pub number_part : Span → ℕ → Bool → Found
number_part span n unsigned = value_from span (cond unsigned Uint Int) (Some (Const n))

-- parentheses belong to the expression
unfoldable pub grouped : Span → Found → Found
grouped span a = record { known = a.known; made = spanned span a.made }

-- one operand ---------------------------------------------------------------

-- `+` leaves a number as it is, and where it stands
unfoldable pub plus_part : Found → Found
plus_part a = cond (is_number_value a.known) a unknown_value

unfoldable pub plus_faults : Span → Found → List Fault
plus_faults span a = fault_unless (may_be is_number a.known) span

unfoldable pub unary_part : Span → UnOp → Found → Found
unary_part span o a = found_by span (unary_ruling o a.known) (option_map (Unary o) a.made)

unfoldable pub unary_faults : Span → UnOp → Found → List Fault
unary_faults span o a = faults_by span (unary_ruling o a.known)

unfoldable pub cast_part : Span → Option Ty → Found → Found
cast_part span to a = found_by span (cast_ruling to a.known) (option_map (Unary un.Cast) a.made)

unfoldable pub cast_faults : Span → Option Ty → Found → List Fault
cast_faults span to a = faults_by span (cast_ruling to a.known)

-- two operands --------------------------------------------------------------

-- a constant 0 compares with every pointer
unfoldable pub beside : Sort → Known → Found → Found
beside comparison k f = against k f
beside _ k f = f

unfoldable pub operated_part : Span → BinOp → Found → Found → Found
operated_part span o a b = found_by span (binary_ruling (sort_of o) a.known b.known) (both (Binary o) a.made b.made)

unfoldable pub operated_faults : Span → BinOp → Found → Found → List Fault
operated_faults span o a b = faults_by span (binary_ruling (sort_of o) a.known b.known)

unfoldable pub binary_part : Span → BinOp → Found → Found → Found
binary_part span o a b = let l = beside (sort_of o) b.known a in operated_part span o l (beside (sort_of o) l.known b)

unfoldable pub binary_faults : Span → BinOp → Found → Found → List Fault
binary_faults span o a b = let l = beside (sort_of o) b.known a in operated_faults span o l (beside (sort_of o) l.known b)

unfoldable pub logic_kind : Logic → Expr → Expr → ExprKind
logic_kind logic.And a b = And a b
logic_kind logic.Or a b = Or a b

unfoldable pub logical_part : Span → Logic → Found → Found → Found
logical_part span o a b = found_by span (logic_ruling a.known b.known) (both (logic_kind o) a.made b.made)

unfoldable pub logical_faults : Span → Logic → Found → Found → List Fault
logical_faults span o a b = faults_by span (logic_ruling a.known b.known)

unfoldable pub comma_part : Span → Found → Found → Found
comma_part span a b = found_by span (comma_ruling a.known b.known) (both Comma a.made b.made)

unfoldable pub comma_faults : Span → Found → Found → List Fault
comma_faults span a b = faults_by span (comma_ruling a.known b.known)

-- `?:` ----------------------------------------------------------------------

unfoldable pub cond_kind : Option Expr → Option Expr → Option Expr → Option ExprKind
cond_kind (Some test) (Some a) (Some b) = Some (Cond test a b)
cond_kind _ _ _ = None

unfoldable pub chosen_part : Span → Found → Found → Found → Found
chosen_part span test a b = found_by span (conditional_ruling test.known a.known b.known (is_null a, is_null b)) (cond_kind test.made a.made b.made)

unfoldable pub chosen_faults : Span → Found → Found → Found → List Fault
chosen_faults span test a b = faults_by span (conditional_ruling test.known a.known b.known (is_null a, is_null b))

-- a constant 0 in one branch fits a pointer in the other
unfoldable pub conditional_part : Span → Found → Found → Found → Found
conditional_part span test a b = let l = against b.known a in chosen_part span test l (against l.known b)

unfoldable pub conditional_faults : Span → Found → Found → Found → List Fault
conditional_faults span test a b = let l = against b.known a in chosen_faults span test l (against l.known b)

-- assignments ---------------------------------------------------------------

-- a write of the kind that the qualifier demands
unfoldable pub write_of : Expr → Expr → ExprKind
write_of place value = Write (write_kind place.ty) place value

unfoldable pub suited : Option Ty → Found → Found
suited None v = v
suited (Some t) v = given t v

unfoldable pub written_part : Span → Found → Found → Found
written_part span to v = found_by span (assign_ruling to.known (target to.known) v.known) (both write_of to.made v.made)

unfoldable pub written_faults : Span → Found → Found → List Fault
written_faults span to v = faults_by span (assign_ruling to.known (target to.known) v.known)

unfoldable pub assign_part : Span → Found → Found → Found
assign_part span to v = written_part span to (suited (target to.known) v)

unfoldable pub assign_faults : Span → Found → Found → List Fault
assign_faults span to v = written_faults span to (suited (target to.known) v)

-- a compound assignment; `post` has the old value
unfoldable pub update_part : Span → BinOp → Bool → Found → Found → Found
update_part span o post to v = found_by span (update_ruling (sort_of o) to.known v.known) (both (Update o post) to.made v.made)

unfoldable pub update_faults : Span → BinOp → Found → Found → List Fault
update_faults span o to v = faults_by span (update_ruling (sort_of o) to.known v.known)

-- `++` and `--` are compound assignments of 1
abbrev pub step_part : Span → BinOp → Bool → Found → Found
step_part span o post to = update_part span o post to (number_part span 1 false)

abbrev pub step_faults : Span → BinOp → Found → List Fault
step_faults span o to = update_faults span o to (number_part span 1 false)
