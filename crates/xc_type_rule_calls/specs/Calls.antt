-- What calls of functions are found to be (C99 6.5.2.2), and their faults. Those of the arguments are not among them.
use Rattle.std.specs.Prelude.{ℕ, false, List, [], ◌++◌, Option, Some, None}
use Rattle.xc_text_place.specs.declared.Span.{Span}
use Rattle.xc_tree.specs.declared.ty.Ty.{Ty}
use Rattle.xc_tree.specs.declared.expr.Expr.{Expr}
use Rattle.xc_tree.specs.declared.expr.ExprKind.{ExprKind, Call}
use Rattle.xc_type_rule.specs.declared.fault.Fault.{Fault}
use Rattle.xc_type_rule.specs.declared.found.Found.{Found}
use Rattle.xc_type_rule.specs.declared.found.Known.{Known}
use Rattle.xc_type_rule.specs.declared.found.Known.TheVariants as known
use Rattle.xc_type_rule.specs.declared.found.Thing.{Thing}
use Rattle.xc_type_rule.specs.declared.found.Thing.TheVariants as thing
use Rattle.xc_type_rule.specs.Least.{type_fault, name_fault}
use Rattle.xc_type_rule.specs.Making.{Ruling, unknown_value, found_by, faults_by, both}
use Rattle.xc_type_rule_calls.specs.Arguments.{ruled, given_to, all_fit, all_made}

abbrev pub call_of : ℕ → List Expr → ExprKind
call_of n es = Call n es

-- a call is a value of the type of the function's result, if that is known
abbrev pub returned : Option Ty → Known
returned None = known.Unknown false
returned (Some ty) = known.Value ty

unfoldable pub call_ruling : List (Option Ty) → Option Ty → List Found → Ruling
call_ruling params ret args = ruled (all_fit params args) (returned ret)

unfoldable pub called_part : Span → Option ℕ → List (Option Ty) → Option Ty → List Found → Found
called_part span number params ret args = found_by span (call_ruling params ret args) (both call_of number (all_made args))

unfoldable pub called_faults : Span → List (Option Ty) → Option Ty → List Found → List Fault
called_faults span params ret args = faults_by span (call_ruling params ret args)

-- what is called has a definition
abbrev pub defined_faults : Span → Option ℕ → List Fault
defined_faults at None = name_fault at
defined_faults at (Some n) = []

-- `f(args)`, by what `f` stands for
unfoldable pub call_part : Span → Option Thing → List Found → Found
call_part span (Some (thing.Func number params ret)) args = called_part span number params ret (given_to params args)
call_part span _ args = unknown_value

-- `at` covers the name
unfoldable pub call_faults : Span → Span → Option Thing → List Found → List Fault
call_faults span at None args = name_fault at
call_faults span at (Some (thing.Func number params ret)) args = defined_faults at number ++ called_faults span params ret (given_to params args)
call_faults span at (Some _) args = type_fault span
