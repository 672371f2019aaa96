-- What a `return` gives (C99 6.8.6.4).
use Rattle.std.specs.Prelude.{Bool, false, ◌&&◌, not, List, Option, Some, None, option_map}
use Rattle.xc_text_place.specs.declared.Span.{Span}
use Rattle.xc_tree.specs.declared.ty.Ty.{Ty}
use Rattle.xc_tree.specs.declared.stmt.Stmt.{Stmt}
use Rattle.xc_tree.specs.declared.stmt.StmtKind.{Return}
use Rattle.xc_tree.specs.Lists.{allows}
use Rattle.xc_tree.specs.Types.{is_void, is_plain, fits}
use Rattle.xc_type_rule.specs.declared.fault.Fault.{Fault}
use Rattle.xc_type_rule.specs.declared.found.Found.{Found}
use Rattle.xc_type_rule.specs.declared.found.Known.{Known}
use Rattle.xc_type_rule.specs.Least.{fault_unless}
use Rattle.xc_type_rule.specs.Tests.{may_be}
use Rattle.xc_type_rule_operators.specs.Operators.{suited}
use Rattle.xc_type_statement_parts.specs.declared.answer.Answer.{Answer}
use Rattle.xc_type_statement_parts.specs.declared.answer.Answer.TheVariants as answer
use Rattle.xc_type_statement_parts.specs.Making.{stmt}

-- its type, none where that is unknown because of a fault
abbrev pub answer_ty : Answer → Option Ty
answer_ty (answer.Function ty) = ty
answer_ty (answer.Future ty) = ty

-- a function may have no result; the body of a `future` statement has a value
abbrev pub may_be_absent : Answer → Bool
may_be_absent (answer.Function ty) = allows is_void ty
may_be_absent (answer.Future ty) = false

-- a scalar that fits, and none where there is no result
abbrev pub may_be_given : Option Ty → Known → Bool
may_be_given None v = may_be is_plain v
may_be_given (Some ty) v = not (is_void ty) && may_be (fits ty) v

-- `return;`
abbrev pub absent_part : Span → Option Stmt
absent_part span = Some (stmt span (Return None))

abbrev pub absent_faults : Span → Answer → List Fault
absent_faults span a = fault_unless (may_be_absent a) span

-- `return` of a value; a constant 0 is null where a pointer is wanted
abbrev pub returned_value : Answer → Found → Found
returned_value a v = suited (answer_ty a) v

abbrev pub return_part : Span → Answer → Found → Option Stmt
return_part span a v = option_map (λ e. stmt span (Return (Some e))) (returned_value a v).made

abbrev pub return_faults : Span → Answer → Found → List Fault
return_faults span a v = fault_unless (may_be_given (answer_ty a) (returned_value a v).known) span
