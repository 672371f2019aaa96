-- What calls of `printf` are found to be (C99 7.19.6.1), and their faults. Those of the arguments are not among them.
use Rattle.std.specs.Prelude.{ℕ, Bool, true, ◌&&◌, ◌==◌, nat_le, cond, List, [], ◌++◌, length, map, Option, Some, None, option_map, slice_get}
use Rattle.xc_text_place.specs.declared.Span.{Span}
use Rattle.xc_tree.specs.declared.ty.Ty.{Void}
use Rattle.xc_tree.specs.declared.expr.Expr.{Expr}
use Rattle.xc_tree.specs.declared.expr.ExprKind.{ExprKind, Print}
use Rattle.xc_tree.specs.Types.{is_number}
use Rattle.xc_tree.specs.Lists.{every, passes}
use Rattle.xc_type_rule.specs.declared.fault.Fault.{Fault}
use Rattle.xc_type_rule.specs.declared.found.Found.{Found}
use Rattle.xc_type_rule.specs.declared.found.Known.TheVariants as known
use Rattle.xc_type_rule.specs.Least.{type_fault}
use Rattle.xc_type_rule.specs.Making.{Ruling, unknown_value, found_by, faults_by}
use Rattle.xc_type_rule.specs.Tests.{may_be}
use Rattle.xc_type_rule_calls.specs.declared.print.Text.{Text}
use Rattle.xc_type_rule_calls.specs.Arguments.{ruled, all_made}

abbrev pub all_numbers : List Found → Bool
all_numbers args = every (map (λ f. may_be is_number f.known) args)

-- as many arguments as the text takes; of a text that is no format that is not known
abbrev pub so_many : Option ℕ → ℕ → Bool
so_many None n = true
so_many (Some m) n = m == n

unfoldable pub print_ruling : Option ℕ → List Found → Ruling
print_ruling takes args = ruled (so_many takes (length args) && all_numbers args) (known.Value Void)

abbrev pub print_of : ℕ → List Expr → ExprKind
print_of n es = Print n es

abbrev pub is_short : Option ℕ → Bool
is_short takes = passes (λ n. nat_le n 8) takes

-- nothing is made of a text that is no format, nor with more than 8 arguments
unfoldable pub print_kind : Text → List Found → Option ExprKind
print_kind text args = cond (is_short text.takes) (option_map (print_of text.number) (all_made args)) None

-- what stands first has to be a text
unfoldable pub print_part : Span → Option Text → List Found → Found
print_part span None args = unknown_value
print_part span (Some text) args = found_by span (print_ruling text.takes args) (print_kind text args)

abbrev pub format_faults : Text → List Fault
format_faults text = cond (passes (λ n. true) text.takes) [] (type_fault text.span)

unfoldable pub print_faults : Span → Option Text → List Found → List Fault
print_faults span None args = type_fault span
print_faults span (Some text) args = format_faults text ++ faults_by span (print_ruling text.takes args)

-- where the ninth argument begins, if there are as many as the text takes; `spans` has the bytes of each argument
unfoldable pub ninth_of : Option Text → List Span → Option ℕ
ninth_of None spans = None
ninth_of (Some text) spans = cond (passes (λ n. n == length spans) text.takes) (option_map (λ s. s.start) (slice_get spans 8)) None
