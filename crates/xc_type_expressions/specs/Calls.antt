-- Calls (C99 6.5.2.2).
use Rattle.std.specs.Prelude.{ℕ, Bool, true, false, cond, List, [], ◌∷◌, map, Option, Some, None, option_map, option_and_then}
use Rattle.xc_text_place.specs.declared.Span.{Span}
use Rattle.xc_word.specs.declared.memory.Kind.{Kind}
use Rattle.xc_word.specs.declared.memory.Kind.TheVariants as kind
use Rattle.xc_type_rule.specs.declared.found.Found.{Found}
use Rattle.xc_type_rule.specs.Least.{type_fault}
use Rattle.xc_type_rule.specs.Making.{unknown_place, unknown_value}
use Rattle.xc_type_names.specs.declared.numbers.Reserved.{Reserved}
use Rattle.xc_type_names.specs.declared.numbers.Reserved.TheVariants.{Printf, ReadFe, ReadFf, ReadXx, WriteEf, WriteFf, WriteXf, Purge, FetchAdd}
use Rattle.xc_type_names.specs.Numbered.{reserved_of}
use Rattle.xc_type_literals.specs.Texts.{literal}
use Rattle.xc_type_literals.specs.declared.texts.Literal.{Literal}
use Rattle.xc_raw_parts.specs.Spans.{spot}
use Rattle.xc_type_rule_calls.specs.declared.print.Text.{Text as Printed}
use Rattle.xc_type_rule_calls.specs.Calls.{call_part, call_faults}
use Rattle.xc_type_rule_calls.specs.Accesses.{access_part, access_faults, update_part, update_faults}
use Rattle.xc_type_rule_calls.specs.Prints.{print_part, print_faults, ninth_of}
use Rattle.xc_type_scopes.specs.Env as env
use Rattle.xc_type_scopes.specs.Judge.{Judge, give, and_then}
use Rattle.xc_type_scopes.specs.Told.{Told, told, anywhere}
use Rattle.xc_type_expressions.specs.declared.text.Text.{Text}
use Rattle.xc_type_expressions.specs.Roles.{Role, values}
use Rattle.xc_type_expressions.specs.Places.{name_of}

-- what is called is no function, or has another number of arguments
abbrev pub misused : Span → Told Found
misused span = told unknown_value (type_fault span)

-- generic functions ----------------------------------------------------------

-- the only value, if there is one alone
abbrev pub one_of : List Found → Option Found
one_of (p ∷ []) = Some p
one_of _ = None

-- the two, if there are no others
abbrev pub two_of : List Found → Option (Found × Found)
two_of (p ∷ v ∷ []) = Some (p, v)
two_of _ = None

-- of a pointer
abbrev pub accessing_by : Span → Kind → Option Found → Told Found
accessing_by span k None = misused span
accessing_by span k (Some p) = told (access_part span k p) (access_faults span k p)

abbrev pub accessing : Span → Kind → List Found → Told Found
accessing span k vs = accessing_by span k (one_of vs)

-- of a pointer and a value
abbrev pub updating_by : Span → Kind → Option (Found × Found) → Told Found
updating_by span k None = misused span
updating_by span k (Some pair) = told (update_part span k pair.0 pair.1) (update_faults span k pair.0 pair.1)

abbrev pub updating : Span → Kind → List Found → Told Found
updating span k vs = updating_by span k (two_of vs)

-- `printf` --------------------------------------------------------------------

-- behind its text; the ninth of its arguments, whose bytes `spans` has, passes a count
abbrev pub printing : Span → Printed → List Span → List Found → Judge Found
printing span text spans vs = λ e. give (print_part span (Some text) vs) (print_faults span (Some text) vs) (env.with_over (ninth_of (Some text) spans) e)

abbrev pub printed_text : Text → ℕ → Literal → Printed
printed_text t token l = record { span = spot t.tokens.now token; number = l.number; takes = l.takes }

-- the string literal that an argument is
abbrev pub text_of : Text → Role → Option Printed
text_of t p = option_and_then (λ token. option_map (printed_text t token) (literal t.texts.now.numbers.items t.texts.now.takes.items token)) p.alone

-- the name that an expression is
abbrev pub named_by : Text → Role → Option ℕ
named_by t p = option_and_then (name_of t) p.alone

abbrev pub is_printf : Option Reserved → Bool
is_printf (Some Printf) = true
is_printf _ = false

-- what a call begins with: the name of `printf`, and a text
abbrev pub format_of : Text → Role → Role → Option Printed
format_of t f p = cond (is_printf (option_and_then reserved_of (named_by t f))) (text_of t p) None

-- calls -----------------------------------------------------------------------

-- a `printf` without a text is none
unfoldable pub calling_reserved : Span → Reserved → List Found → Told Found
calling_reserved span Printf vs = misused span
calling_reserved span ReadFe vs = accessing span kind.ReadFe vs
calling_reserved span ReadFf vs = accessing span kind.ReadFf vs
calling_reserved span ReadXx vs = accessing span kind.ReadXx vs
calling_reserved span Purge vs = accessing span kind.Purge vs
calling_reserved span WriteEf vs = updating span kind.WriteEf vs
calling_reserved span WriteFf vs = updating span kind.WriteFf vs
calling_reserved span WriteXf vs = updating span kind.WriteXf vs
calling_reserved span FetchAdd vs = updating span kind.Add vs

-- by a name, which `at` covers
unfoldable pub calling : Span → Span → ℕ → Option Reserved → List Found → Judge Found
calling span at name (Some r) vs = anywhere (calling_reserved span r vs)
calling span at name None vs = λ e. give (call_part span (env.found name e) vs) (call_faults span at (env.found name e) vs) e

-- what is called is a name alone
abbrev pub applied_by : Span → Role → List Role → Option ℕ → Judge Found
applied_by span f args None = and_then f.found (λ g. and_then (values args) (λ vs. anywhere (misused span)))
applied_by span f args (Some name) = and_then (values args) (calling span f.span name (reserved_of name))

unfoldable pub applied : Text → Span → List Role → Judge Found
applied t span [] = give unknown_place []
applied t span (f ∷ args) = applied_by span f args (named_by t f)

abbrev pub spans_of : List Role → List Span
spans_of ps = map (λ p. p.span) ps

abbrev pub called_by : Text → Span → List Role → List Role → Option Printed → Judge Found
called_by t span parts rest None = applied t span parts
called_by t span parts rest (Some text) = and_then (values rest) (printing span text (spans_of rest))

-- `f(args)`: what is called, and the arguments; the text of a `printf` is no value
unfoldable pub called : Text → Span → List Role → Judge Found
called t span (f ∷ p ∷ rest) = called_by t span (f ∷ p ∷ rest) rest (format_of t f p)
called t span parts = applied t span parts
