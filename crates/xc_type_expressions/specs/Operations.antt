-- Operators (C99 6.5.3 to 6.5.17), by what is found of their operands.
use Rattle.std.specs.Prelude.{Bool, true, false, List, [], ◌∷◌, Option, Some, None}
use Rattle.xc_text_place.specs.declared.Span.{Span}
use Rattle.xc_tree.specs.declared.ty.Ty.{Ty}
use Rattle.xc_raw.specs.declared.word.Word.{Word}
use Rattle.xc_raw.specs.declared.word.Step.{Step}
use Rattle.xc_type_rule.specs.declared.found.Found.{Found}
use Rattle.xc_type_rule.specs.Least.{type_fault}
use Rattle.xc_type_rule.specs.Making.{unknown_place, unknown_value}
use Rattle.xc_raw_parts.specs.declared.operators.Operator.{Operator}
use Rattle.xc_raw_parts.specs.declared.operators.Operator.TheVariants as operator
use Rattle.xc_raw_parts.specs.declared.operators.Assignment.{Assignment}
use Rattle.xc_raw_parts.specs.declared.operators.Assignment.TheVariants as assignment
use Rattle.xc_raw_parts.specs.declared.operators.Prefix.{Prefix}
use Rattle.xc_raw_parts.specs.declared.operators.Prefix.TheVariants as prefix
use Rattle.xc_raw_parts.specs.Operators.{step_op}
use Rattle.xc_type_rule_operators.specs.declared.logic.Logic.TheVariants as logic
use Rattle.xc_type_rule_operators.specs.Operators.{plus_part, plus_faults, unary_part, unary_faults, cast_part, cast_faults, binary_part, binary_faults, logical_part, logical_faults, comma_part, comma_faults, conditional_part, conditional_faults, assign_part, assign_faults, update_part, update_faults, step_part, step_faults}
use Rattle.xc_type_rule_places.specs.Places.{address_part, address_faults, star_part, star_faults}
use Rattle.xc_type_scopes.specs.Env as env
use Rattle.xc_type_scopes.specs.Judge.{Judge, give}
use Rattle.xc_type_scopes.specs.Told.{Told, told, anywhere}

-- `++` and `--`, before their operand or behind it
abbrev pub stepped : Span → Step → Bool → Found → Told Found
stepped span s post a = told (step_part span (step_op s) post a) (step_faults span (step_op s) a)

-- `&`: what it is applied to has an address from now on
abbrev pub addressed : Span → Found → Judge Found
addressed span a = λ e. give (address_part span a) (address_faults span a) (env.with_address a.made e)

-- `*`
abbrev pub followed : Span → Found → Judge Found
followed span a = λ e. give (star_part e.structs.sizes span a) (star_faults e.structs.sizes span a) e

unfoldable pub prefixed : Span → Option Prefix → Found → Judge Found
prefixed span None a = give unknown_place []
prefixed span (Some (prefix.Step s)) a = anywhere (stepped span s false a)
prefixed span (Some prefix.Address) a = addressed span a
prefixed span (Some prefix.Star) a = followed span a
prefixed span (Some prefix.Plus) a = give (plus_part a) (plus_faults span a)
prefixed span (Some (prefix.Value o)) a = give (unary_part span o a) (unary_faults span o a)

abbrev pub has_any : List Word → Bool
has_any [] = false
has_any (w ∷ ws) = true

-- no type with stars is an integer's
abbrev pub cast_to : Span → Bool → Option Ty → Found → Told Found
cast_to span false ty a = told (cast_part span ty a) (cast_faults span ty a)
cast_to span true ty a = told unknown_value (type_fault span)

abbrev pub operated : Span → Operator → Found → Found → Told Found
operated span (operator.Value o) a b = told (binary_part span o a b) (binary_faults span o a b)
operated span operator.And a b = told (logical_part span logic.And a b) (logical_faults span logic.And a b)
operated span operator.Or a b = told (logical_part span logic.Or a b) (logical_faults span logic.Or a b)

unfoldable pub between : Span → Option Operator → Found → Found → Told Found
between span None a b = told unknown_place []
between span (Some o) a b = operated span o a b

-- `test ? a : b`
abbrev pub chosen : Span → Found → Found → Found → Told Found
chosen span test a b = told (conditional_part span test a b) (conditional_faults span test a b)

-- `a, b`
abbrev pub sequenced : Span → Found → Found → Told Found
sequenced span a b = told (comma_part span a b) (comma_faults span a b)

abbrev pub assigned_by : Span → Assignment → Found → Found → Told Found
assigned_by span assignment.Plain to v = told (assign_part span to v) (assign_faults span to v)
assigned_by span (assignment.With o) to v = told (update_part span o false to v) (update_faults span o to v)

unfoldable pub assigned : Span → Option Assignment → Found → Found → Told Found
assigned span None to v = told unknown_place []
assigned span (Some o) to v = assigned_by span o to v
