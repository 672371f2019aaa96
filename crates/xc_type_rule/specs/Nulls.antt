-- A constant 0 fits every pointer: it is a null pointer there (C99 6.3.2.3).
use Rattle.std.specs.Prelude.{Bool, false, ◌&&◌, ◌==◌, cond, Option, Some, None}
use Rattle.xc_tree.specs.declared.ty.Ty.{Ty}
use Rattle.xc_tree.specs.declared.expr.Expr.{Expr}
use Rattle.xc_tree.specs.declared.expr.ExprKind.{Const}
use Rattle.xc_tree.specs.Lists.{passes}
use Rattle.xc_tree.specs.Types.{is_number, is_pointer}
use Rattle.xc_tree_words.specs.Constants.{constant_of}
use Rattle.xc_type_rule.specs.declared.found.Found.{Found}
use Rattle.xc_type_rule.specs.declared.found.Known.{Known}
use Rattle.xc_type_rule.specs.declared.found.Known.TheVariants as known
use Rattle.xc_type_rule.specs.Making.{typed}

-- an integer constant with value 0
unfoldable pub is_zero : Option Expr → Bool
is_zero made = passes (λ e. passes (λ n. n == 0) (constant_of e)) made

abbrev pub is_number_value : Known → Bool
is_number_value (known.Value ty) = is_number ty
is_number_value _ = false

abbrev pub is_null : Found → Bool
is_null f = is_number_value f.known && is_zero f.made

abbrev pub null : Ty → Option Expr → Found
null to None = record { known = known.Value to; made = None }
null to (Some e) = record { known = known.Value to; made = Some (typed e.span to (Const 0)) }

-- a value that is to be given to a plain object of type `to`
unfoldable pub given : Ty → Found → Found
given to f = cond (is_pointer to && is_null f) (null to f.made) f

abbrev pub against_at : Known → Found → Found
against_at (known.Value ty) f = given ty f
against_at _ f = f

-- a value beside another one
unfoldable pub against : Known → Found → Found
against other f = against_at other f
