-- What a place holds (C99 6.3.2.1).
use Rattle.std.specs.Prelude.{ℕ, Bool, true, false, not, cond, List, Option, Some, option_map}
use Rattle.xc_text_place.specs.declared.Span.{Span}
use Rattle.xc_tree.specs.declared.ty.Ty.{Ty, out-Ty, Int, Ptr}
use Rattle.xc_tree.specs.declared.ty.Ty.TheOpen.{Ty-F}
use Rattle.xc_tree.specs.declared.expr.Expr.{Expr}
use Rattle.xc_tree.specs.declared.expr.ExprKind.{ExprKind, Const, Index, Read}
use Rattle.xc_tree.specs.Kinds.{read_kind}
use Rattle.xc_type_rule.specs.declared.fault.Fault.{Fault}
use Rattle.xc_type_rule.specs.declared.found.Found.{Found}
use Rattle.xc_type_rule.specs.declared.found.Known.{Known}
use Rattle.xc_type_rule.specs.declared.found.Known.TheVariants as known
use Rattle.xc_type_rule.specs.Least.{fault_unless}
use Rattle.xc_type_rule.specs.Making.{typed, unknown_value, value_from}
use Rattle.xc_type_rule.specs.Cells.{cells}

-- a read of the kind that the qualifier demands
abbrev pub read_of : Expr → ExprKind
read_of e = Read (read_kind e.ty) e

abbrev pub read : Span → Ty → Option Expr → Found
read span ty made = value_from span ty (option_map read_of made)

-- the place of an array's first element
abbrev pub first_element : Span → ℕ → ℕ → Expr → ExprKind
first_element span size bound e = Index e (typed span Int (Const 0)) size (Some bound)

abbrev pub decayed : List ℕ → Span → ℕ → Ty → Option Expr → Found
decayed sizes span bound of made = value_from span (Ptr of) (option_map (first_element span (cells sizes of) bound) made)

-- an array within a mixed struct is used by indexing alone; a struct has no value
abbrev pub held : List ℕ → Span → Ty → Bool → Option Expr → Ty-F Ty → Found
held sizes span ty within made (Ty-F.Array n of) = cond within unknown_value (decayed sizes span n of made)
held sizes span ty within made (Ty-F.Sync of) = read span of made
held sizes span ty within made (Ty-F.Future of) = read span of made
held sizes span ty within made (Ty-F.Struct s) = record { known = known.Place ty within; made = made }
held sizes span ty within made Ty-F.Void = record { known = known.Place ty within; made = made }
held sizes span ty within made _ = read span ty made

abbrev pub rvalue_at : List ℕ → Span → Known → Option Expr → Found
rvalue_at sizes span (known.Unknown place) made = unknown_value
rvalue_at sizes span (known.Value ty) made = record { known = known.Value ty; made = made }
rvalue_at sizes span (known.Place ty within) made = held sizes span ty within made (out-Ty ty)

-- the part as a value
unfoldable pub rvalue : List ℕ → Span → Found → Found
rvalue sizes span f = rvalue_at sizes span f.known f.made

abbrev pub is_array_at : Ty-F Ty → Bool
is_array_at (Ty-F.Array n of) = true
is_array_at _ = false

-- an array within a mixed struct
abbrev pub is_lost : Known → Bool
is_lost (known.Place ty within) = cond within (is_array_at (out-Ty ty)) false
is_lost _ = false

unfoldable pub rvalue_faults : Span → Known → List Fault
rvalue_faults span k = fault_unless (not (is_lost k)) span
