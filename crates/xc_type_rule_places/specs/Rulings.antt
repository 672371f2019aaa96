-- What the rules of places say, by what is known of the parts. None is a broken rule.
use Rattle.std.specs.Prelude.{ℕ, ◌+◌, ◌-◌, ◌^◌, min, Bool, true, false, cond, List, Option, Some, None, option_map}
use Rattle.xc_tree.specs.declared.ty.Ty.{Ty, out-Ty, Ptr}
use Rattle.xc_tree.specs.declared.ty.Ty.TheOpen.{Ty-F}
use Rattle.xc_tree.specs.declared.expr.Expr.{Expr}
use Rattle.xc_tree.specs.declared.expr.ExprKind.{ExprKind, out-ExprKind, Index}
use Rattle.xc_tree.specs.declared.expr.ExprKind.TheOpen.{ExprKind-F}
use Rattle.xc_tree.specs.Types.{is_number, pointee, struct_of, struct_under}
use Rattle.xc_type_rule.specs.declared.found.Found.{Found}
use Rattle.xc_type_rule.specs.declared.found.Known.{Known}
use Rattle.xc_type_rule.specs.declared.found.Known.TheVariants as known
use Rattle.xc_type_rule.specs.Cells.{cells}
use Rattle.xc_type_rule.specs.Making.{Ruling}
use Rattle.xc_type_rule.specs.Tests.{may_be}
use Rattle.xc_type_rule.specs.Values.{is_array_at}
use Rattle.xc_type_rule_places.specs.declared.element.Base.{Base}

-- elements ------------------------------------------------------------------

abbrev pub object_at : Ty → Known
object_at ty = known.Place ty false

-- the object that a value points to (C99 6.5.3.2)
abbrev pub pointed : Known → Ruling
pointed (known.Unknown place) = Some (known.Unknown true)
pointed (known.Value ty) = option_map object_at (pointee ty)
pointed (known.Place ty within) = None

abbrev pub object_size : List ℕ → Option Ty → ℕ
object_size sizes None = 0
object_size sizes (Some ty) = cells sizes ty

abbrev pub pointed_size : List ℕ → Known → ℕ
pointed_size sizes (known.Value ty) = object_size sizes (pointee ty)
pointed_size sizes _ = 0

unfoldable pub pointer_base : List ℕ → Found → Base
pointer_base sizes v = record { element = pointed v.known; size = pointed_size sizes v.known; bound = None; made = v.made }

abbrev pub no_base : Base
no_base = record { element = None; size = 0; bound = None; made = None }

abbrev pub is_array : Known → Bool
is_array (known.Place ty within) = is_array_at (out-Ty ty)
is_array _ = false

-- an element lies in a mixed struct where its array does
abbrev pub array_at : List ℕ → Bool → Ty-F Ty → Option Expr → Base
array_at sizes within (Ty-F.Array n of) made = record { element = Some (known.Place of within); size = cells sizes of; bound = Some n; made = made }
array_at sizes within _ made = no_base

abbrev pub array_of : List ℕ → Known → Option Expr → Base
array_of sizes (known.Place ty within) made = array_at sizes within (out-Ty ty) made
array_of sizes _ made = no_base

unfoldable pub array_base : List ℕ → Found → Base
array_base sizes a = array_of sizes a.known a.made

-- an index is an integer
abbrev pub index_ruling : Ruling → Known → Ruling
index_ruling element i = cond (may_be is_number i) element None

-- addresses -----------------------------------------------------------------

-- `&` of a place gives a value (C99 6.5.3.2); none leads into a mixed struct
abbrev pub address_ruling : Known → Ruling
address_ruling (known.Unknown place) = cond place (Some (known.Unknown false)) None
address_ruling (known.Value ty) = None
address_ruling (known.Place ty within) = cond within None (Some (known.Value (Ptr ty)))

abbrev pub raised_at : ExprKind → ExprKind-F ExprKind Expr → ExprKind
raised_at k (ExprKind-F.Index base index size (Some bound)) = Index base index size (Some (min (bound + 1) (2 ^ 32 - 1)))
raised_at k _ = k

-- an index of an array may go one past the last element under `&` (C99 6.5.6 paragraph 8)
abbrev pub raised : ExprKind → ExprKind
raised k = raised_at k (out-ExprKind k)

-- members -------------------------------------------------------------------

-- the struct that `.` goes into (C99 6.5.2.3)
abbrev pub dot_owner : Known → Option ℕ
dot_owner (known.Place ty within) = struct_of ty
dot_owner _ = None

-- the struct that `->` goes into
abbrev pub arrow_owner : Known → Option ℕ
arrow_owner (known.Value ty) = struct_under ty
arrow_owner _ = None

-- it lies in a mixed struct
abbrev pub lies_within : Known → Bool
lies_within (known.Place ty within) = within
lies_within _ = false
