-- Tests of what is known of a part as a value.
use Rattle.std.specs.Prelude.{Bool, true, false}
use Rattle.xc_tree.specs.declared.ty.Ty.{Ty}
use Rattle.xc_type_rule.specs.declared.found.Known.{Known}
use Rattle.xc_type_rule.specs.declared.found.Known.TheVariants as known

-- its type passes, or it has a fault and may be of such a type; a place that is left is a struct's
unfoldable pub may_be : (Ty → Bool) → Known → Bool
may_be p (known.Unknown place) = true
may_be p (known.Value ty) = p ty
may_be p (known.Place ty within) = false

abbrev pub is_unknown : Known → Bool
is_unknown (known.Unknown place) = true
is_unknown _ = false

-- its type is unknown, and it may name an object
abbrev pub may_be_place : Known → Bool
may_be_place (known.Unknown place) = place
may_be_place _ = false
