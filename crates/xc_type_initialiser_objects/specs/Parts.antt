-- What the initialisers between braces go to (C99 6.7.8 paragraphs 17 to 20).
use Rattle.std.specs.Prelude.{ℕ, ◌+◌, ◌*◌, ◌-◌, ◌^◌, min, Bool, true, false, nat_lt, if◌then◌else◌, Option, Some, None, slice_get}
use Rattle.xc_tree.specs.declared.ty.Ty.{Ty, out-Ty}
use Rattle.xc_tree.specs.declared.ty.Ty.TheOpen.{Ty-F}
use Rattle.xc_type_rule.specs.declared.found.Member.{Member}
use Rattle.xc_type_rule.specs.Cells.{cells}
use Rattle.xc_type_rule.specs.Members.{members_of}
use Rattle.xc_type_structs.specs.declared.structs.Structs.{Structs}
use Rattle.xc_type_initialiser_objects.specs.declared.target.Target.{Target}
use Rattle.xc_type_initialiser_objects.specs.declared.target.Part.{Part}

-- an offset ends at 2^32 - 1, which no object comes to
abbrev pub capped : ℕ → ℕ
capped n = min n (2 ^ 32 - 1)

abbrev pub target : Option Ty → ℕ → Target
target ty off = record { ty = ty; off = off }

-- a part of this type, so many cells further on
abbrev pub part : Option Ty → ℕ → ℕ → Part
part ty off n = record { target = target ty (capped (off + n)); there = true }

-- one too many: nothing is known of what it goes to
abbrev pub no_part : ℕ → Part
no_part off = record { target = target None off; there = false }

-- the element with this number
abbrev pub element_part : Structs → ℕ → ℕ → Ty → ℕ → Part
element_part s off n of k = if nat_lt k n then part (Some of) off (capped (k * cells s.sizes of)) else no_part off

abbrev pub member_part : ℕ → Option Member → Part
member_part off None = no_part off
member_part off (Some m) = part m.ty off m.off

-- an array has elements and a struct members; of what else stands between braces nothing is known
abbrev pub part_at : Structs → ℕ → ℕ → Ty-F Ty → Part
part_at s off k (Ty-F.Array n of) = element_part s off n of k
part_at s off k (Ty-F.Struct number) = member_part off (slice_get (members_of s.members number) k)
part_at s off k _ = part None off 0

abbrev pub part_typed : Structs → ℕ → ℕ → Option Ty → Part
part_typed s off k None = part None off 0
part_typed s off k (Some ty) = part_at s off k (out-Ty ty)

-- what the initialiser with this number goes to, counted from 0
unfoldable pub part_of : Structs → Target → ℕ → Part
part_of s to k = part_typed s to.off k to.ty

abbrev pub is_braced_at : Ty-F Ty → Bool
is_braced_at (Ty-F.Array n of) = true
is_braced_at (Ty-F.Struct number) = true
is_braced_at _ = false

-- braces initialise arrays and structs
abbrev pub may_be_braced : Option Ty → Bool
may_be_braced None = true
may_be_braced (Some ty) = is_braced_at (out-Ty ty)
