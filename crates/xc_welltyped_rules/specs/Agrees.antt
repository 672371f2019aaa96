-- When what is known of names and of members agrees with a program.
use Rattle.std.specs.Prelude.{◌≡◌, ℕ, Bool, true, ◌&&◌, nat_lt, IsTrue, length, Option, Some, None, slice_get}
use Rattle.xc_tree.specs.declared.ty.Ty.{Ty, Ptr, Struct}
use Rattle.xc_tree.specs.Lists.{passes, allows}
use Rattle.xc_tree.specs.Types.{is_object}
use Rattle.xc_tree.specs.Typed.{Context, leads_to, global_type, addressed_type, member_ok, mixed_under}
use Rattle.xc_type_rule.specs.declared.found.Thing.{Thing}
use Rattle.xc_type_rule.specs.declared.found.Thing.TheVariants as thing
use Rattle.xc_type_rule.specs.declared.found.Member.{Member}
use Rattle.xc_welltyped.specs.Sound.{Point}

-- an object's type that passes; nothing is asked of a declaration with a fault, of which nothing is made
abbrev pub declared_ok : Point → (Ty → Bool) → Option Ty → Bool
declared_ok so p None = true
declared_ok so p (Some ty) = is_object so.shapes ty && p ty

abbrev pub global_ok : Context → ℕ → Ty → Bool
global_ok cx n ty = nat_lt n (length cx.globals) && leads_to (global_type (slice_get cx.globals n)) (Ptr ty)

abbrev pub local_ok : Context → ℕ → Ty → Bool
local_ok cx n ty = nat_lt n (length cx.locals) && leads_to (addressed_type (slice_get cx.locals n)) (Ptr ty)

-- the program has the object
abbrev pub thing_ok : Point → Option Thing → Bool
thing_ok so (Some (thing.Global n ty)) = declared_ok so (global_ok so.cx n) ty
thing_ok so (Some (thing.Local n ty)) = declared_ok so (local_ok so.cx n) ty
thing_ok so _ = true

-- the struct has such a member there
abbrev pub member_fits : Point → ℕ → Member → Bool
member_fits so s m = declared_ok so (λ ty. member_ok so.cx.shapes (slice_get so.cx.structs s) m.off (Ptr ty)) m.ty

-- what is found in a struct is a member of it, and whether the struct mixes is known
abbrev pub IsMemberOf : Point → Option ℕ → Option Member → Bool → Type 0
IsMemberOf so (Some s) (Some m) mixes = IsTrue (member_fits so s m) × (mixes ≡ mixed_under so.cx.shapes (Ptr (Struct s)))
IsMemberOf so _ _ mixes = Unit {0}

-- declarations without a fault ------------------------------------------------

abbrev pub is_typed : Option Ty → Bool
is_typed ty = passes (λ t. true) ty

-- the object's type is known
abbrev pub is_typed_thing : Option Thing → Bool
is_typed_thing (Some (thing.Global n ty)) = is_typed ty
is_typed_thing (Some (thing.Local n ty)) = is_typed ty
is_typed_thing _ = true

-- the member's type is known
abbrev pub is_typed_member : Option Member → Bool
is_typed_member m = allows (λ m. is_typed m.ty) m
