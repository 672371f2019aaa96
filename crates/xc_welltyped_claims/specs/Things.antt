-- What scopes name.
use Rattle.std.specs.Prelude.{◌≡◌, ℕ, ◌<◌, Bool, false, ◌&&◌, ◌||◌, IsTrue, List, length, map, Some, slice_get}
use Rattle.xc_text_place.specs.declared.Span.{Span}
use Rattle.xc_tree.specs.declared.ty.Ty.{Ty}
use Rattle.xc_tree.specs.Lists.{every, has, passes}
use Rattle.xc_tree.specs.Types.{is_void}
use Rattle.xc_tree.specs.Typed.{Context}
use Rattle.xc_type_rule.specs.declared.found.Thing.{Thing}
use Rattle.xc_type_rule.specs.declared.found.Thing.TheVariants as thing
use Rattle.xc_welltyped_rules.specs.Agrees.{global_ok}
use Rattle.xc_welltyped_rules.specs.Callees.{DefinesAny}
use Rattle.xc_welltyped_claims.specs.Lists.{Each}
use Rattle.xc_welltyped_claims.specs.Types.{is_object_by}

-- it holds of all that the scopes name
abbrev pub InScopes : {T : Type 0} → (T → Type 0) → List (List (ℕ × T)) → Type 0
InScopes P ss = Each (λ es. Each (λ e. P e.1) es) ss

-- file scope has objects, and functions with parameters and a result without a fault
abbrev pub file_thing_ok : List ℕ → Thing → Bool
file_thing_ok sizes (thing.Global n ty) = passes (is_object_by sizes) ty
file_thing_ok sizes (thing.Local n ty) = false
file_thing_ok sizes (thing.Func number params ret) = every (map (passes (is_object_by sizes)) params) && passes (λ t. is_void t || is_object_by sizes t) ret

abbrev pub FileThing : List ℕ → Thing → Type 0
FileThing sizes x = IsTrue (file_thing_ok sizes x)

-- a function has its own objects
abbrev pub OwnThing : List (Span × Ty) → Thing → Type 0
OwnThing locals (thing.Local n (Some ty)) = (at : Span) × (slice_get locals n ≡ Some (at, ty))
OwnThing locals _ = ⊥

-- the name of a struct that was opened
abbrev pub IsTag : List ℕ → ℕ → Type 0
IsTag sizes number = number < length sizes

-- an object of the function at work is seen
abbrev pub SeenThing : List ℕ → Thing → Type 0
SeenThing seen (thing.Local n ty) = IsTrue (has n seen)
SeenThing seen _ = Unit {0}

-- the program has the object, and the function if that is defined
abbrev pub HasThing : Context → Thing → Type 0
HasThing cx (thing.Global n (Some ty)) = IsTrue (global_ok cx n ty)
HasThing cx (thing.Func number params ret) = DefinesAny cx params ret number
HasThing cx _ = Unit {0}
