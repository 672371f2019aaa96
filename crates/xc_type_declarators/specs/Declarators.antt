-- What declarators make of the types that specifiers give (C99 6.7.5).
use Rattle.std.specs.Prelude.{ℕ, ◌*◌, Bool, true, false, ◌&&◌, ◌||◌, not, if◌then◌else◌, is_some, List, [], ◌∷◌, ◌++◌, fold, Option, Some, None, option_map}
use Rattle.xc_tree.specs.declared.ty.Ty.{Ty}
use Rattle.xc_tree.specs.declared.ty.Ty as ty
use Rattle.xc_tree.specs.Lists.{allows}
use Rattle.xc_tree.specs.Types.{is_void, is_plain, base, is_size}
use Rattle.xc_raw.specs.declared.word.Word.{Word}
use Rattle.xc_raw.specs.declared.word.Word.TheVariants as word
use Rattle.xc_raw.specs.declared.word.Qualifier.TheVariants as qualifier
use Rattle.xc_type_declarators.specs.declared.specifiers.Mark.{Mark}
use Rattle.xc_type_declarators.specs.declared.specifiers.Mark.TheVariants as mark
use Rattle.xc_type_declarators.specs.declared.declarators.Pointed.{Pointed}
use Rattle.xc_type_declarators.specs.declared.declarators.Typing.{Typing}
use Rattle.xc_type_declarators.specs.declared.declarators.Bound.{Bound}
use Rattle.xc_type_declarators.specs.Specifiers.{marked}
use Rattle.xc_text_place.specs.declared.Span.{Span}
use Rattle.xc_type_rule.specs.declared.fault.Fault.{Fault}
use Rattle.xc_type_rule.specs.Least.{fault_unless}
use Rattle.xc_type_rule.specs.Cells.{cells}

-- pointers ---------------------------------------------------------------

-- a second qualifier of one star is the same as the first
abbrev pub agrees : Mark → Mark → Bool
agrees mark.Plain m = true
agrees mark.Sync mark.Sync = true
agrees mark.Future mark.Future = true
agrees _ _ = false

-- the type with its last qualifier
abbrev pub closed : Pointed → Option Ty
closed p = option_map (marked p.mark) p.ty

abbrev pub qualified : Mark → Pointed → Pointed
qualified m p = record { ty = p.ty; mark = m; sound = p.sound && agrees p.mark m }

-- a pointer leads to any type but `void`
abbrev pub may_be_pointed_to : Option Ty → Bool
may_be_pointed_to t = allows (λ t. not (is_void t)) t

abbrev pub starred : Pointed → Pointed
starred p = record { ty = option_map ty.Ptr (closed p); mark = mark.Plain; sound = p.sound && may_be_pointed_to p.ty }

-- `const` and `restrict` have no effect
abbrev pub pointed_step : Pointed → Word → Pointed
pointed_step p word.Star = starred p
pointed_step p (word.Qualifier qualifier.Sync) = qualified mark.Sync p
pointed_step p word.Future = qualified mark.Future p
pointed_step p _ = p

abbrev pub start : Option Ty → Pointed
start base = record { ty = base; mark = mark.Plain; sound = true }

abbrev pub typing_of : Pointed → Typing
typing_of p = record { ty = if p.sound then closed p else None; sound = p.sound }

abbrev pub is_star : Word → Bool
is_star word.Star = true
is_star _ = false

-- the stars of a declarator, each with its qualifiers behind it, from left to right (C99 6.7.5.1)
unfoldable pub pointer_typing : Option Ty → List Word → Typing
pointer_typing base ws = typing_of (fold pointed_step (start base) ws)

-- arrays -----------------------------------------------------------------

-- a bound is from 1 to 2^22
abbrev pub is_bound : ℕ → Bool
is_bound n = is_size n

-- a bound's number, none where it is unknown because of a fault
abbrev pub number_of : Bound → Option ℕ
number_of b = if allows is_bound b.value then b.value else None

-- a bound's fault, where it is known and out of range
abbrev pub bound_faults : Bound → List Fault
bound_faults b = fault_unless (allows is_bound b.value) b.span

unfoldable pub bounds_faults : List Bound → List Fault
bounds_faults [] = []
bounds_faults (b ∷ bs) = bound_faults b ++ bounds_faults bs

abbrev pub array_ty : Option ℕ → Option Ty → Option Ty
array_ty (Some n) (Some t) = Some (ty.Array n t)
array_ty _ _ = None

-- the bounds of a declarator, outermost first (C99 6.7.5.2)
unfoldable pub arrayed : List Bound → Option Ty → Option Ty
arrayed [] t = t
arrayed (b ∷ bs) t = array_ty (number_of b) (arrayed bs t)

abbrev pub or_one : Option ℕ → ℕ
or_one None = 1
or_one (Some n) = n

-- the fewest cells that an array of elements of so many cells may have: an unknown bound is at least 1
unfoldable pub fewest : ℕ → List Bound → ℕ
fewest n [] = n
fewest n (b ∷ bs) = fewest (n * or_one (number_of b)) bs

-- the fewest cells that a type may have: an unknown type has at least 1
abbrev pub cells_at_least : List ℕ → Option Ty → ℕ
cells_at_least sizes None = 1
cells_at_least sizes (Some t) = cells sizes t

-- an object has from 1 to 2^22 cells, whatever is unknown of it
abbrev pub is_complete : List ℕ → Option Ty → List Bound → Bool
is_complete sizes t bs = is_size (fewest (cells_at_least sizes t) bs)

abbrev pub if_sound : Bool → Option Ty → Typing
if_sound sound t = record { ty = if sound then t else None; sound = sound }

-- an object or a member
unfoldable pub object_typing : List ℕ → Typing → List Bound → Typing
object_typing sizes t bs = if_sound (t.sound && is_complete sizes t.ty bs) (arrayed bs t.ty)

-- functions --------------------------------------------------------------

-- the result of a function is void or a plain scalar
abbrev pub may_be_result : Option Ty → Bool
may_be_result t = allows (λ r. is_void r || is_plain r) t

unfoldable pub result_typing : Typing → Typing
result_typing t = if_sound (t.sound && may_be_result t.ty) t.ty

-- a parameter without brackets is a scalar
abbrev pub may_be_parameter : Option Ty → Bool
may_be_parameter t = allows (λ p. is_some (base p)) t

unfoldable pub scalar_typing : Typing → Typing
scalar_typing t = if_sound (t.sound && may_be_parameter t.ty) t.ty

-- an array as a parameter is a pointer to its elements (C99 6.7.5.3 paragraph 7); these are the bounds behind the first brackets
unfoldable pub array_parameter_typing : List ℕ → Typing → List Bound → Typing
array_parameter_typing sizes t bs = if_sound (t.sound && is_complete sizes t.ty bs) (option_map ty.Ptr (arrayed bs t.ty))

-- faults -----------------------------------------------------------------

-- a declarator whose type breaks a rule
abbrev pub typing_faults : Span → Typing → List Fault
typing_faults span t = fault_unless t.sound span
