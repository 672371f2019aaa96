-- Types: their equality, their cells, and which are types of objects (C99 6.2.5).
use Rattle.std.specs.Prelude.{ℕ, ◌+◌, ◌-◌, ◌*◌, ◌%◌, ◌^◌, Bool, true, false, ◌&&◌, ◌||◌, ◌==◌, not, nat_lt, nat_le, if◌then◌else◌, List, [], ◌∷◌, length, map, sum_by, zero, suc, Option, Some, None, slice_get, option_and_then}
use Rattle.xc_tree.specs.declared.ty.Ty.{Ty, out-Ty, Void, Int, Uint, Ptr, Array, Struct, Sync, Future}
use Rattle.xc_tree.specs.declared.ty.Ty.TheOpen.{Ty-F}
use Rattle.xc_tree.specs.declared.ty.Ty.TheFolds.{fold-Ty}
use Rattle.xc_tree.specs.Lists.{every, some, joined, same_numbers, passes}

-- equality ---------------------------------------------------------------

abbrev pub same_at : Ty-F (Ty → Bool) → Ty-F Ty → Bool
same_at Ty-F.Void Ty-F.Void = true
same_at Ty-F.Int Ty-F.Int = true
same_at Ty-F.Uint Ty-F.Uint = true
same_at (Ty-F.Ptr f) (Ty-F.Ptr b) = f b
same_at (Ty-F.Array n f) (Ty-F.Array m b) = n == m && f b
same_at (Ty-F.Struct n) (Ty-F.Struct m) = n == m
same_at (Ty-F.Sync f) (Ty-F.Sync b) = f b
same_at (Ty-F.Future f) (Ty-F.Future b) = f b
same_at _ _ = false

abbrev pub same_ty : Ty → Ty → Bool
same_ty = fold-Ty (Ty → Bool) (λ l t. same_at l (out-Ty t))

-- kinds of types ---------------------------------------------------------

abbrev pub void_at : Ty-F Ty → Bool
void_at Ty-F.Void = true
void_at _ = false

abbrev pub is_void : Ty → Bool
is_void ty = void_at (out-Ty ty)

abbrev pub number_at : Ty-F Ty → Bool
number_at Ty-F.Int = true
number_at Ty-F.Uint = true
number_at _ = false

-- one of the two integer types
abbrev pub is_number : Ty → Bool
is_number ty = number_at (out-Ty ty)

abbrev pub pointee_at : Ty-F Ty → Option Ty
pointee_at (Ty-F.Ptr to) = Some to
pointee_at _ = None

-- what a pointer points to
abbrev pub pointee : Ty → Option Ty
pointee ty = pointee_at (out-Ty ty)

abbrev pub is_pointer : Ty → Bool
is_pointer ty = passes (λ to. true) (pointee ty)

abbrev pub plain_at : Ty-F Ty → Bool
plain_at Ty-F.Int = true
plain_at Ty-F.Uint = true
plain_at (Ty-F.Ptr to) = true
plain_at _ = false

-- a scalar without a qualifier
abbrev pub is_plain : Ty → Bool
is_plain ty = plain_at (out-Ty ty)

abbrev pub qualified_at : Ty-F Ty → Bool
qualified_at (Ty-F.Sync of) = true
qualified_at (Ty-F.Future of) = true
qualified_at _ = false

-- a scalar with a qualifier
abbrev pub is_qualified : Ty → Bool
is_qualified ty = qualified_at (out-Ty ty)

abbrev pub base_at : Ty → Ty-F Ty → Option Ty
base_at ty Ty-F.Int = Some ty
base_at ty Ty-F.Uint = Some ty
base_at ty (Ty-F.Ptr to) = Some ty
base_at ty (Ty-F.Sync of) = Some of
base_at ty (Ty-F.Future of) = Some of
base_at ty _ = None

-- a scalar's type without its qualifier
abbrev pub base : Ty → Option Ty
base ty = base_at ty (out-Ty ty)

abbrev pub array_at : Ty-F Ty → Option (ℕ × Ty)
array_at (Ty-F.Array n of) = Some (n, of)
array_at _ = None

-- an array's bound and the type of its elements
abbrev pub array_of : Ty → Option (ℕ × Ty)
array_of ty = array_at (out-Ty ty)

abbrev pub struct_at : Ty-F Ty → Option ℕ
struct_at (Ty-F.Struct s) = Some s
struct_at _ = None

-- a struct's number
abbrev pub struct_of : Ty → Option ℕ
struct_of ty = struct_at (out-Ty ty)

abbrev pub future_at : Ty-F Ty → Option Ty
future_at (Ty-F.Future of) = Some of
future_at _ = None

-- the type that a future object waits for
abbrev pub future_of : Ty → Option Ty
future_of ty = future_at (out-Ty ty)

-- cells ------------------------------------------------------------------

-- how many cells there are, which types they have, and the type of the cell at each offset
pub record Shape : Type 0 where
  pub size : ℕ
  pub kinds : List Ty
  pub cell : ℕ → Option Ty

abbrev pub no_cells : Shape
no_cells = record { size = 0; kinds = []; cell = λ k. None }

abbrev pub one_cell : Ty → Shape
one_cell ty = record { size = 1; kinds = ty ∷ []; cell = λ k. if k == 0 then Some ty else None }

abbrev pub repeated : ℕ → Shape → Shape
repeated n s = record { size = n * s.size; kinds = s.kinds; cell = λ k. if nat_lt k (n * s.size) then s.cell (k % s.size) else None }

abbrev pub cell_in : List Shape → ℕ → Option Ty
cell_in [] k = None
cell_in (s ∷ ss) k = if nat_lt k s.size then s.cell k else cell_in ss (k - s.size)

-- one after the other
abbrev pub in_order : List Shape → Shape
in_order ss = record { size = sum_by (λ s. s.size) ss; kinds = joined (map (λ s. s.kinds) ss); cell = cell_in ss }

-- a type, its cells, and whether an object may have it
pub record Formed : Type 0 where
  pub ty : Ty
  pub shape : Shape
  pub ok : Bool

-- an object has from 1 to 2^22 cells
abbrev pub is_size : ℕ → Bool
is_size n = nat_le 1 n && nat_le n (2 ^ 22)

abbrev pub scalar : Ty → Bool → Formed
scalar ty ok = record { ty = ty; shape = one_cell ty; ok = ok }

abbrev pub struct_formed : ℕ → Option Shape → Formed
struct_formed s None = record { ty = Struct s; shape = no_cells; ok = false }
struct_formed s (Some shape) = record { ty = Struct s; shape = shape; ok = is_size shape.size }

-- `shapes` has the cells of each struct
abbrev pub form_step : List Shape → Ty-F Formed → Formed
form_step shapes Ty-F.Void = record { ty = Void; shape = no_cells; ok = false }
form_step shapes Ty-F.Int = scalar Int true
form_step shapes Ty-F.Uint = scalar Uint true
form_step shapes (Ty-F.Ptr to) = scalar (Ptr to.ty) to.ok
form_step shapes (Ty-F.Array n of) = record { ty = Array n of.ty; shape = repeated n of.shape; ok = of.ok && is_size (n * of.shape.size) }
form_step shapes (Ty-F.Struct s) = struct_formed s (slice_get shapes s)
form_step shapes (Ty-F.Sync of) = scalar (Sync of.ty) (of.ok && is_plain of.ty)
form_step shapes (Ty-F.Future of) = scalar (Future of.ty) (of.ok && is_plain of.ty)

abbrev pub formed : List Shape → Ty → Formed
formed shapes = fold-Ty Formed (form_step shapes)

abbrev pub shape_of : List Shape → Ty → Shape
shape_of shapes ty = (formed shapes ty).shape

abbrev pub size_of : List Shape → Ty → ℕ
size_of shapes ty = (shape_of shapes ty).size

-- the type of the cell at an offset
abbrev pub cell_of : List Shape → Ty → ℕ → Option Ty
cell_of shapes ty = (shape_of shapes ty).cell

abbrev pub is_object : List Shape → Ty → Bool
is_object shapes ty = (formed shapes ty).ok

-- the cells of each struct, where structs lie in one another at most `deep` levels
unfoldable pub shapes_within : ℕ → List (List Ty) → List Shape
shapes_within zero structs = []
shapes_within (suc deep) structs = map (λ members. in_order (map (shape_of (shapes_within deep structs)) members)) structs

-- the cells of each struct
abbrev pub struct_shapes : List (List Ty) → List Shape
struct_shapes structs = shapes_within (length structs) structs

abbrev pub sizes : List Shape → List ℕ
sizes shapes = map (λ s. s.size) shapes

-- each member may be an object, and no struct lies in itself: another level makes no struct larger
unfoldable pub structs_ok : List (List Ty) → Bool
structs_ok structs = every (map (λ members. every (map (is_object (struct_shapes structs)) members)) structs)
    && (every (map is_size (sizes (struct_shapes structs)))
    && same_numbers (sizes (struct_shapes structs)) (sizes (shapes_within (length structs + 1) structs)))

-- the cell has a pointer, with or without a qualifier
abbrev pub holds_pointer : Ty → Bool
holds_pointer ty = passes is_pointer (base ty)

-- one of the types is a pointer's, and another one differs from it
unfoldable pub is_mixed : List Ty → Bool
is_mixed kinds = some (map (λ t. holds_pointer t && some (map (λ u. not (same_ty t u)) kinds)) kinds)

-- values -----------------------------------------------------------------

abbrev pub both_numbers : Ty → Ty → Bool
both_numbers a b = is_number a && is_number b

-- a value of the second type may be given to a plain object of the first (C99 6.5.16.1)
abbrev pub fits : Ty → Ty → Bool
fits to from = both_numbers to from || (is_pointer to && same_ty to from)

-- the same for any scalar object
abbrev pub may_hold : Ty → Ty → Bool
may_hold to from = passes (λ b. fits b from) (base to)

-- the common type of two numbers (C99 6.3.1.8)
abbrev pub common_type : Ty → Ty → Ty
common_type a b = if same_ty a b then a else Uint

-- what the pointer leads to
abbrev pub content : Ty → Option Ty
content ty = option_and_then base (pointee ty)

abbrev pub array_under : Ty → Option (ℕ × Ty)
array_under ty = option_and_then array_of (pointee ty)

abbrev pub struct_under : Ty → Option ℕ
struct_under ty = option_and_then struct_of (pointee ty)

abbrev pub future_under : Ty → Option Ty
future_under ty = option_and_then future_of (pointee ty)
