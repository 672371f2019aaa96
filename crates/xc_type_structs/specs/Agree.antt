-- What a table of structs says of their cells.
use Rattle.std.specs.Prelude.{◌≡◌, ℕ, ◌<◌, ◌-◌, ◌^◌, min, List, [], map, Option, Some, None, slice_get}
use Rattle.std.specs.List.{All}
use Rattle.xc_tree.specs.declared.ty.Ty.{Ty}
use Rattle.xc_tree.specs.Types.{Shape, sizes, struct_formed, shape_of, in_order, is_mixed}
use Rattle.xc_type_structs.specs.declared.structs.Structs.{Structs}
use Rattle.xc_type_structs.specs.declared.structs.Layout.{Layout}
use Rattle.xc_type_structs.specs.Kinds.{summary}

abbrev pub Counted : Shape → Type 0
Counted h = h.size < 2 ^ 32

-- the table has the sizes and the kinds of the cells of these structs, in order, and which of them are mixed
pub record Agrees (s : Structs) (shapes : List Shape) : Type 0 where
  pub size : s.sizes ≡ sizes shapes
  pub kind : s.kinds ≡ map (λ h. summary h.kinds) shapes
  pub mixed : s.mixed ≡ map (λ h. is_mixed h.kinds) shapes
  pub counted : All Counted shapes

-- the cells of the struct with this number
abbrev pub struct_shape : List Shape → ℕ → Shape
struct_shape shapes s = (struct_formed s (slice_get shapes s)).shape

-- a cell of unknown type
abbrev pub unknown_cell : Shape
unknown_cell = record { size = 1; kinds = []; cell = λ k. None }

abbrev pub part_shape : List Shape → Option Ty → Shape
part_shape shapes None = unknown_cell
part_shape shapes (Some t) = shape_of shapes t

-- the cells of members of these types, where an unknown type has one
abbrev pub members_shape : List Shape → List (Option Ty) → Shape
members_shape shapes members = in_order (map (part_shape shapes) members)

-- the layout has the size of these cells and their kinds
pub record Lays (l : Layout) (shape : Shape) : Type 0 where
  pub size : l.size ≡ min shape.size (2 ^ 32 - 1)
  pub kind : l.kinds ≡ summary shape.kinds
