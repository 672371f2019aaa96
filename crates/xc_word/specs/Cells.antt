-- Memory: from segment numbers to lists of cells.
use Rattle.std.specs.Prelude.{List, Option, Some, None, slice_get, slice_set, true}
use Rattle.std.specs.Option.{option_and_then}
use Rattle.std.specs.Ordering.{nat_cmp}
use Rattle.std.specs.FinMap.{FinMap, get, insert}
use Rattle.xc_word.specs.declared.memory.Cell.{Cell}
use Rattle.xc_word.specs.declared.memory.Place.{Place}

-- the live segments
abbrev pub Segments : Type 0
Segments = FinMap nat_cmp (List Cell)

-- the cell at a place, where the place is in a live segment
abbrev pub cell_at : Segments → Place → Option Cell
cell_at m p = option_and_then (λ cells. slice_get cells p.off) (get m p.seg)

-- the memory with this cell at a place of a segment that has these cells; none: the segment is not live
abbrev pub put_in : Segments → Place → Cell → Option (List Cell) → Segments
put_in m p c None = m
put_in m p c (Some cells) = insert m p.seg (slice_set cells p.off c)

-- the memory with this cell at a place, where the place is in a live segment
abbrev pub put_cell : Segments → Place → Cell → Segments
put_cell m p c = put_in m p c (get m p.seg)

-- a new cell: full, and 0
abbrev pub fresh : Cell
fresh = record { value = 0; full = true }
