-- What only private functions and proofs speak of, beside `Table`.
use Rattle.std.specs.Prelude.{ℕ, List, slice_get, slice_set, Option, Some, None}
use Rattle.std.specs.Option.{option_map}
use Rattle.xc_word.specs.declared.memory.Cell.{Cell}
use Rattle.xc_word.specs.declared.memory.Access.{Access}
use Rattle.xc_word.specs.Table.{on_cell}

-- what comes of an access to the cells of its segment; none: they do not have its place, some none: it waits
abbrev pub outcome_in : List Cell → Access → Option (Option (ℕ × Cell))
outcome_in cells act = option_map (on_cell act.kind act.value) (slice_get cells act.place.off)

-- the cells of the segment afterwards
abbrev pub cells_left : List Cell → ℕ → Option (Option (ℕ × Cell)) → List Cell
cells_left cells off None = cells
cells_left cells off (Some None) = cells
cells_left cells off (Some (Some x)) = slice_set cells off x.1
