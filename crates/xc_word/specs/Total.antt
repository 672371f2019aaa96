-- How many words a memory has.
use Rattle.std.specs.Prelude.{ℕ, [], length, unwrap_or}
use Rattle.std.specs.List.{sum_by}
use Rattle.std.specs.FinMap.{entries, get}
use Rattle.xc_word.specs.Cells.{Segments}

-- the cells of all live segments
abbrev pub total : Segments → ℕ
total m = sum_by (λ e. length e.1) (entries m)

-- the cells of one segment, 0 where it is not live
abbrev pub words_of : Segments → ℕ → ℕ
words_of m seg = length (unwrap_or (get m seg) [])
