-- The cells of globals of integer type, as runs.
use Rattle.std.specs.Prelude.{ℕ, Bool, List, [], ◌∷◌}
use Rattle.xc_word.specs.declared.memory.Cell.{Cell}
use Rattle.xc_word.specs.Cells.{fresh}
use Rattle.xc_tree.specs.declared.tree.Object.{Object}
use Rattle.xc_isa.specs.declared.code.Run.{Run}

-- the one cell: its first word, or full and 0 without one
abbrev pub cell_of : List (ℕ × Bool) → Cell
cell_of [] = fresh
cell_of (c ∷ cs) = record { value = c.0; full = c.1 }

abbrev pub runs_of : Object → List Run
runs_of g = record { count = 1; cell = cell_of g.init } ∷ []
