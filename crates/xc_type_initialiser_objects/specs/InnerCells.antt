-- What only private functions and proofs speak of, beside `Cells`.
use Rattle.std.specs.Prelude.{ℕ, ◌+◌, cond, List, [], ◌∷◌, ◌++◌, replicate}
use Rattle.xc_type_initialiser_objects.specs.declared.cells.Laid.{Laid}
use Rattle.xc_type_initialiser_objects.specs.Cells.{Cell, fresh, is_fresh}

-- how code keeps them --------------------------------------------------------

abbrev pub with_fresh : Laid → ℕ → Laid
with_fresh l n = record { first = l.first; rest = l.rest + n }

abbrev pub with_rest : Laid → List Cell
with_rest l = l.first ++ replicate l.rest fresh

-- cells that are full and 0 are counted until another one stands behind them
unfoldable pub with_cell : Laid → Cell → Laid
with_cell l c = cond (is_fresh c) (with_fresh l 1) (record { first = with_rest l ++ c ∷ []; rest = 0 })

abbrev pub no_cells : Laid
no_cells = record { first = []; rest = 0 }
