use Rattle.std.proofs.Common.{◌≡◌, drop}
use Rattle.std.specs.Prelude.{fold}
use Rattle.xc_type_initialiser_objects.specs.Cells.{filled_from}
use Rattle.xc_type_initialiser_objects.specs.InnerCells.{with_cell, no_cells}
use Rattle.xc_type_initialiser_objects.proofs.cells.initialised.Given as goal

-- the words to come give what all words give
abbrev pub invariant-words : goal.invariant-words
invariant-words l = fold with_cell l.laid (filled_from l.at (drop l.word-index l.words)) ≡ fold with_cell no_cells (filled_from 0 l.words)
