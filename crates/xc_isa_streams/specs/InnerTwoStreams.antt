-- What only private functions and proofs speak of, beside `TwoStreams`.
use Rattle.std.specs.Prelude.{List, [], ◌∷◌}
use Rattle.xc_word.specs.Cells.{fresh}
use Rattle.xc_isa.specs.declared.code.Run.{Run}

abbrev pub one_global : List (List Run)
one_global = (record { count = 1; cell = fresh } ∷ []) ∷ []
