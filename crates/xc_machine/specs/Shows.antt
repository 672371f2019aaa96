-- The fields of a machine as parts of a state of the definition.
use Rattle.std.specs.Prelude.{ℕ, List, [], unwrap_or}
use Rattle.std.specs.FinMap.{get}
use Rattle.xc_word.specs.Cells.{Segments}
use Rattle.xc_meaning_world.specs.World.{Segs, World}

-- a segment that is not live has no cell
abbrev pub segs_in : Segments → Segs
segs_in m g = unwrap_or (get m g) []

abbrev pub world_in : Segments → List ℕ → World
world_in m out = record { segs = segs_in m; out = out }
