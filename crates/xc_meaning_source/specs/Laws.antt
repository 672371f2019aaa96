-- What holds of source runs by their definition.
use Rattle.std.specs.Prelude.{◌≡◌, ℕ, List, ◌++◌}
use Rattle.xc_meaning_world.specs.World.{World, world_of}
use Rattle.xc_meaning_terms.specs.Terms.{Program}
use Rattle.xc_meaning_threads.specs.Events.{Event}
use Rattle.xc_meaning_source.specs.Work.{world_after}
use Rattle.xc_meaning_source.specs.Source.{SourceRun}

-- a source run that is cut off anywhere is one
abbrev pub SourceRunsAreClosed : Type 0
SourceRunsAreClosed = (p : Program) (l m : List (ℕ × Event)) (w : World) → SourceRun p (l ++ m) w → (v : World) × SourceRun p l v

-- the world at its end is that after its events: the replies tell the numbers of new segments
abbrev pub WorldIsThatAfter : Type 0
WorldIsThatAfter = (p : Program) (l : List (ℕ × Event)) (w : World) → SourceRun p l w → w ≡ world_after (world_of p.globals) l
