-- Source runs of straight programs by themselves are their source runs as programs of the whole language, and there are no others.
use Rattle.std.specs.Prelude.{◌≡◌, ◌↔◌, ℕ, List, map}
use Rattle.xc_meaning_world.specs.World.{World, Action}
use Rattle.xc_meaning_world.specs.Runs as world
use Rattle.xc_meaning.specs.Terms as old
use Rattle.xc_meaning.specs.Source as alone
use Rattle.xc_meaning_threads.specs.Events.{Event}
use Rattle.xc_meaning_source.specs.Source.{SourceRun, HasEnded, HasTrapped}
use Rattle.xc_meaning_source.specs.Work as costs
use Rattle.xc_meaning_straight.specs.Straight.{event_of, program_for, IsStraight}

-- the same list, of events
abbrev pub run_for : List (ℕ × Action) → List (ℕ × Event)
run_for l = map (λ e. (e.0, event_of e.1)) l

-- a list is a source run by the one definition where it is by the other, with the same world
abbrev pub SameSourceRuns : Type 0
SameSourceRuns = (p : old.Program) → IsStraight p.body → (l : List (ℕ × Action)) (w : World) → alone.SourceRun p l w ↔ SourceRun (program_for p) (run_for l) w

-- each source run as one of the whole language is such a list
abbrev pub NoOtherRuns : Type 0
NoOtherRuns = (p : old.Program) → IsStraight p.body → (m : List (ℕ × Event)) (w : World) → SourceRun (program_for p) m w →
    (l : List (ℕ × Action)) × (m ≡ run_for l)

-- the two have ended together, and trapped together, and have made as many ticks
abbrev pub SameEnds : Type 0
SameEnds = (p : old.Program) → IsStraight p.body → (l : List (ℕ × Action)) → alone.HasEnded p l ↔ HasEnded (program_for p) (run_for l)

abbrev pub SameTraps : Type 0
SameTraps = (l : List (ℕ × Action)) → world.HasTrapped l ↔ HasTrapped (run_for l)

abbrev pub SameTicks : Type 0
SameTicks = (l : List (ℕ × Action)) → costs.ticks (run_for l) ≡ world.ticks l
