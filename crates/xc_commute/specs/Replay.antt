-- Events replayed in the order of time.
use Rattle.std.specs.Prelude.{◌≡◌, ◌≢◌, ℕ, Option, List, map}
use Rattle.xc_word.specs.Cells.{Segments}
use Rattle.xc_commute_histories.specs.History.{play}
use Rattle.xc_commute.specs.declared.events.Event.{Event}
use Rattle.xc_commute.specs.Touch.{On, touched, Conflict}

-- an event with the answer that was recorded
abbrev pub Answered : Type 0
Answered = Event × ℕ

-- the memory after an event; none where it waits, where its place is in no live segment, and where it would be answered otherwise
abbrev pub step_of : Answered → Segments → Option Segments
step_of x m = touched (On x.0.act, x.1) m

-- the memory after all events, in order
abbrev pub replay : List Answered → Segments → Option Segments
replay xs m = play step_of xs m

-- the thread of an event
abbrev pub thread_of : Event → ℕ
thread_of e = e.thread

-- the events of a run without their answers
abbrev pub events_of : List Answered → List Event
events_of run = map (λ x. x.0) run

-- two events that may be swapped where they stand side by side: of different threads, and not in conflict
abbrev pub CanSwap : Event → Event → Type 0
CanSwap a b = (a.thread ≢ b.thread) × (¬ Conflict (On a.act) (On b.act))

-- whatever was answered: with the events in their new order each may be answered as it was, and from each memory at the start
-- the memory afterwards is the same
abbrev pub Keeps : (List Answered → List Answered) → List Event → List Event → Type 0
Keeps turned old new = (run : List Answered) → events_of run ≡ old →
    (events_of (turned run) ≡ new) × ((m : Segments) → replay (turned run) m ≡ replay run m)
