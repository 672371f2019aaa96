-- Source runs: interleavings of the traces of threads, along which the memory is as it says.
use Rattle.std.specs.Prelude.{◌≡◌, ℕ, ◌+◌, ◌<◌, ◌==◌, List, [], ◌∷◌, ◌++◌, map, length, Some, slice_get, if◌then◌else◌}
use Rattle.xc_tree.specs.Lists.{indices}
use Rattle.xc_meaning_world.specs.World.{World, Dead, world_of}
use Rattle.xc_meaning_world.specs.Runs.{part_of, Applies}
use Rattle.xc_meaning_terms.specs.Terms.{Program}
use Rattle.xc_meaning_threads.specs.Events.{Label, Fork, Join, Event, event, seen, Task, Main, started_by}
use Rattle.xc_meaning_threads.specs.Traces.{IsTrace, IsWhole}

-- ---- threads, numbered in the order of Spawn and Fork

-- those that these events start, in order
abbrev pub started_in : List (ℕ × Event) → List Task
started_in [] = []
started_in ((s, e) ∷ l) = started_by e.label ++ started_in l

-- thread 0 runs `main`
abbrev pub tasks_in : List (ℕ × Event) → List Task
tasks_in l = Main ∷ started_in l

-- the numbers from n on
abbrev pub from : ℕ → ℕ → List ℕ
from n count = map (λ k. n + k) (indices count)

-- the numbers of the threads that a Fork of thread s started, where n threads have started before
abbrev pub forked_at : ℕ → ℕ → ℕ → Label → List ℕ
forked_at s n i (Fork id index iterations values body) = if i == s then from n (length iterations) else []
forked_at s n i _ = []

abbrev pub forked_by : ℕ → ℕ → List (ℕ × Event) → List ℕ
forked_by s n [] = []
forked_by s n ((i, e) ∷ l) = forked_at s n i e.label ++ forked_by s (n + length (started_by e.label)) l

-- of n threads at first, each acts only after its start
abbrev pub InTurn : ℕ → List (ℕ × Event) → Type 0
InTurn n [] = Unit {0}
InTurn n ((s, e) ∷ l) = (s < n) × InTurn (n + length (started_by e.label)) l

-- ---- the rules for a list of events

-- thread s has ended
abbrev pub Ended : Program → List (ℕ × Event) → ℕ → Type 0
Ended p l s = (task : Task) × (slice_get (tasks_in l) s ≡ Some task) × IsWhole p task (part_of s l)

-- each of these numbers
abbrev pub Each : (ℕ → Type 0) → List ℕ → Type 0
Each P [] = Unit {0}
Each P (k ∷ ks) = P k × Each P ks

-- a Join of thread s stands only after its iterations have ended, where these events stand before it
abbrev pub join_stands : Program → List (ℕ × Event) → ℕ → Label → Type 0
join_stands p front s Join = Each (Ended p front) (forked_by s 1 front)
join_stands p front s _ = Unit {0}

abbrev pub JoinsStand : Program → List (ℕ × Event) → List (ℕ × Event) → Type 0
JoinsStand p front [] = Unit {0}
JoinsStand p front ((s, e) ∷ l) = join_stands p front s e.label × JoinsStand p (front ++ (s, e) ∷ []) l

-- Each thread's part is a trace of what it runs, from its start on; the world allows what it sees. A new segment may have the number
-- of one that was freed, so a pointer may come to lead into an object of another type.
pub record SourceRun (p : Program) (l : List (ℕ × Event)) (w : World) : Type 0 where
  pub applies : Applies (length p.globals) (world_of p.globals) (seen l) w
  pub in_turn : InTurn 1 l
  pub traces : (s : ℕ) (task : Task) → slice_get (tasks_in l) s ≡ Some task → IsTrace p task (part_of s l)
  pub joins : JoinsStand p [] l

-- every thread has ended
abbrev pub HasEnded : Program → List (ℕ × Event) → Type 0
HasEnded p l = (s : ℕ) (task : Task) → slice_get (tasks_in l) s ≡ Some task → IsWhole p task (part_of s l)

-- its last event is a trap
abbrev pub HasTrapped : List (ℕ × Event) → Type 0
HasTrapped l = (front : List (ℕ × Event)) × (s : ℕ) × (k : Label) × (l ≡ front ++ (s, event k Dead) ∷ [])
