-- What a serial run answers: that of a program without threads.
use Rattle.std.specs.Prelude.{◌≡◌, ◌≢◌, ◌⊎◌, ℕ, suc, ◌+◌, ◌^◌, ◌<◌, ◌≤◌, Bool, true, false, ◌||◌, not, IsTrue, min, List, [], ◌∷◌, map, length, None}
use Rattle.xc_tree.specs.Lists.{some}
use Rattle.xc_meaning_world.specs.World.{Segs, World, Touch, New, On, Tick, Reply, Got, serve, world_of}
use Rattle.xc_meaning_world.specs.Runs.{part_of}
use Rattle.xc_meaning_terms.specs.Terms.{Mark, Concurrent, Command, Block, If, IfElse, Loop, Switch, Future, Commands, End, Then, Items, NoItem, At, Other, Do, Program}
use Rattle.xc_meaning_terms.specs.Pointers.{pointer_to}
use Rattle.xc_meaning_threads.specs.Events.{Label, Of, CallBegins, Event, Main}
use Rattle.xc_meaning_threads.specs.Traces.{Asks, Marks}
use Rattle.xc_meaning_source.specs.Source.{SourceRun, HasEnded, HasTrapped}
use Rattle.xc_meaning_source.specs.Work.{ticks, most_calls, most_words, work_in, world_by}

-- ---- threads in the text

abbrev pub forks : Mark → Bool
forks (Concurrent r) = true
forks _ = false

abbrev mutual
  -- a Concurrent loop or a `future` statement stands in it
  pub has_threads : Command → Bool
  has_threads (Block all) = have_threads all
  has_threads (If test then) = has_threads then
  has_threads (IfElse test then other) = has_threads then || has_threads other
  has_threads (Loop h init body) = forks h.mark || (have_threads init || has_threads body)
  has_threads (Switch value items) = items_have_threads items
  has_threads (Future place captures body) = true
  has_threads _ = false

  pub have_threads : Commands → Bool
  have_threads End = false
  have_threads (Then c cs) = has_threads c || have_threads cs

  pub items_have_threads : Items → Bool
  items_have_threads NoItem = false
  items_have_threads (At n rest) = items_have_threads rest
  items_have_threads (Other rest) = items_have_threads rest
  items_have_threads (Do c rest) = has_threads c || items_have_threads rest

abbrev pub is_explicit : Program → Bool
is_explicit p = some (map (λ f. has_threads f.body) p.functions)

-- ---- the numbers of new segments

-- the lowest number above the globals that was not used yet; where none is left, the lowest that is not live
abbrev pub IsChosen : ℕ → ℕ → Segs → ℕ → Type 0
IsChosen globals used m num = ((suc globals + used < 2 ^ 32) × (num ≡ suc globals + used))
    ⊎ ((2 ^ 32 ≤ suc globals + used) × (globals < num) × (m num ≡ []) × ((k : ℕ) → globals < k → k < num → m k ≢ []))

abbrev pub chosen_touch : ℕ → ℕ → Segs → Touch → Reply → Type 0
chosen_touch globals used m (New cells) (Got w) = (num : ℕ) × (w ≡ pointer_to num) × IsChosen globals used m num
chosen_touch globals used m _ a = Unit {0}

abbrev pub chosen_event : ℕ → ℕ → Segs → Label → Reply → Type 0
chosen_event globals used m (Of (On x)) a = chosen_touch globals used m x a
chosen_event globals used m _ a = Unit {0}

abbrev pub used_by : Label → ℕ → ℕ
used_by (Of (On (New cells))) n = suc n
used_by _ n = n

-- each new segment of the list has the number that is chosen, where so many were used before
abbrev pub Chooses : ℕ → ℕ → World → List (ℕ × Event) → Type 0
Chooses globals used w [] = Unit {0}
Chooses globals used w ((s, e) ∷ l) =
    chosen_event globals used w.segs e.label e.reply × Chooses globals (used_by e.label used) (world_by e.label e.reply w) l

-- ---- the run

-- a source run of `main` alone, with the numbers that are chosen, which has made no more than so many ticks
pub record SerialRun (p : Program) (limit : ℕ) (l : List (ℕ × Event)) (w : World) : Type 0 where
  pub run : SourceRun p l w
  pub alone : (s : ℕ) → part_of (suc s) l ≡ []
  pub chosen : Chooses (length p.globals) 0 (world_of p.globals) l
  pub limited : ticks l ≤ limit

-- the next request is one that the world does not answer yet
abbrev pub IsBlocked : Program → List (ℕ × Event) → World → Type 0
IsBlocked p l w = (x : Touch) × Asks p Main (part_of 0 l) (On x) × ((num : ℕ) → serve (On x) num w ≡ None)

-- the next event is a tick
abbrev pub TicksNext : Program → List (ℕ × Event) → Type 0
TicksNext p l = Marks p Main (part_of 0 l) (Of Tick) ⊎ Marks p Main (part_of 0 l) CallBegins

-- what a run that has ended has made
pub record Figures : Type 0 where
  pub output : List ℕ
  pub memory : Segs
  pub ticks : ℕ
  pub work : ℕ
  pub words : ℕ
  pub calls : ℕ

-- the answers
pub data Answer : Type 0 where
  Done : (figures : Figures) → Answer
  Trap : Answer
  Blocked : Answer
  Limit : Answer
  Explicit : Answer

-- the figures of a run; work stops at the limit
abbrev pub figures_of : Program → ℕ → List (ℕ × Event) → World → Figures
figures_of p limit l w = record {
  output = w.out;
  memory = w.segs;
  ticks = ticks l;
  work = min (work_in p l) limit;
  words = most_words [] l;
  calls = most_calls 1 l;
}

-- The answer to a program and a limit. Two traces of `main` with the same replies differ only in where they are cut off, and the world
-- answers each request in one way; so no two answers are meant for one program and limit. Where every number of a segment is live and
-- one more is asked for, none is: a run that comes to that needs more memory than there is.
abbrev pub IsAnswer : Program → ℕ → Answer → Type 0
IsAnswer p limit Explicit = IsTrue (is_explicit p)
IsAnswer p limit (Done figures) = IsTrue (not (is_explicit p))
    × (l : List (ℕ × Event)) × (w : World) × SerialRun p limit l w × HasEnded p l × (figures ≡ figures_of p limit l w)
IsAnswer p limit Trap = IsTrue (not (is_explicit p))
    × (l : List (ℕ × Event)) × (w : World) × SerialRun p limit l w × HasTrapped l
IsAnswer p limit Blocked = IsTrue (not (is_explicit p))
    × (l : List (ℕ × Event)) × (w : World) × SerialRun p limit l w × IsBlocked p l w
IsAnswer p limit Limit = IsTrue (not (is_explicit p))
    × (l : List (ℕ × Event)) × (w : World) × SerialRun p limit l w × (ticks l ≡ limit) × TicksNext p l
