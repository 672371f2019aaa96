-- The premises on source runs alone: Quiet, by Bernstein's conditions, and that what pragmas assert is true.
use Rattle.std.specs.Prelude.{◌≡◌, ◌≢◌, ℕ, ◌<◌, Bool, true, IsTrue, List, ◌∷◌, ◌++◌, length, Option, Some, slice_get}
use Rattle.xc_tree.specs.declared.pragmas.Root.{Root}
use Rattle.xc_tree.specs.declared.pragmas.Root.TheVariants.{Other}
use Rattle.xc_meaning_world.specs.World.{World, Segs, Touch, Reach, New, Free, Request, On, Reply, world_of}
use Rattle.xc_meaning_world.specs.Runs.{part_of, IsVacant}
use Rattle.xc_meaning_terms.specs.Terms.{Claims, Term, Range, Command, Program}
use Rattle.xc_meaning_threads.specs.Events.{Label, Enter, Leave, Event, mark, number_in, Task}
use Rattle.xc_meaning_threads.specs.Traces.{Asks}
use Rattle.xc_meaning_source.specs.Cells.{Use, Visit, is_writing, cells_of_turn, cells_taken, Conflict, IsAmong}
use Rattle.xc_meaning_source.specs.Work.{world_after}
use Rattle.xc_meaning_source.specs.Source.{SourceRun, tasks_in}

-- ---- what a request touches

-- Of an access, its cell where it is there: an access where no cell is, is a trap. New and Free write each cell of their segment.
abbrev pub TouchMakes : Segs → Touch → Reply → Use → Type 0
TouchMakes m (Reach act) a u = (u ≡ record { place = act.place; writes = is_writing act.kind }) × (act.place.off < length (m act.place.seg))
TouchMakes m (New cells) a u = (u.place.seg ≡ number_in a) × (u.place.off < cells) × (u.writes ≡ true)
TouchMakes m (Free seg) a u = (u.place.seg ≡ seg) × (u.place.off < length (m seg)) × (u.writes ≡ true)

abbrev pub Makes : Segs → Request → Reply → Use → Type 0
Makes m (On x) a u = TouchMakes m x a u
Makes m _ a u = ⊥

-- a new segment has a number above the globals that is not live
abbrev pub TouchMayAnswer : ℕ → Segs → Touch → Reply → Type 0
TouchMayAnswer globals m (New cells) a = IsVacant globals m (number_in a)
TouchMayAnswer globals m (Reach act) a = Unit {0}
TouchMayAnswer globals m (Free seg) a = Unit {0}

abbrev pub MayAnswer : ℕ → Segs → Request → Reply → Type 0
MayAnswer globals m (On x) a = TouchMayAnswer globals m x a
MayAnswer globals m _ a = Unit {0}

-- the request, however it may be answered, conflicts with one of these uses
abbrev pub ConflictsWith : ℕ → Segs → Request → List Use → Type 0
ConflictsWith globals m q uses = (a : Reply) × (u v : Use) × MayAnswer globals m q a × Makes m q a u × IsAmong v uses × Conflict u v

abbrev pub UsesConflict : List Use → List Use → Type 0
UsesConflict us vs = (u v : Use) × IsAmong u us × IsAmong v vs × Conflict u v

-- ---- Quiet

-- no thread s has set this mark in the list
abbrev pub NotMarked : ℕ → Label → List (ℕ × Event) → Type 0
NotMarked s k l = (front rest : List (ℕ × Event)) → l ≡ front ++ (s, mark k) ∷ rest → ⊥

-- in this run thread s has entered an automatic loop, whose cells at the Enter are these, and has not left it
pub record HasOpen (p : Program) (is_automatic : ℕ → Bool) (l : List (ℕ × Event)) (s : ℕ) (uses : List Use) : Type 0 where
  pub front : List (ℕ × Event)
  pub rest : List (ℕ × Event)
  pub range : Range
  pub test : Option Term
  pub body : Command
  pub values : List ℕ
  pub automatic : IsTrue (is_automatic range.id)
  pub entered : l ≡ front ++ (s, mark (Enter range test body values)) ∷ rest
  pub open_still : NotMarked s (Leave range.id) rest
  pub cells : uses ≡ cells_taken range test body values (world_after (world_of p.globals) front).segs

-- While a thread stands in an automatic loop, no action of another thread, no access at which another thread waits, and no cells of
-- an automatic loop that another thread has open conflict with the loop's cells: what another thread asks next, whether it waits or
-- not, does not.
pub record Quiet (p : Program) (is_automatic : ℕ → Bool) : Type 0 where
  pub next : (l : List (ℕ × Event)) (w : World) → SourceRun p l w → (s : ℕ) (uses : List Use) → HasOpen p is_automatic l s uses →
      (u : ℕ) (task : Task) (q : Request) → s ≢ u → slice_get (tasks_in l) u ≡ Some task → Asks p task (part_of u l) q →
      ConflictsWith (length p.globals) w.segs q uses → ⊥
  pub cells : (l : List (ℕ × Event)) (w : World) → SourceRun p l w → (s u : ℕ) (us vs : List Use) → s ≢ u →
      HasOpen p is_automatic l s us → HasOpen p is_automatic l u vs → UsesConflict us vs → ⊥

-- ---- assertions

-- the root of a visit's reference
abbrev pub HasRoot : Claims → Visit → Root → Type 0
HasRoot claims v r = slice_get claims.roots v.site ≡ Some r

-- the visits of iterations i and k
abbrev pub VisitsOf : (ℕ → List Visit) → ℕ → ℕ → Visit → Visit → Type 0
VisitsOf cells i k v u = IsAmong v (cells i) × IsAmong u (cells k)

-- What pragmas assert of a loop, by the cells of its iterations. References with a root that `nodep` names do not conflict between
-- different iterations. A pointer that `noalias` names is in no segment of another root; a null pointer is in no segment.
pub record ClaimsHold (claims : Claims) (cells : ℕ → List Visit) : Type 0 where
  pub nodep : (i k : ℕ) (v u : Visit) (r : Root) → i ≢ k → VisitsOf cells i k v u → IsAmong r claims.nodep →
      HasRoot claims v r → HasRoot claims u r → Conflict v.touch u.touch → ⊥
  pub noalias : (i k : ℕ) (v u : Visit) (r s : Root) → VisitsOf cells i k v u → IsAmong r claims.noalias →
      HasRoot claims v r → HasRoot claims u s → r ≢ s → s ≢ Other → v.touch.place.seg ≢ 0 → v.touch.place.seg ≢ u.touch.place.seg

-- at every Enter of an automatic loop in every source run, what is asserted of the loop is true
abbrev pub AssertionsHold : Program → (ℕ → Bool) → Type 0
AssertionsHold p is_automatic = (l front rest : List (ℕ × Event)) (w : World) → SourceRun p l w →
    (s : ℕ) (r : Range) (test : Option Term) (body : Command) (values : List ℕ) → IsTrue (is_automatic r.id) →
    l ≡ front ++ (s, mark (Enter r test body values)) ∷ rest →
    ClaimsHold r.claims (cells_of_turn r test body values (world_after (world_of p.globals) front).segs)
