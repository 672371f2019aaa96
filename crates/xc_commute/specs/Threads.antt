-- Programs whose threads act on tagged memory, and when their loops are quiet.
use Rattle.std.specs.Prelude.{◌≡◌, ◌≢◌, ℕ, Option, Some, List}
use Rattle.xc_word.specs.Cells.{Segments}
use Rattle.xc_commute_histories.specs.Runs.{Stand, Free, erase, Program, Source, CellsAt}
use Rattle.xc_commute.specs.Touch.{Touch, touched, Conflict}

-- a touch of memory with its answer, a mark that touches nothing, as the Enter of a loop or a spawn, or a trap
pub data Deed : Type 0 where
  Touches : Touch → ℕ → Deed
  Marks : ℕ → Deed
  Traps : Deed

-- the memory after a deed; none where it is not possible
abbrev pub after_deed : Deed → Segments → Option Segments
after_deed (Touches t answer) m = touched (t, answer) m
after_deed (Marks n) m = Some m
after_deed Traps m = Some m

-- it is a trap
abbrev pub IsTrap : Deed → Type 0
IsTrap Traps = Unit {0}
IsTrap _ = ⊥

-- two deeds conflict where they are touches that do
abbrev pub DeedsConflict : Deed → Deed → Type 0
DeedsConflict (Touches a x) (Touches b y) = Conflict a b
DeedsConflict _ _ = ⊥

-- where a thread stands: which body it runs, and what it has done
abbrev pub State : Type 0
State = ℕ × List Deed

-- In every source run, while a thread stands at the Enter of a loop, what another thread does next, also where it waits, does not conflict
-- with the loop's cells, nor do the cells of a loop at whose Enter another thread stands
pub record IsQuiet (p : Program Deed Segments State) (Cells : State → Segments → Deed → Type 0) : Type 0 where
  pub next : (h : List (ℕ × Deed)) (s : ℕ → Stand State Segments) (m : Segments) → Source p h s m →
      (u v : ℕ) (t n : State) (a c : Deed) → CellsAt Cells (s u) c → s v ≡ Free t → p.Allowed (λ w. erase (s w)) v a → p.can t a n →
      p.Fits a m → ¬ DeedsConflict a c
  pub cells : (h : List (ℕ × Deed)) (s : ℕ → Stand State Segments) (m : Segments) → Source p h s m →
      (u v : ℕ) (c d : Deed) → u ≢ v → CellsAt Cells (s u) c → CellsAt Cells (s v) d →
      ¬ DeedsConflict c d

-- its deeds act on memory as they do here
abbrev pub ActsOnMemory : Program Deed Segments State → Type 0
ActsOnMemory p = p.step ≡ after_deed
