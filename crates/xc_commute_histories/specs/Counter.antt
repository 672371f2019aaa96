-- Why Quiet counts the accesses at which a thread waits: a program of two threads whose team runs go further than its source runs.
use Rattle.std.specs.Prelude.{◌≡◌, ◌≢◌, ℕ, zero, suc, Option, Some, None, List, [], ◌∷◌, Bool, true, false}
use Rattle.xc_commute_histories.specs.History.{Is}
use Rattle.xc_commute_histories.specs.Runs.{Stand, Free, At, Program, Source, Indep}

--
--     int a[2], b[2] = {0, 1}, c[2]; sync int s;
-- Thread 0:  reads s; for (i = 0; i < 2; i++) { c[i] = 1 / b[i]; a[i] = 1; }
-- Thread 1:  purge(&a[1]); s = 1; readff(&a[1]); b[0] = 1;
-- The model begins after s was written. In each source run iteration 0 divides by 0, so a[1] stays empty and the readff never acts. In a team run
-- iteration 1 fills a[1], thread 1 then sets b[0], and iteration 0 divides by 1.
-- The memory: whether a[1] is full, whether b[0] is 1.
pub record Two : Type 0 where
  pub full : Bool
  pub one : Bool

-- what the two threads do
pub data Deed : Type 0 where
  EnterLoop ReadZero ReadOne Divide Fill LeaveLoop WaitFull SetOne : Deed

-- where a thread stands
pub data Spot : Type 0 where
  Ready Standing AtZero Filling Leaving Trapped Waiting Setting Ended : Spot

-- possible where a test holds
abbrev pub given : Bool → Two → Option Two
given true m = Some m
given false m = None

-- the memory after a deed
abbrev pub does_it : Deed → Two → Option Two
does_it EnterLoop m = Some m
does_it ReadZero m = given (flip m.one) m where
  flip : Bool → Bool
  flip true = false
  flip false = true
does_it ReadOne m = given m.one m
does_it Divide m = Some m
does_it Fill m = Some (record { full = true; one = m.one })
does_it LeaveLoop m = Some m
does_it WaitFull m = given m.full m
does_it SetOne m = Some (record { full = m.full; one = true })

-- how a thread goes on
pub data Goes : Spot → Deed → Spot → Type 0 where
  goes_in : Goes Ready EnterLoop Standing
  reads_zero : Goes Standing ReadZero AtZero
  traps_there : Goes AtZero Divide Trapped
  reads_one : Goes Standing ReadOne Filling
  fills : Goes Filling Fill Leaving
  goes_out : Goes Leaving LeaveLoop Ended
  waits : Goes Waiting WaitFull Setting
  sets : Goes Setting SetOne Ended

-- the loop's iterations in any order: the members' histories that matter, newest first
pub data Members : Spot → List Deed → Type 0 where
  filled : Members Standing (Fill ∷ [])
  filled_then_read : Members Standing (ReadOne ∷ Fill ∷ [])

-- the members leave the loop when both have done their work
pub data Out : Spot → List Deed → Spot → Type 0 where
  out : Out Standing (ReadOne ∷ Fill ∷ []) Ended

-- where the threads begin
abbrev pub begin_at : ℕ → Spot
begin_at zero = Ready
begin_at (suc zero) = Waiting
begin_at (suc (suc n)) = Ended

-- the program
abbrev pub program : Program Deed Two Spot
program = record {
  step = does_it;
  can = Goes;
  Allowed = λ r u a. Unit {0};
  Fits = λ a m. Unit {0};
  unborn = Ended;
  Starts = λ r u a ws. ws ≡ [];
  Opens = λ s. s ≡ Standing;
  Team = Members;
  Leaves = Out;
  first = begin_at;
  memory = record { full = false; one = false };
}

-- the loop's cells: it reads b and writes a
abbrev pub Touches : Deed → Type 0
Touches ReadZero = Unit {0}
Touches ReadOne = Unit {0}
Touches Fill = Unit {0}
Touches LeaveLoop = Unit {0}
Touches Divide = Unit {0}
Touches _ = ⊥

-- between the loop's Enter and its Leave
abbrev pub InLoop : Stand Spot Two → Type 0
InLoop (At t e) = Unit {0}
InLoop (Free Standing) = Unit {0}
InLoop (Free AtZero) = Unit {0}
InLoop (Free Filling) = Unit {0}
InLoop (Free Leaving) = Unit {0}
InLoop (Free _) = ⊥

-- Quiet of actions alone: while a thread is in the loop, no action of another thread in a source run conflicts with the loop's cells
pub record QuietOfActions : Type 0 where
  pub next : (h : List (ℕ × Deed)) (s : ℕ → Stand Spot Two) (m : Two) → Source program h s m → (u v : ℕ) (t n : Spot) (a c : Deed) → u ≢ v → InLoop (s u) → s v ≡ Free t → Goes t a n → Is (does_it a m) → Touches c → Indep does_it a c
