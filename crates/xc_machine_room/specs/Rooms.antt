-- Limits that leave room for every run, and how runs end that have it.
use Rattle.std.specs.Prelude.{◌≡◌, ◌⊎◌, ◌≤◌, ℕ, List, [], length, Option, Some, slice_get}
use Rattle.xc_isa.specs.declared.code.Code.{Code}
use Rattle.xc_isa.specs.declared.instr.TrapKind.{TrapKind}
use Rattle.xc_isa.specs.Machine.{State, Spent, step, HasQuit, IsReady, live_words}
use Rattle.xc_isa.specs.Runs.{At, Trap, run}
use Rattle.xc_machine.specs.Limits.{Limits}
use Rattle.xc_machine_play.specs.declared.outcome.Ending.{Ending}
use Rattle.xc_machine_play.specs.declared.outcome.Ending.TheVariants as ending

-- Every run from this state is within the limits and so many steps, and in each state that it reaches all have quit or some stream
-- is ready.
pub record HasRoom (code : Code) (st : State) (limits : Limits) (steps : ℕ) : Type 0 where
  pub few : (ss : List ℕ) (new : State) → run code ss st ≡ At new → length ss ≤ steps
  pub few_to_trap : (ss : List ℕ) (kind : TrapKind) → run code ss st ≡ Trap kind → length ss ≤ steps
  pub words : (ss : List ℕ) (new : State) → run code ss st ≡ At new → live_words new ≤ limits.words
  pub numbers : (ss : List ℕ) (new : State) → run code ss st ≡ At new → (s : ℕ) → step code s new ≡ Spent → ⊥
  pub out : (ss : List ℕ) (new : State) → run code ss st ≡ At new → length new.world.out ≤ limits.out
  pub ready : (ss : List ℕ) (new : State) → run code ss st ≡ At new → HasQuit new ⊎ ((s : ℕ) × IsReady code s new)

-- a chooser that picks a ready stream where there is one
abbrev pub PicksReady : {C : Type 0} → (C → List ℕ → Option ℕ → C → Type 0) → Type 0
PicksReady {C} picks = (c : C) (streams : List ℕ) (answer : Option ℕ) (d : C) → picks c streams answer d → (streams ≡ [] → ⊥) →
    (s : ℕ) × (answer ≡ Some s) × (i : ℕ) × (slice_get streams i ≡ Some s)

-- all streams have quit, or one trapped
abbrev pub IsEnd : Ending → Type 0
IsEnd ending.Ended = Unit {0}
IsEnd (ending.Trap kind s) = Unit {0}
IsEnd _ = ⊥

-- no stream was ready, or a limit was passed
abbrev pub IsShort : Ending → Type 0
IsShort ending.Stuck = Unit {0}
IsShort (ending.WordsFull live asked) = Unit {0}
IsShort (ending.OutFull len piece) = Unit {0}
IsShort _ = ⊥
