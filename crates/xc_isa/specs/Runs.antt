-- Runs of the machine: an interleaving is a list of slots.
use Rattle.std.specs.Prelude.{ℕ, List, [], ◌∷◌}
use Rattle.xc_isa.specs.declared.code.Code.{Code}
use Rattle.xc_isa.specs.declared.instr.TrapKind.{TrapKind}
use Rattle.xc_isa.specs.Machine as machine
use Rattle.xc_isa.specs.Machine.{State, After, step}

-- Where a run leads: on; to a trap at its last step; or it is none, since a step in it could not be made.
pub data Ran : Type 0 where
  At : (st : State) → Ran
  Trap : (kind : TrapKind) → Ran
  NoRun : Ran

-- no step but the last one traps
abbrev pub onward : After → List ℕ → (State → Ran) → Ran
onward (machine.At st) ss go = go st
onward (machine.Trap kind) [] go = Trap kind
onward (machine.Trap kind) (s ∷ ss) go = NoRun
onward machine.Waits ss go = NoRun
onward machine.Spent ss go = NoRun

-- A run: the slots whose streams step, in turn.
abbrev pub run : Code → List ℕ → State → Ran
run code [] st = At st
run code (s ∷ ss) st = onward (step code s st) ss (run code ss)
