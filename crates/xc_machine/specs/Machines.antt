-- What a machine shows.
use Rattle.std.specs.Prelude.{ℕ, ◌+◌, ◌-◌, ◌^◌, min, map}
use Rattle.xc_isa.specs.declared.code.Code.{Code}
use Rattle.xc_isa.specs.Machine.{State}
use Rattle.xc_machine.specs.declared.machine.Machine.{Machine}
use Rattle.xc_machine.specs.declared.stepped.Stepped.{Stepped}
use Rattle.xc_machine.specs.declared.stepped.Stepped.TheVariants.{Went, NotReady, Trap, WordsFull, OutFull, NoMemory}
use Rattle.xc_machine_slots.specs.Seats.{slot_of}
use Rattle.xc_machine.specs.Stores.{shown}
use Rattle.xc_machine.specs.Limits.{Limits}

-- the state of the definition
abbrev pub state_of : Machine → State
state_of m = record { slots = map slot_of m.seats.items; world = shown m.store; last = m.store.last }

-- the code that runs
abbrev pub code_of : Machine → Code
code_of m = m.code.now

abbrev pub limits_of : Machine → Limits
limits_of m = record { words = m.store.words; out = m.store.out }

-- the steps that were made, up to 2^64 - 1
abbrev pub steps_of : Machine → ℕ
steps_of m = m.steps

-- the steps after one that was tried
abbrev pub counted : Stepped → ℕ → ℕ
counted Went n = min (n + 1) (2 ^ 64 - 1)
counted NotReady n = n
counted (Trap kind) n = n
counted (WordsFull live asked) n = n
counted (OutFull len piece) n = n
counted NoMemory n = n
