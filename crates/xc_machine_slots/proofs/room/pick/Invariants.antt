use Rattle.std.proofs.Common.{◌*◌, map}
use Rattle.xc_isa.specs.Machine.{slots_each}
use Rattle.xc_machine_slots.specs.Seats.{slot_of}
use Rattle.xc_machine_slots.specs.Picks.{IsBestOf}
use Rattle.xc_machine_slots.proofs.room.pick.Given as goal

-- the best of the processors so far
abbrev pub invariant-loop-processor : goal.invariant-loop-processor
invariant-loop-processor l = IsBestOf (map slot_of l.seats) (slots_each * l.processor) l.best
