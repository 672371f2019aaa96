-- Seats as slots of the definition.
use Rattle.std.specs.Prelude.{Bool, true, false}
use Rattle.xc_isa.specs.Machine.{Slot, Empty, Live}
use Rattle.xc_isa.specs.Machine as machine
use Rattle.xc_machine_slots.specs.declared.seat.Seat.{Seat}
use Rattle.xc_machine_slots.specs.declared.seat.Seat.TheVariants.{Absent, Free, Taken}
use Rattle.xc_machine_slots.specs.Registers.{regs_of}

abbrev pub slot_of : Seat → Slot
slot_of Absent = machine.Absent
slot_of Free = Empty
slot_of (Taken s) = Live s.at (regs_of s.regs)

-- a stream may start here
abbrev pub is_free : Seat → Bool
is_free Absent = false
is_free Free = true
is_free (Taken t) = false

-- there is no stream
abbrev pub is_idle : Seat → Bool
is_idle Absent = true
is_idle Free = true
is_idle (Taken t) = false
