use Rattle.std.proofs.Common.{◌≡◌, ◌≤◌, map}
use Rattle.xc_isa.specs.Machine.{free_slots}
use Rattle.xc_machine_slots.specs.Seats.{slot_of}
use Rattle.xc_machine_slots.proofs.seat.free_seats.Given as goal

-- so many processors
abbrev pub invariant-loop : goal.invariant-loop
invariant-loop l = (1 ≤ l.counter) × (map slot_of l.seats.items ≡ free_slots l.counter l.streams)
