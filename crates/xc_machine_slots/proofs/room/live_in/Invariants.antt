use Rattle.std.proofs.Common.{◌≡◌, map, take}
use Rattle.xc_isa.specs.Machine.{live_in}
use Rattle.xc_machine_slots.specs.Seats.{slot_of}
use Rattle.xc_machine_slots.proofs.room.live_in.Given as goal

-- the streams so far
abbrev pub invariant-loop-seat : goal.invariant-loop-seat
invariant-loop-seat l = l.live ≡ live_in (map slot_of (take l.seat-index l.seats))
