use Rattle.std.proofs.Common.{◌≡◌, ◌++◌}
use Rattle.std.specs.Prelude.{replicate}
use Rattle.xc_machine_slots.proofs.seat.push_seats.Given as goal

-- so many seats were appended
abbrev pub invariant-loop : goal.invariant-loop
invariant-loop l = l.seats.items ≡ l.fn.seats.items ++ replicate l.counter l.seat
