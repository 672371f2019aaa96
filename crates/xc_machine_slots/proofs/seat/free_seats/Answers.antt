use Rattle.std.proofs.Common.{◌≡◌, ◌∙◌, ap, arith}
use Rattle.xc_isa.specs.Machine.{free_slots}
use Rattle.xc_machine_slots.proofs.Picks.{first_seats, more_seats, count_of_seats}
use Rattle.xc_machine_slots.proofs.seat.free_seats.Goals as goal

pub loop-init : goal.loop-init
loop-init c = (omega arith, first_seats c.new-seats.result.items c.push_seats.new.seats.items c.args.streams c.new-seats.ensures.items c.in_ok-push_seats.ensures)

pub loop-preserved : goal.loop-preserved
loop-preserved c = (
  omega arith,
  more_seats c.loop.seats.items c.push_seats-in-loop.new.seats.items c.push_seats-in-loop-2.new.seats.items c.loop.counter c.args.streams c.loop.invariant.0 c.loop.invariant.1 c.in_ok-push_seats-2.ensures c.in_ok-push_seats-3.ensures,
)

pub returns-clause-count : goal.returns-clause-count
returns-clause-count c =
    let past = c.loop-test.false in
    let end = c.loop.auto.counter-end in
    let some = c.requires.some in
    let all : c.loop.counter ≡ c.args.processors = omega (arith, past, end, some) in
    count_of_seats c.loop.seats.items c.args.processors c.args.streams some c.requires.few (c.loop.invariant.1 ∙ ap (λ q. free_slots q c.args.streams) all)
