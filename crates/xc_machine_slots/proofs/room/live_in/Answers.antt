use Rattle.std.proofs.Common.{◌≡◌, ◌+◌, true, false, map, take, refl, sym, ap, ◌∙◌, arith}
use Rattle.xc_isa.specs.Machine.{live_in}
use Rattle.xc_machine_slots.specs.Seats.{slot_of}
use Rattle.xc_machine_slots.proofs.Picks.{live_below, live_more}
use Rattle.xc_machine_slots.proofs.room.live_in.Goals.{then-not-is_idle, else-not-is_idle}
use Rattle.xc_machine_slots.proofs.room.live_in.Goals as goal

pub overflow_add-live : goal.overflow_add-live
overflow_add-live c =
    let lt = live_below c.args.seats.now c.loop-seat.seat-index c.loop-seat-test.true in
    let sum = c.loop-seat.invariant in
    let few = c.requires in
    omega (arith, lt, sum, few)

pub loop-seat-preserved : goal.loop-seat-preserved
loop-seat-preserved c =
    let more = live_more c.args.seats.now c.loop-seat.seat-index _ _ in
    let none : live_in (map slot_of (take c.loop-seat.seat-index c.args.seats.now)) ≡ live_in (map slot_of (take c.loop-seat.seat-index c.args.seats.now)) + 0 = omega arith in
    elim c.if-not-is_idle.branch [
      | then-not-is_idle w ↦ w.live-is ∙ ap (λ n. n + 1) c.loop-seat.invariant ∙ sym (more false c.loop-seat-test.true refl (sym c.is_idle.ensures ∙ (let t = w.if-not-is_idle.true in cc)))
      | else-not-is_idle w ↦ w.live-is ∙ c.loop-seat.invariant ∙ none ∙ sym (more true c.loop-seat-test.true refl (sym c.is_idle.ensures ∙ (let t = w.if-not-is_idle.false in cc)))
    ]
