use Rattle.std.proofs.Common.{◌≡◌, ◌<◌, ◌+◌, ◌*◌, length, map, sym, ap, ◌∙◌, subst, arith}
use Rattle.std.specs.Prelude.{IfSome}
use Rattle.std.proofs.lemmas.List.{length-map}
use Rattle.xc_isa.specs.Machine.{slots_each}
use Rattle.xc_machine_slots.specs.Seats.{slot_of}
use Rattle.xc_machine_slots.specs.Picks.{IsBestOf}
use Rattle.xc_machine_slots.proofs.Picks.{slot_in, better, picked, picked_within}
use Rattle.xc_machine_slots.proofs.room.pick.Goals as goal

pub loop-processor-preserved : goal.loop-processor-preserved
loop-processor-preserved c =
    let slots = map slot_of c.args.seats.now in
    let l = c.loop-processor in
    subst (IsBestOf slots (slots_each * (l.processor + 1))) (sym c.less_busy-best.ensures) (better slots l.processor l.best c.room_of.result l.invariant c.room_of.ensures)

pub returns-in-Some-clause-slot : goal.returns-in-Some-clause-slot
returns-in-Some-clause-slot c =
    let xs = c.args.seats.now in
    let l = c.loop-processor in
    let same : length (map slot_of xs) ≡ length xs = length-map xs slot_of in
    let past = c.loop-processor-test.false in
    ap slot_in (sym c.in-Some.is) ∙ picked (map slot_of xs) (slots_each * l.processor) l.best (omega (arith, same, past)) l.invariant

pub returns-in-Some-clause-within : goal.returns-in-Some-clause-within
returns-in-Some-clause-within c =
    let l = c.loop-processor in
    subst (λ o. IfSome o (λ k. k < length c.args.seats.now)) (ap slot_in c.in-Some.is) (picked_within c.args.seats.now (slots_each * l.processor) l.best l.invariant)

pub returns-in-None-clause-slot : goal.returns-in-None-clause-slot
returns-in-None-clause-slot c =
    let xs = c.args.seats.now in
    let l = c.loop-processor in
    let same : length (map slot_of xs) ≡ length xs = length-map xs slot_of in
    let past = c.loop-processor-test.false in
    ap slot_in (sym c.in-None.is) ∙ picked (map slot_of xs) (slots_each * l.processor) l.best (omega (arith, same, past)) l.invariant
