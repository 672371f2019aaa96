use Rattle.std.proofs.Common.{◌≡◌, ◌<◌, ◌+◌, length, take, map, ap, ◌∙◌, arith}
use Rattle.std.proofs.lemmas.List.{length-map}
use Rattle.xc_isa.specs.Machine.{step}
use Rattle.xc_machine.specs.declared.machine.Machine.{Machine}
use Rattle.xc_machine_slots.specs.Seats.{slot_of}
use Rattle.xc_machine.specs.Stores.{shown}
use Rattle.xc_machine.specs.Limits.{can_step}
use Rattle.xc_machine.specs.Machines.{state_of, code_of}
use Rattle.xc_machine.proofs.Flags.{flags_more, flags_all}
use Rattle.xc_machine.proofs.machine.Machine.refresh.Goals as goal

same_state : (l m : Machine) → l.seats ≡ m.seats → l.store ≡ m.store → state_of l ≡ state_of m
same_state l m slots store =
    ap (λ v. record { slots = map slot_of v.items; world = shown l.store; last = l.store.last }) slots
    ∙ ap (λ t. record { slots = map slot_of m.seats.items; world = shown t; last = t.last }) store

pub loop-s-preserved : goal.loop-s-preserved
loop-s-preserved c =
    let m = c.args.self.now in
    let l = c.loop-s.self in
    let inv = c.loop-s.invariant in
    let count : length (state_of m).slots ≡ length m.seats.items = length-map m.seats.items slot_of in
    let room = l.each in
    let same : length l.seats.items ≡ length m.seats.items = ap (λ v. length v.items) inv.seats in
    let len : length l.ready ≡ length (state_of m).slots = omega (arith, count, room, same) in
    let end = inv.end in
    let before = c.loop-s-test.true in
    let lt : c.loop-s.s < length (state_of m).slots = omega (arith, count, end, before) in
    let is = c.ready-on.ensures.can ∙ ap (λ k. can_step (step k.now c.loop-s.s (state_of l))) inv.code ∙ ap (λ st. can_step (step (code_of m) c.loop-s.s st)) (same_state l m inv.seats inv.store) in
    record {
      flags = ap (take (c.loop-s.s + 1)) c.set.ensures ∙ flags_more (λ s. can_step (step (code_of m) s (state_of m))) (length (state_of m).slots) c.loop-s.s l.ready c.ready-on.result len lt is inv.flags;
      end = inv.end;
      seats = inv.seats;
      store = inv.store;
      code = inv.code;
      steps = inv.steps;
    }

pub returns-clause-flags : goal.returns-clause-flags
returns-clause-flags c =
    let m = c.args.self.now in
    let l = c.loop-s.self in
    let inv = c.loop-s.invariant in
    let count : length (state_of m).slots ≡ length m.seats.items = length-map m.seats.items slot_of in
    let room = l.each in
    let same : length l.seats.items ≡ length m.seats.items = ap (λ v. length v.items) inv.seats in
    let len : length l.ready ≡ length (state_of m).slots = omega (arith, count, room, same) in
    let end = inv.end in
    let after = c.loop-s-test.false in
    flags_all (λ s. can_step (step (code_of m) s (state_of m))) (length (state_of m).slots) c.loop-s.s l.ready len (omega (arith, count, end, after)) inv.flags
