use Rattle.std.proofs.Common.{◌≡◌, sym, ap, ◌∙◌}
use Rattle.std.specs.Prelude.{Some, None, map}
use Rattle.xc_isa.specs.Machine.{At, free_slot, begun}
use Rattle.xc_machine_slots.specs.declared.seat.Seat.TheVariants.{Taken}
use Rattle.xc_machine_slots.specs.Seats.{slot_of}
use Rattle.xc_machine.specs.InnerShows.{stream_in, regs_at}
use Rattle.xc_machine_slots.specs.Registers.{answered}
use Rattle.xc_machine.specs.Stores.{shown}
use Rattle.xc_machine.specs.Machines.{state_of}
use Rattle.xc_machine.proofs.Slots.{slots_put, started, not_started}
use Rattle.xc_machine.proofs.Rooms.{words_room, out_room}
use Rattle.xc_machine.proofs.machine.Machine.create.Goals as goal

pub returns-in-Some-clause-does : goal.returns-in-Some-clause-does
returns-in-Some-clause-does c =
    let m = c.args.self.now in
    let mid = c.go.new.self in
    let there : free_slot (map slot_of m.seats.items) ≡ Some c.in-Some.free = ap (λ xs. free_slot (map slot_of xs)) (sym c.deref.ensures.value) ∙ sym c.pick.ensures.slot ∙ c.in-Some.is in (
      started (map slot_of m.seats.items) (state_of mid) c.in-Some.free c.args.s c.args.start c.args.word c.args.at m.store.last (answered (regs_at (stream_in m.seats.items c.args.s)) (Some c.args.to)) (shown m.store) there c.go.ensures.state
          ∙ ap (λ x. At (record { slots = x; world = shown mid.store; last = mid.store.last })) (sym (slots_put mid.seats.items c.in-Some.free (Taken c.begun.result) (begun c.args.start c.args.word) c.begun.ensures)),
      words_room m,
      out_room m,
    )

pub returns-in-None-clause-does : goal.returns-in-None-clause-does
returns-in-None-clause-does c =
    let m = c.args.self.now in
    let none : free_slot (map slot_of m.seats.items) ≡ None = ap (λ xs. free_slot (map slot_of xs)) (sym c.deref.ensures.value) ∙ sym c.pick.ensures.slot ∙ c.in-None.is in (
      not_started (map slot_of m.seats.items) (state_of c.go-in-None.new.self) c.args.s c.args.start c.args.word c.args.at m.store.last (answered (regs_at (stream_in m.seats.items c.args.s)) (Some c.args.to)) (shown m.store) none c.go-in-None.ensures.state,
      words_room m,
      out_room m,
    )
