use Rattle.std.proofs.Common.{refl, sym, ap}
use Rattle.xc_isa.specs.Machine.{At, Empty}
use Rattle.xc_machine_slots.specs.declared.seat.Seat.TheVariants.{Free}
use Rattle.xc_machine.specs.Stores.{shown}
use Rattle.xc_machine.proofs.Slots.{slots_put}
use Rattle.xc_machine.proofs.Rooms.{words_room, out_room}
use Rattle.xc_machine.proofs.machine.Machine.quit.Goals as goal

pub returns-clause-does : goal.returns-clause-does
returns-clause-does c =
    let m = c.args.self.now in
    (ap (λ x. At (record { slots = x; world = shown m.store; last = m.store.last })) (sym (slots_put m.seats.items c.args.s Free Empty refl)), words_room m, out_room m)
