use Rattle.std.proofs.Common.{◌≡◌, ◌*◌, take, drop, length, min, sym, ap, ◌∙◌, arith}
use Rattle.std.proofs.lemmas.List.{take_rest}
use Rattle.xc_isa.specs.Machine.{slots_each}
use Rattle.xc_machine_slots.proofs.Picks.{no_room, has_room}
use Rattle.xc_machine_slots.proofs.room.room_of.Goals as goal

pub returns-in_default : goal.returns-in_default
returns-in_default c =
    let xs = c.args.seats.now in
    let at = c.args.processor * 128 in
    let first : at ≡ slots_each * c.args.processor = omega arith in
    no_room xs _ at c.args.processor first (ap (take c.min.result) (take_rest xs at) ∙ ap (λ n. take n (drop at xs)) (c.min.ensures ∙ ap (λ l. min (length l) slots_each) (take_rest xs at))) (sym c.lowest_free.ensures ∙ c.in_default.is)

pub returns : goal.returns
returns c =
    let xs = c.args.seats.now in
    let at = c.args.processor * 128 in
    let first : at ≡ slots_each * c.args.processor = omega arith in
    has_room xs _ at c.args.processor c.in-Some.free c.live_in.result first (ap (take c.min.result) (take_rest xs at) ∙ ap (λ n. take n (drop at xs)) (c.min.ensures ∙ ap (λ l. min (length l) slots_each) (take_rest xs at))) (sym c.lowest_free.ensures ∙ c.in-Some.is) c.live_in.ensures
