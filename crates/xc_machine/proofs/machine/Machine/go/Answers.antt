use Rattle.std.proofs.Common.{◌≡◌, ap, ◌∙◌, subst}
use Rattle.std.specs.Prelude.{Some, IsSome}
use Rattle.xc_machine.specs.InnerShows.{stream_of, stream_in}
use Rattle.xc_machine.specs.Stores.{shown}
use Rattle.xc_machine.proofs.Slots.{within, found, taken, gone_on}
use Rattle.xc_machine.proofs.machine.Machine.go.Goals as goal

pub returns-in-Taken-clause-state : goal.returns-in-Taken-clause-state
returns-in-Taken-clause-state c =
    let m = c.args.self.now in
    let xs = m.seats.items in
    let s = c.args.s in
    let here : stream_in xs s ≡ Some c.in-Taken.stream = found xs s c.index_mut.result.now (within xs s c.requires.live) c.index_mut.ensures.value ∙ ap (λ o. stream_of (Some o)) c.in-Taken.is in
    ap (λ x. record { slots = x; world = shown m.store; last = m.store.last }) (gone_on xs s c.args.at c.args.to c.args.word c.in-Taken.stream c.go.new.self here c.go.ensures.at c.go.ensures.regs)

pub returns-in_default-clause-state : goal.returns-in_default-clause-state
returns-in_default-clause-state c =
    let xs = c.args.self.now.seats.items in
    let s = c.args.s in
    let here = found xs s c.index_mut.result.now (within xs s c.requires.live) c.index_mut.ensures.value in
    let t = taken c.index_mut.result.now (subst IsSome here c.requires.live) in
    absurd (c.in_default.not-Taken t.0 t.1)
