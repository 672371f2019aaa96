use Rattle.std.proofs.Common.{sym, ap, ◌∙◌}
use Rattle.std.specs.List.{list_all}
use Rattle.xc_machine_slots.specs.Seats.{is_idle}
use Rattle.xc_machine.proofs.RunLaws.{quits, quit_all}
use Rattle.xc_machine.proofs.machine.Machine.has_quit.Goals as goal

pub returns : goal.returns
returns c =
    let xs = c.args.self.now.seats.items in
    let is = c.are_idle.ensures ∙ ap (list_all (λ o. is_idle o)) c.deref.ensures.value in
    (λ h. quits xs (sym is ∙ h), λ h. is ∙ quit_all xs h)
