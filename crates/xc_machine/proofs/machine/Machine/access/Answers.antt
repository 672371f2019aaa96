use Rattle.std.proofs.Common.{sym, ◌∙◌, subst}
use Rattle.xc_machine.specs.InnerShows.{stream_in, regs_at}
use Rattle.xc_machine.specs.InnerLimits.{Makes}
use Rattle.xc_machine.specs.Machines.{state_of, code_of, limits_of}
use Rattle.xc_machine.proofs.SlotSteps.{target_effect}
use Rattle.xc_machine.proofs.machine.Machine.access.Goals as goal

pub returns-clause-does : goal.returns-clause-does
returns-clause-does c =
    let m = c.args.self.now in
    subst (Makes (limits_of m) c.touch.result (state_of m) (state_of c.touch.new.self) c.args.s)
    (target_effect (code_of m).formats c.args.instr c.args.at (regs_at (stream_in m.seats.items c.args.s)) c.in-Some.target (sym c.target.ensures ∙ c.in-Some.is)) c.touch.ensures.does
