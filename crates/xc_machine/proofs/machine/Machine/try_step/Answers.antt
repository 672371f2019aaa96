use Rattle.std.proofs.Common.{refl, sym, ◌∙◌}
use Rattle.std.specs.Prelude.{Some, None}
use Rattle.xc_isa.specs.declared.instr.TrapKind.TheVariants.{Jump}
use Rattle.xc_machine.specs.declared.stepped.Stepped.TheVariants.{Trap}
use Rattle.xc_machine.specs.Machines.{state_of}
use Rattle.xc_machine.proofs.SlotSteps.{step_at}
use Rattle.xc_machine.proofs.machine.Machine.try_step.Goals as goal

pub returns-in-Some-instr_at-clause-step : goal.returns-in-Some-instr_at-clause-step
returns-in-Some-instr_at-clause-step c =
    step_at c.args.self.now c.args.s c.in-Some.at (Some c.in-Some-instr_at.instr) c.obey.result (state_of c.obey.new.self) (sym c.position.ensures ∙ c.in-Some.is) (sym c.instr_at.ensures.value ∙ c.in-Some-instr_at.is) c.obey.ensures.does

pub returns-in-None-clause-step : goal.returns-in-None-clause-step
returns-in-None-clause-step c =
    step_at c.args.self.now c.args.s c.in-Some.at None (Trap Jump) (state_of c.args.self.now) (sym c.position.ensures ∙ c.in-Some.is) (sym c.instr_at.ensures.value ∙ c.in-None.is) (refl, refl)
