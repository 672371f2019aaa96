use Rattle.std.proofs.Common.{ap, ◌∙◌}
use Rattle.xc_isa.specs.Machine.{Live}
use Rattle.xc_meaning_world.specs.World.{put}
use Rattle.xc_machine_slots.proofs.Registers.{begun_regs}
use Rattle.xc_machine_slots.proofs.stream.Stream.begun.Goals as goal

pub returns : goal.returns
returns c = ap (Live c.from.result) (begun_regs c.args.word) ∙ ap (λ p. Live p (put (λ x. 0) 1 c.args.word)) c.from.ensures
