use Rattle.std.proofs.Common.{ap}
use Rattle.xc_isa.specs.Machine.{Live}
use Rattle.xc_machine_slots.proofs.Registers.{zero_regs}
use Rattle.xc_machine_slots.proofs.stream.Stream.first.Goals as goal

pub returns : goal.returns
returns c = ap (Live 0) zero_regs
