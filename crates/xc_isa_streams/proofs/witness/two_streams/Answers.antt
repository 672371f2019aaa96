use Rattle.std.proofs.Common.{length, ap}
use Rattle.xc_isa_streams.proofs.TwoStreamsStand.{two_stand}
use Rattle.xc_isa_streams.proofs.TwoStreamsEnd.{two_end}
use Rattle.xc_isa_streams.proofs.witness.two_streams.Goals as goal

pub returns-clause-runs : goal.returns-clause-runs
returns-clause-runs c = two_stand _ c.in_ok-instructions.ensures (ap (λ g. length g) c.in_ok-global.ensures)

pub returns-clause-ends : goal.returns-clause-ends
returns-clause-ends c = two_end _ _ _ _ c.in_ok-global.ensures c.new.ensures c.new-2.ensures c.in_ok-instructions.ensures _
