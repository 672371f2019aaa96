use Rattle.std.proofs.Common.{arith}
use Rattle.xc_sched.proofs.RunLemmas.{kept_next}
use Rattle.xc_sched.proofs.recorded.RecordedChooser.next.Goals as goal

pub invariant_of-self : goal.invariant_of-self
invariant_of-self c = kept_next c.self.inside.at c.self.inside.runs.items c.index-run.result.now c.self.invariant (omega arith) c.index-run.ensures
