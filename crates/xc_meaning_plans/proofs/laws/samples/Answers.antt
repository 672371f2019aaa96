use Rattle.xc_meaning_plans.proofs.Shown.{reads, shifts}
use Rattle.xc_meaning_plans.proofs.laws.samples.Goals as goal

pub returns-clause-reads : goal.returns-clause-reads
returns-clause-reads c = reads

pub returns-clause-shifts : goal.returns-clause-shifts
returns-clause-shifts c = shifts
