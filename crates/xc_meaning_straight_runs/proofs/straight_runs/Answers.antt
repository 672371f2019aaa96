use Rattle.xc_meaning_straight_runs.proofs.Runs.{same_source_runs, no_other_runs, same_ends, same_traps, same_ticks}
use Rattle.xc_meaning_straight_runs.proofs.straight_runs.Goals as goal

pub returns-clause-runs : goal.returns-clause-runs
returns-clause-runs c = same_source_runs

pub returns-clause-others : goal.returns-clause-others
returns-clause-others c = no_other_runs

pub returns-clause-ends : goal.returns-clause-ends
returns-clause-ends c = same_ends

pub returns-clause-traps : goal.returns-clause-traps
returns-clause-traps c = same_traps

pub returns-clause-ticks : goal.returns-clause-ticks
returns-clause-ticks c = same_ticks
