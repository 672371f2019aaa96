use Rattle.xc_meaning_straight.proofs.Agrees.{same_runs}
use Rattle.xc_meaning_straight.proofs.Traces.{same_traces, same_wholes}
use Rattle.xc_meaning_straight.proofs.laws.straight_programs.Goals as goal

pub returns-clause-runs : goal.returns-clause-runs
returns-clause-runs c = same_runs

pub returns-clause-traces : goal.returns-clause-traces
returns-clause-traces c = same_traces

pub returns-clause-wholes : goal.returns-clause-wholes
returns-clause-wholes c = same_wholes
