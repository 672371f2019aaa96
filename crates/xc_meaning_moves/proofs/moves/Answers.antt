use Rattle.xc_meaning_moves.proofs.Exact.{halts_rightly, one_outcome}
use Rattle.xc_meaning_moves.proofs.Grows.{steps_are_traces, traces_agree}
use Rattle.xc_meaning_moves.proofs.Interprets.{interprets}
use Rattle.xc_meaning_moves.proofs.moves.Goals as goal

pub returns-clause-runs : goal.returns-clause-runs
returns-clause-runs c = interprets

pub returns-clause-halts : goal.returns-clause-halts
returns-clause-halts c = halts_rightly

pub returns-clause-once : goal.returns-clause-once
returns-clause-once c = one_outcome

pub returns-clause-steps : goal.returns-clause-steps
returns-clause-steps c = steps_are_traces

pub returns-clause-agree : goal.returns-clause-agree
returns-clause-agree c = traces_agree
