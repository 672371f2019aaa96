use Rattle.xc_meaning_threads.proofs.Closed.{traces_are_closed, runs_are_traces, ends_are_whole}
use Rattle.xc_meaning_threads.proofs.traces_are_closed.Goals as goal

pub returns-clause-traces : goal.returns-clause-traces
returns-clause-traces c = traces_are_closed

pub returns-clause-made : goal.returns-clause-made
returns-clause-made c = runs_are_traces

pub returns-clause-whole : goal.returns-clause-whole
returns-clause-whole c = ends_are_whole
