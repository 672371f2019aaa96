use Rattle.xc_meaning_source.proofs.Prefixes.{source_runs_are_closed, world_is_that_after}
use Rattle.xc_meaning_source.proofs.source_runs_are_closed.Goals as goal

pub returns-clause-runs : goal.returns-clause-runs
returns-clause-runs c = source_runs_are_closed

pub returns-clause-worlds : goal.returns-clause-worlds
returns-clause-worlds c = world_is_that_after
