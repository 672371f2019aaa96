use Rattle.std.proofs.Common.{sym, ap}
use Rattle.xc_sched.specs.Runs.{is_other}
use Rattle.xc_sched.proofs.RunLemmas.{last_is}
use Rattle.xc_sched.proofs.run.is_other.Goals as goal

pub returns-in-Some : goal.returns-in-Some
returns-in-Some c = sym (ap (λ o. is_other o c.args.stream) (last_is c.args.runs.now c.in-Some.last.now c.in-Some.ensures.value))
