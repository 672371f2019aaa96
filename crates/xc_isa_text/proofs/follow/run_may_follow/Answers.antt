use Rattle.std.proofs.Common.{sym, ap, ◌∙◌}
use Rattle.xc_isa_text.specs.InnerReadings.{may_follow, differ}
use Rattle.xc_isa_text.proofs.Chains.{last_is}
use Rattle.xc_isa_text.proofs.follow.run_may_follow.Goals as goal

pub returns-in-Some : goal.returns-in-Some
returns-in-Some c = c.differ.ensures ∙ sym (ap (λ o. may_follow differ o c.args.run.now) (last_is c.args.runs.now c.in-Some.last.now c.in-Some.ensures.value))
