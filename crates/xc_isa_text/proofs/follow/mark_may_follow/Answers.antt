use Rattle.std.proofs.Common.{sym, ap}
use Rattle.xc_isa_text.specs.InnerReadings.{may_follow, in_order}
use Rattle.xc_isa_text.proofs.Chains.{last_is}
use Rattle.xc_isa_text.proofs.follow.mark_may_follow.Goals as goal

pub returns-in-Some : goal.returns-in-Some
returns-in-Some c = sym (ap (λ o. may_follow in_order o c.args.mark.now) (last_is c.args.marks.now c.in-Some.last.now c.in-Some.ensures.value))
