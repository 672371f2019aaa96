use Rattle.std.proofs.Common.{refl}
use Rattle.xc_commute_histories.proofs.Counter.{never_ends, ends, quiet_of_actions}
use Rattle.xc_commute_histories.proofs.waits.waits_for_a_loop_that_traps.Goals as goal

pub returns-clause-quiet : goal.returns-clause-quiet
returns-clause-quiet c = quiet_of_actions

pub returns-clause-never_ends : goal.returns-clause-never_ends
returns-clause-never_ends c = λ h s m src. never_ends src

pub returns-clause-ends : goal.returns-clause-ends
returns-clause-ends c = (_, _, _, refl, refl, ends)
