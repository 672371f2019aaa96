use Rattle.std.proofs.Common.{length}
use Rattle.xc_commute.proofs.events.+part.Given as goal

abbrev pub decreases-part : goal.decreases-part
decreases-part l = length l.events.now
