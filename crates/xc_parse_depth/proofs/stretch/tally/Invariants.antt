use Rattle.std.proofs.Common.{take}
use Rattle.xc_parse_depth.specs.InnerDepths.{Tallied}
use Rattle.xc_parse_depth.proofs.stretch.tally.Given as goal

abbrev pub invariant-stretches : goal.invariant-stretches
invariant-stretches l = Tallied (take l.stretch-index l.stretches) l.count l.begins.items l.ends.items
