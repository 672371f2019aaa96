use Rattle.std.proofs.Common.{◌≡◌, drop}
use Rattle.xc_lin.specs.Region.{range_of}
use Rattle.xc_lin.proofs.region.Region.range.Given as goal

-- no earlier range is that of the variable
abbrev pub invariant-loop-known : goal.invariant-loop-known
invariant-loop-known l = range_of l.self.ranges l.var ≡ range_of (drop l.known-index l.known-items) l.var
