use Rattle.std.proofs.Common.{◌+◌, ◌*◌, ◌^◌, ◌-ℤ◌, take}
use Rattle.xc_lin.specs.InnerRegion.{AreWithin}
use Rattle.xc_lin.proofs.Totals.{Summed}
use Rattle.xc_lin.proofs.bounds.extremes.Given as goal

-- the least and the greatest difference over the variables so far
abbrev pub invariant-loop-term : goal.invariant-loop-term
invariant-loop-term l = record {
  summed : Summed l.over l.a.terms l.b.terms (l.a.constant -ℤ l.b.constant) (take l.term-index l.term-items) l.extent.least l.extent.most;
  size : AreWithin ((l.term-index + 1) * 2 ^ 86) l.extent;
}
