use Rattle.std.proofs.Common.{take}
use Rattle.xc_lin.proofs.Bounded.{AllHave}
use Rattle.xc_lin.proofs.bounds.has_points.Given as goal

-- the variables so far have values
abbrev pub invariant-loop-term : goal.invariant-loop-term
invariant-loop-term l = AllHave l.over (take l.term-index l.term-items)
