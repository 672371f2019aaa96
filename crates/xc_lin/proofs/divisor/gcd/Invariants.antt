use Rattle.std.proofs.Common.{ℕ}
use Rattle.std.specs.Int.{IsGcd}
use Rattle.xc_lin.proofs.divisor.gcd.Given as goal

-- what divides both numbers divided both at first
abbrev pub invariant-loop-less : goal.invariant-loop-less
invariant-loop-less l = (g : ℕ) → IsGcd l.greater l.less g → IsGcd l.a l.b g

abbrev pub decreases-loop-less : goal.decreases-loop-less
decreases-loop-less l = l.less
