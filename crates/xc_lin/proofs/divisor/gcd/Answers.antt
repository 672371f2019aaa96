use Rattle.std.proofs.lemmas.Nat.Gcd.{IsGcd-from_zero, IsGcd-from_mod}
use Rattle.xc_lin.proofs.divisor.gcd.Goals as goal

pub loop-less-preserved : goal.loop-less-preserved
loop-less-preserved c = λ g then. c.loop-less.invariant g (IsGcd-from_mod _ _ g then)

pub returns : goal.returns
returns c = c.loop-less.invariant _ (IsGcd-from_zero _ _ c.loop-less-test.false)
