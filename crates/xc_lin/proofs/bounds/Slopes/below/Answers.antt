use Rattle.std.proofs.Common.{arith, subst}
use Rattle.std.proofs.lemmas.Int.{ints}
use Rattle.xc_lin.specs.InnerRegion.{Reaches}
use Rattle.xc_lin.proofs.Spread.{spans-below, lesser-size, greater-size}
use Rattle.xc_lin.proofs.bounds.Slopes.below.Goals as goal

pub extent-requires-clause-some : goal.extent-requires-clause-some
extent-requires-clause-some c = rw c.of_last.ensures.line (omega (arith, ints, c.requires.pair))

pub returns-clause-spans : goal.returns-clause-spans
returns-clause-spans c =
    rw c.around.ensures
    (spans-below c.args.range c.args.self.first c.args.self.second c.extent-next.result.least c.extent-next.result.most c.extent.result.least c.extent.result.most
    (subst (λ line. Reaches line c.extent-next.result.least c.extent-next.result.most) c.of_next.ensures c.extent-next.ensures.reaches)
    (subst (λ line. Reaches line c.extent.result.least c.extent.result.most) c.of_last.ensures.line c.extent.ensures.reaches))

pub returns-clause-size : goal.returns-clause-size
returns-clause-size c =
    rw c.around.ensures (
      lesser-size c.extent-next.result.least c.extent.result.least _ c.extent-next.ensures.size.0 c.extent.ensures.size.0,
      greater-size c.extent-next.result.most c.extent.result.most _ c.extent-next.ensures.size.1 c.extent.ensures.size.1,
    )
