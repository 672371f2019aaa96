use Rattle.std.proofs.Common.{subst}
use Rattle.xc_lin.specs.InnerRegion.{Reaches, Spans}
use Rattle.xc_lin.specs.declared.region.Tie.TheVariants.{Below}
use Rattle.xc_lin.proofs.Spread.{spans-apart, spans-shared, spans-above}
use Rattle.xc_lin.proofs.bounds.Slopes.extent.Goals as goal

pub returns-in-Apart-clause-spans : goal.returns-in-Apart-clause-spans
returns-in-Apart-clause-spans c =
    rw (c.in-Apart.is, c.plus.ensures)
    (spans-apart c.args.range c.args.self.first c.args.self.second c.extent-first.result.least c.extent-first.result.most c.extent.result.least c.extent.result.most
    (subst (λ line. Reaches line c.extent-first.result.least c.extent-first.result.most) c.of_first.ensures c.extent-first.ensures.reaches)
    (subst (λ line. Reaches line c.extent.result.least c.extent.result.most) c.of_second.ensures c.extent.ensures.reaches))

pub returns-in-Shared-clause-spans : goal.returns-in-Shared-clause-spans
returns-in-Shared-clause-spans c =
    rw c.in-Shared.is
    (spans-shared c.args.range c.args.self.first c.args.self.second c.extent-in-Shared.result.least c.extent-in-Shared.result.most
    (subst (λ line. Reaches line c.extent-in-Shared.result.least c.extent-in-Shared.result.most) c.of_both.ensures c.extent-in-Shared.ensures.reaches))

pub returns-in-Above-clause-spans : goal.returns-in-Above-clause-spans
returns-in-Above-clause-spans c =
    rw c.in-Above.is
    (spans-above c.args.range c.args.self.first c.args.self.second c.below-in-Above.result.least c.below-in-Above.result.most
    (subst (λ slopes. Spans Below c.args.range slopes.first slopes.second c.below-in-Above.result.least c.below-in-Above.result.most) c.turned.ensures c.below-in-Above.ensures.spans))
