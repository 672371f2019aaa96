use Rattle.std.proofs.Common.{◌≡◌, ◌∙◌, ap, subst, IfOk, negsuc}
use Rattle.xc_lin.specs.Affine.{Form, times, value_of}
use Rattle.xc_lin.proofs.Merged.{narrow-turned, value_of-turned}
use Rattle.xc_lin.proofs.affine.Affine.negate.Goals as goal

pub unwrap-requires : goal.unwrap-requires
unwrap-requires c = c.scale.ensures.fits.1 (narrow-turned c.args.self.now c.scale.ensures.narrow)

pub returns-clause-value : goal.returns-clause-value
returns-clause-value c =
    let ok : c.unwrap.result ≡ times c.args.self.now (negsuc 0) =
    subst (λ r. IfOk r (λ (form : Form). form ≡ times c.args.self.now (negsuc 0))) c.unwrap.ensures c.scale.ensures.ok in
    λ at. ap (λ form. value_of form at) ok ∙ value_of-turned c.args.self.now at
