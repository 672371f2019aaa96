use Rattle.std.proofs.Common.{subst, IsOk, ◌↔◌}
use Rattle.xc_lin.specs.Affine.{Form, IsNarrow, plus}
use Rattle.xc_lin.proofs.Merged.{value-minus}
use Rattle.xc_lin.proofs.affine.Affine.subtract.Goals as goal

pub returns-clause-fits : goal.returns-clause-fits
returns-clause-fits c = subst (λ (turned : Form). IsOk c.add-2.result ↔ IsNarrow (plus c.args.self.now turned)) c.negate.ensures.form c.add-2.ensures.fits

pub returns-clause-value : goal.returns-clause-value
returns-clause-value c = value-minus c.add-2.result c.args.self.now c.args.other.now c.negate.result c.negate.ensures.value c.add-2.ensures.value
