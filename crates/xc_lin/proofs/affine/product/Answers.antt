use Rattle.xc_lin.proofs.Outcomes.{fits-constant, reads-product}
use Rattle.xc_lin.proofs.affine.product.Goals as goal

pub overflow_mul-result : goal.overflow_mul-result
overflow_mul-result c = fits-constant c.args.a c.args.b c.requires.first c.requires.second

pub returns : goal.returns
returns c = reads-product c.args.a c.args.b c.requires.first c.requires.second
