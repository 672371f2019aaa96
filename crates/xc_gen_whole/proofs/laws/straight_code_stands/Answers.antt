use Rattle.xc_gen_whole.proofs.Stands.{code_stands}
use Rattle.xc_gen_whole.proofs.laws.straight_code_stands.Goals as goal

pub returns : goal.returns
returns c = code_stands
