use Rattle.xc_gen_straight.proofs.Programs.{straight_trees}
use Rattle.xc_gen_straight.proofs.laws.straight_trees_agree.Goals as goal

pub returns : goal.returns
returns c = straight_trees
