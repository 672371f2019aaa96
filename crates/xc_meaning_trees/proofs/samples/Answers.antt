use Rattle.xc_meaning_trees.proofs.Computed.{tree_samples, roots}
use Rattle.xc_meaning_trees.proofs.samples.Goals as goal

pub returns-clause-trees : goal.returns-clause-trees
returns-clause-trees c = tree_samples

pub returns-clause-references : goal.returns-clause-references
returns-clause-references c = roots
