use Rattle.xc_meaning_exact.proofs.Sums.{index_after_is_exact, index_values_are_exact}
use Rattle.xc_meaning_exact.proofs.exact.Goals as goal

pub returns-clause-values : goal.returns-clause-values
returns-clause-values c = index_values_are_exact

pub returns-clause-steps : goal.returns-clause-steps
returns-clause-steps c = index_after_is_exact
