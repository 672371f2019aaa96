use Rattle.std.proofs.Common.{◌≡◌, take}
use Rattle.xc_tree.proofs.copy.expr.+copy_expression.Given as goal

abbrev pub invariant-copy_all-loop-e : goal.invariant-copy_all-loop-e
invariant-copy_all-loop-e l = l.all ≡ take l.e-index l.e-items
