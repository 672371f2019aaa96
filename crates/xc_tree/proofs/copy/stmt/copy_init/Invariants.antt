use Rattle.std.proofs.Common.{◌≡◌, take}
use Rattle.xc_tree.proofs.copy.stmt.copy_init.Given as goal

abbrev pub invariant-loop-e : goal.invariant-loop-e
invariant-loop-e l = l.all ≡ take l.e-index l.e-items
