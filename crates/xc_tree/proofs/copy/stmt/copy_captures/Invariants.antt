use Rattle.std.proofs.Common.{◌≡◌, take}
use Rattle.xc_tree.proofs.copy.stmt.copy_captures.Given as goal

abbrev pub invariant-loop-c : goal.invariant-loop-c
invariant-loop-c l = l.all ≡ take l.c-index l.c-items
