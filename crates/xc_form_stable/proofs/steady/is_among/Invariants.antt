use Rattle.std.proofs.Common.{◌≡◌, drop}
use Rattle.xc_tree.specs.Lists.{has}
use Rattle.xc_form_stable.proofs.steady.is_among.Given as goal

abbrev pub invariant-loop-y : goal.invariant-loop-y
invariant-loop-y l = has l.x (drop l.y-index l.over) ≡ has l.x l.over
