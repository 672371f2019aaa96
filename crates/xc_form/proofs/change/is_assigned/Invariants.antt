use Rattle.std.proofs.Common.{◌≡◌, drop, map}
use Rattle.xc_tree.specs.Lists.{some}
use Rattle.xc_form.specs.Changes.{assigns}
use Rattle.xc_form.proofs.change.is_assigned.Given as goal

abbrev pub invariant-loop-effect : goal.invariant-loop-effect
invariant-loop-effect l = some (map (assigns l.x) (drop l.effect-index l.effects)) ≡ some (map (assigns l.x) l.effects)
