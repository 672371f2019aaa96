use Rattle.std.proofs.Common.{◌≡◌, drop, map}
use Rattle.xc_tree.specs.Lists.{some}
use Rattle.xc_form.specs.Changes.{writes_global}
use Rattle.xc_form.proofs.change.is_written.Given as goal

abbrev pub invariant-loop-effect : goal.invariant-loop-effect
invariant-loop-effect l = some (map (writes_global l.g) (drop l.effect-index l.effects)) ≡ some (map (writes_global l.g) l.effects)
