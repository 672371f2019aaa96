use Rattle.std.proofs.Common.{◌≡◌, drop, map}
use Rattle.xc_tree.specs.Lists.{some}
use Rattle.xc_form.specs.Changes.{unsettles}
use Rattle.xc_form.proofs.change.is_unsettled.Given as goal

abbrev pub invariant-loop-effect : goal.invariant-loop-effect
invariant-loop-effect l = some (map (unsettles l.pures) (drop l.effect-index l.effects)) ≡ some (map (unsettles l.pures) l.effects)
