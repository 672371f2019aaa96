use Rattle.std.proofs.Common.{◌≡◌, drop, map}
use Rattle.xc_tree.specs.Lists.{some}
use Rattle.xc_form_stable.specs.Addresses.{disturbs}
use Rattle.xc_form_stable.proofs.steady.is_disturbed.Given as goal

abbrev pub invariant-loop-effect : goal.invariant-loop-effect
invariant-loop-effect l = some (map (disturbs l.root) (drop l.effect-index l.effects)) ≡ some (map (disturbs l.root) l.effects)
