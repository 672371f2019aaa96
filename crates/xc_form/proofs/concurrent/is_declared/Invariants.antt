use Rattle.std.proofs.Common.{◌≡◌, drop, map}
use Rattle.xc_tree.specs.Lists.{some}
use Rattle.xc_form.specs.Concurrency.{declares}
use Rattle.xc_form.proofs.concurrent.is_declared.Given as goal

abbrev pub invariant-loop-effect : goal.invariant-loop-effect
invariant-loop-effect l = some (map (declares l.x) (drop l.effect-index l.effects)) ≡ some (map (declares l.x) l.effects)
