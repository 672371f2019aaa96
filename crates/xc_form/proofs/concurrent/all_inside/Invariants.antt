use Rattle.std.proofs.Common.{◌≡◌, drop, map}
use Rattle.xc_tree.specs.Lists.{every}
use Rattle.xc_form.specs.Concurrency.{keeps_inside}
use Rattle.xc_form.proofs.concurrent.all_inside.Given as goal

abbrev pub invariant-loop-effect : goal.invariant-loop-effect
invariant-loop-effect l = every (map (keeps_inside l.effects) (drop l.effect-index l.effects)) ≡ every (map (keeps_inside l.effects) l.effects)
