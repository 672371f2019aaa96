use Rattle.std.proofs.Common.{◌≡◌, drop}
use Rattle.xc_form_stable.specs.Addresses.{has_write}
use Rattle.xc_form_stable.proofs.steady.has_write.Given as goal

abbrev pub invariant-loop-effect : goal.invariant-loop-effect
invariant-loop-effect l = has_write (drop l.effect-index l.effects) ≡ has_write l.effects
