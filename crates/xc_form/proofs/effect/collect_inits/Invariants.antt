use Rattle.std.proofs.Common.{◌≡◌, ◌++◌, drop}
use Rattle.xc_form.specs.Effects.{inits_effects}
use Rattle.xc_form.proofs.effect.collect_inits.Given as goal

abbrev pub invariant-loop-i : goal.invariant-loop-i
invariant-loop-i l = l.out.items ++ inits_effects (drop l.i-index l.list) ≡ l.initial.out.items ++ inits_effects l.list
