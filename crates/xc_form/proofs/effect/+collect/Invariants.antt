use Rattle.std.proofs.Common.{◌≡◌, ◌++◌, drop}
use Rattle.xc_form.specs.InnerEffects.{exprs_effects}
use Rattle.xc_form.proofs.effect.+collect.Given as goal

abbrev pub invariant-collect_exprs-loop-e : goal.invariant-collect_exprs-loop-e
invariant-collect_exprs-loop-e l = l.out.items ++ exprs_effects (drop l.e-index l.list) ≡ l.initial.out.items ++ exprs_effects l.list
