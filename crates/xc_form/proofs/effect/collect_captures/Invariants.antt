use Rattle.std.proofs.Common.{◌≡◌, ◌++◌, drop}
use Rattle.xc_form.specs.Effects.{captures_effects}
use Rattle.xc_form.proofs.effect.collect_captures.Given as goal

abbrev pub invariant-loop-c : goal.invariant-loop-c
invariant-loop-c l = l.out.items ++ captures_effects (drop l.c-index l.list) ≡ l.initial.out.items ++ captures_effects l.list
