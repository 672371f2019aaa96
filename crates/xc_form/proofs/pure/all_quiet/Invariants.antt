use Rattle.std.proofs.Common.{◌≡◌, drop, map}
use Rattle.xc_tree.specs.Lists.{every}
use Rattle.xc_form.specs.Purity.{is_quiet}
use Rattle.xc_form.proofs.pure.all_quiet.Given as goal

abbrev pub invariant-loop-effect : goal.invariant-loop-effect
invariant-loop-effect l = every (map (is_quiet l.done) (drop l.effect-index l.effects)) ≡ every (map (is_quiet l.done) l.effects)
