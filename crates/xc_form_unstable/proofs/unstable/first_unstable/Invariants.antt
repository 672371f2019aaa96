use Rattle.std.proofs.Common.{◌≡◌, drop}
use Rattle.xc_form_unstable.specs.Unstable.{loop_of_funcs}
use Rattle.xc_form_unstable.proofs.unstable.first_unstable.Given as goal

abbrev pub invariant-loop-func : goal.invariant-loop-func
invariant-loop-func l = loop_of_funcs l.id (drop l.func-index l.tree.funcs) ≡ loop_of_funcs l.id l.tree.funcs
