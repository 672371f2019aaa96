use Rattle.std.proofs.Common.{◌≡◌, drop, length}
use Rattle.xc_type_rule_calls.specs.Arguments.{all_fit}
use Rattle.xc_type_rule_calls.proofs.arguments.all_fit.Given as goal

abbrev pub invariant-loop-i : goal.invariant-loop-i
invariant-loop-i l = (length l.params ≡ length l.args) × (all_fit (drop l.i l.params) (drop l.i l.args) ≡ all_fit l.params l.args)
