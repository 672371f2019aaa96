use Rattle.std.proofs.Common.{◌≡◌}
use Rattle.xc_type_rule_calls.specs.Arguments.{given_to}
use Rattle.xc_type_rule_calls.proofs.arguments.given_to.Given as goal

abbrev pub invariant-loop-arg : goal.invariant-loop-arg
invariant-loop-arg l = l.all.items ≡ given_to l.params l.yielded
