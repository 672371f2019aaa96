use Rattle.std.proofs.Common.{◌≡◌}
use Rattle.xc_type_rule_calls.specs.Arguments.{all_made}
use Rattle.xc_type_rule_calls.proofs.arguments.all_made.Given as goal

abbrev pub invariant-loop-arg : goal.invariant-loop-arg
invariant-loop-arg l = l.made ≡ all_made l.yielded
