use Rattle.std.proofs.Common.{◌≡◌, drop}
use Rattle.xc_type_rule_calls.specs.Prints.{all_numbers}
use Rattle.xc_type_rule_calls.proofs.print.all_numbers.Given as goal

abbrev pub invariant-loop-arg : goal.invariant-loop-arg
invariant-loop-arg l = all_numbers (drop l.arg-index l.args) ≡ all_numbers l.args
