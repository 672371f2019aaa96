use Rattle.std.proofs.Common.{◌≡◌, drop}
use Rattle.xc_lex.specs.Numbers.{value_from}
use Rattle.xc_lex.proofs.number.digits_value.Given as goal

abbrev pub invariant-loop-b : goal.invariant-loop-b
invariant-loop-b l = value_from l.base 0 l.digits ≡ value_from l.base l.value (drop l.b-index l.digits)
