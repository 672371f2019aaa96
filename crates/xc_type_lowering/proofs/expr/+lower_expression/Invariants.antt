use Rattle.std.proofs.Common.{◌≡◌, take, map}
use Rattle.xc_type_lowering.specs.Lowered.{lowered}
use Rattle.xc_type_lowering.proofs.expr.+lower_expression.Given as goal

abbrev pub invariant-lower_all-loop-e : goal.invariant-lower_all-loop-e
invariant-lower_all-loop-e l = l.all ≡ map (lowered l.addressed) (take l.e-index l.e-items)
