use Rattle.std.proofs.Common.{◌≡◌, take, map}
use Rattle.xc_type_lowering.specs.Lowered.{init_with, lowered}
use Rattle.xc_type_lowering.proofs.stmt.lower_init.Given as goal

abbrev pub invariant-loop-e : goal.invariant-loop-e
invariant-loop-e l = l.all ≡ map (init_with (lowered l.addressed)) (take l.e-index l.e-items)
