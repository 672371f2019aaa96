use Rattle.std.proofs.Common.{◌≡◌, take, map}
use Rattle.xc_type_lowering.specs.Lowered.{capture_with, lowered}
use Rattle.xc_type_lowering.proofs.stmt.lower_captures.Given as goal

abbrev pub invariant-loop-c : goal.invariant-loop-c
invariant-loop-c l = l.all ≡ map (capture_with (lowered l.addressed)) (take l.c-index l.c-items)
