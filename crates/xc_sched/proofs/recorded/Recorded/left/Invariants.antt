use Rattle.std.proofs.Common.{◌≡◌, ◌-◌, ◌^◌, length, take}
use Rattle.std.specs.Prelude.{min}
use Rattle.xc_sched.specs.Runs.{steps_of}
use Rattle.xc_sched.proofs.recorded.Recorded.left.Given as goal

abbrev pub invariant-loop-run : goal.invariant-loop-run
invariant-loop-run l = l.left ≡ min (length (steps_of (take l.run-index l.run-items))) (2 ^ 64 - 1)
