use Rattle.std.proofs.Common.{◌≡◌, ◌*◌, drop}
use Rattle.std.specs.Prelude.{slice_get}
use Rattle.xc_sched.specs.Streams.{streams_from, streams_of}
use Rattle.xc_sched.specs.Bits.{flags_of}
use Rattle.xc_sched.proofs.ready.nth_one.Given as goal

-- the place among what is left of the words
abbrev pub invariant-loop-i : goal.invariant-loop-i
invariant-loop-i l = slice_get (streams_from (64 * l.i) (flags_of (drop l.i l.words))) l.left ≡ slice_get (streams_of (flags_of l.words)) l.k
