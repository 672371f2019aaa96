use Rattle.std.proofs.Common.{◌≡◌, ◌*◌, drop}
use Rattle.std.specs.Prelude.{slice_get}
use Rattle.xc_sched.specs.Streams.{streams_from}
use Rattle.xc_sched.specs.Bits.{flags_of}
use Rattle.xc_sched.proofs.ready.lowest_bit_in.Given as goal

-- the words so far have no bit
abbrev pub invariant-loop-i : goal.invariant-loop-i
invariant-loop-i l = slice_get (streams_from (64 * l.i) (flags_of (drop l.i l.words))) 0 ≡ slice_get (streams_from (64 * l.first) (flags_of (drop l.first l.words))) 0
