use Rattle.std.proofs.Common.{◌≡◌, ◌<◌}
use Rattle.std.specs.Prelude.{slice_get}
use Rattle.std.specs.Int.RustNames.{count_ones}
use Rattle.xc_sched.specs.Streams.{streams_of}
use Rattle.xc_sched.specs.Bits.{word_flags}
use Rattle.xc_sched.proofs.ready.nth_in_word.Given as goal

-- the bit is the one with this place in what is left of the word
abbrev pub invariant-loop-left : goal.invariant-loop-left
invariant-loop-left l = record {
  same : slice_get (streams_of (word_flags l.rest)) l.left ≡ slice_get (streams_of (word_flags l.word)) l.k;
  within : l.left < count_ones l.rest;
}

abbrev pub decreases-loop-left : goal.decreases-loop-left
decreases-loop-left l = l.left
