use Rattle.std.proofs.Common.{◌≡◌, sym, ◌∙◌, ap, arith}
use Rattle.std.specs.Prelude.{slice_get}
use Rattle.xc_sched.specs.Streams.{streams_of}
use Rattle.xc_sched.specs.Bits.{word_flags}
use Rattle.xc_sched.proofs.ReadyLemmas.{one_less, first_bit}
use Rattle.xc_sched.proofs.ready.nth_in_word.Goals as goal

pub loop-left-preserved : goal.loop-left-preserved
loop-left-preserved c =
    let step = one_less c.loop-left.rest c.loop-left.left (omega arith) (omega arith) c.loop-left.invariant.within in
    record { same = step.0 ∙ c.loop-left.invariant.same; within = step.1 }

pub returns-clause-is : goal.returns-clause-is
returns-clause-is c =
    let none : c.loop-left.left ≡ 0 = omega arith in
    let first = first_bit c.loop-left.rest (omega arith) (omega (arith, c.loop-left.invariant.within)) in
    sym c.loop-left.invariant.same ∙ ap (slice_get (streams_of (word_flags c.loop-left.rest))) none ∙ first.0

pub returns-clause-below : goal.returns-clause-below
returns-clause-below c = (first_bit c.loop-left.rest (omega arith) (omega (arith, c.loop-left.invariant.within))).1
