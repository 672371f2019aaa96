use Rattle.std.proofs.Common.{◌/◌, ◌%◌, slice_index, eqb, sym, ap, ◌∙◌}
use Rattle.std.proofs.lemmas.Nat.Bits.{shr_and_one}
use Rattle.xc_sched.proofs.BitLemmas.{flags_of-at}
use Rattle.xc_sched.proofs.ready.is_on.Goals as goal

pub returns : goal.returns
returns c =
    ap (λ b. eqb b 1) (shr_and_one (slice_index c.args.words.now (c.args.s / 64)) (c.args.s % 64))
    ∙ sym (flags_of-at c.args.words.now c.args.s c.requires)
