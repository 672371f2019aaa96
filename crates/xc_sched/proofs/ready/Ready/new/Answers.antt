use Rattle.std.proofs.Common.{◌≡◌, ap, sym, subst, ◌∙◌, take, arith}
use Rattle.std.specs.Prelude.{replicate}
use Rattle.xc_sched.specs.Bits.{flags_of, KeepsFlags}
use Rattle.xc_sched.proofs.ReadyLemmas.{kept_zero, view_zero}
use Rattle.xc_sched.proofs.ready.Ready.new.Goals as goal

pub invariant_of-result : goal.invariant_of-result
invariant_of-result c =
    let zeros : c.in_ok-words.words.items ≡ replicate c.div_ceil.result 0 = c.in_ok-words.ensures.items_if_clones_equal (λ y h. h) in
    subst (KeepsFlags c.args.streams 0) (sym zeros) (kept_zero c.args.streams c.div_ceil.result (omega arith) (omega (arith, c.div_ceil.ensures)) (omega (arith, c.div_ceil.ensures)))

pub returns : goal.returns
returns c =
    let zeros : c.in_ok-words.words.items ≡ replicate c.div_ceil.result 0 = c.in_ok-words.ensures.items_if_clones_equal (λ y h. h) in
    ap (λ w. take c.args.streams (flags_of w)) zeros ∙ view_zero c.args.streams c.div_ceil.result (omega (arith, c.div_ceil.ensures))
