use Rattle.std.proofs.Common.{◌≡◌, arith, take}
use Rattle.std.proofs.lemmas.Int.{ints}
use Rattle.std.proofs.lemmas.List.{take_all}
use Rattle.xc_lin.proofs.Merged.{narrow-more, single-nonzero}
use Rattle.xc_lin.proofs.Outcomes.{never_both, never_true}
use Rattle.xc_lin.proofs.affine.Affine.of_terms.Goals as goal

pub returns-in_err-put-clause-fits : goal.returns-in_err-put-clause-fits
returns-in_err-put-clause-fits c = (
  λ ok. absurd (never_both c.from_residual.result c.from_residual.ensures.0 ok),
  λ narrow. absurd (never_true (c.in_err-put.ensures.wide (narrow-more c.args.all.now c.loop-term.terms.items c.loop-term.term-index _ (omega arith) c.loop-term.invariant.items narrow.0))),
)

pub invariant_of-result : goal.invariant_of-result
invariant_of-result c =
    let whole : take c.loop-term.term-index c.args.all.now ≡ c.args.all.now = take_all _ _ (omega arith) in (
      (c.loop-term.invariant.narrow, omega (arith, ints)),
      rw (c.loop-term.invariant.items, whole) (single-nonzero c.args.all.now c.requires),
      c.loop-term.invariant.room,
    )
