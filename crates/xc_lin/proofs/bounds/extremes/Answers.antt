use Rattle.std.proofs.Common.{◌≡◌, ◌∙◌, ◌-ℤ◌, pos, arith, subst, sym, take, to_z, of_z}
use Rattle.std.specs.Int.{w128}
use Rattle.std.proofs.lemmas.Int.{ints}
use Rattle.std.proofs.lemmas.List.{take_all}
use Rattle.xc_lin.specs.declared.affine.Term.{Term}
use Rattle.xc_lin.specs.declared.affine.Var.TheVariants.{Index}
use Rattle.xc_lin.specs.Affine.{IsSingle}
use Rattle.xc_lin.specs.InnerAffine.{met}
use Rattle.xc_lin.proofs.Totals.{Summed, summed-nil}
use Rattle.xc_lin.proofs.Bounded.{values-met, single-met, summed-more, bounds-summed}
use Rattle.xc_lin.proofs.bounds.extremes.Goals as goal

abbrev none : Term
none = record { var = Index 0; coeff = pos 0 }

pub loop-term-init : goal.loop-term-init
loop-term-init c = record {
  summed = rw c.constant-extent.ensures.value (summed-nil c.args.over.now c.args.a.now.terms c.args.b.now.terms (c.args.a.now.constant -ℤ c.args.b.now.constant));
  size = c.constant-extent.ensures.size;
}

pub part-requires : goal.part-requires
part-requires c =
    values-met c.args.a.now c.args.b.now c.args.over.now c.as_slice-term-items.result.now c.loop-term.term-index none (c.as_slice-term-items.ensures ∙ c.met-terms.ensures.items) c.loop-term-test.true c.requires

pub loop-term-preserved : goal.loop-term-preserved
loop-term-preserved c =
    let items : c.as_slice-term-items.result.now ≡ met c.args.a.now.terms c.args.b.now.terms (Index c.args.over.now.own) = c.as_slice-term-items.ensures ∙ c.met-terms.ensures.items in
    let single : IsSingle c.as_slice-term-items.result.now = subst IsSingle (sym items) (single-met c.args.a.now.terms c.args.b.now.terms (Index c.args.over.now.own) c.met-terms.ensures.single_first c.met-terms.ensures.single_second) in
    record {
      summed = rw c.plus-extent.ensures
          (summed-more c.args.over.now c.args.a.now.terms c.args.b.now.terms (c.args.a.now.constant -ℤ c.args.b.now.constant) c.as_slice-term-items.result.now c.loop-term.term-index none
          c.loop-term.extent.least c.loop-term.extent.most c.part.result.least c.part.result.most c.loop-term-test.true single
          c.part.ensures.spans c.loop-term.invariant.summed);
      size = rw c.plus-extent.ensures
          (omega (arith, ints, c.loop-term.invariant.size.0, c.part.ensures.size.0), omega (arith, ints, c.loop-term.invariant.size.1, c.part.ensures.size.1));
    }

pub returns : goal.returns
returns c =
    let items : c.as_slice-term-items.result.now ≡ met c.args.a.now.terms c.args.b.now.terms (Index c.args.over.now.own) = c.as_slice-term-items.ensures ∙ c.met-terms.ensures.items in
    let few = c.met-terms.ensures.few in
    let least : to_z w128 (of_z w128 c.loop-term.extent.least) ≡ c.loop-term.extent.least = omega (arith, ints, c.loop-term.invariant.size.0) in
    let most : to_z w128 (of_z w128 c.loop-term.extent.most) ≡ c.loop-term.extent.most = omega (arith, ints, c.loop-term.invariant.size.1) in
    let all : take c.loop-term.term-index c.as_slice-term-items.result.now ≡ c.as_slice-term-items.result.now = take_all _ _ (omega arith) in
    rw (least, most)
    (bounds-summed c.args.a.now c.args.b.now c.args.over.now c.loop-term.extent.least c.loop-term.extent.most c.met-terms.ensures.single_first c.met-terms.ensures.single_second
    (subst (λ terms. Summed c.args.over.now c.args.a.now.terms c.args.b.now.terms (c.args.a.now.constant -ℤ c.args.b.now.constant) terms c.loop-term.extent.least c.loop-term.extent.most) (all ∙ items) c.loop-term.invariant.summed))
