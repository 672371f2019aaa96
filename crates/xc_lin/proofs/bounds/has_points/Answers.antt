use Rattle.std.proofs.Common.{◌≡◌, ◌∙◌, pos, arith, take, subst, sym, refl}
use Rattle.std.proofs.lemmas.List.{take_all, take_more}
use Rattle.xc_lin.specs.declared.affine.Term.{Term}
use Rattle.xc_lin.specs.declared.affine.Var.TheVariants.{Index}
use Rattle.xc_lin.proofs.Outcomes.{never_true}
use Rattle.xc_lin.proofs.Bounded.{AllHave, values-met, have-push, points-met}
use Rattle.xc_lin.proofs.bounds.has_points.Goals as goal

abbrev none : Term
none = record { var = Index 0; coeff = pos 0 }

pub returns-then-not-has_values : goal.returns-then-not-has_values
returns-then-not-has_values c = (
  λ no. absurd (never_true no),
  λ points. c.if-not-has_values.ensures.1
      (values-met c.args.a.now c.args.b.now c.args.over.now c.as_slice-term-items.result.now c.loop-term.term-index none (c.as_slice-term-items.ensures ∙ c.met-terms.ensures.items) c.loop-term-test.true points),
)

pub loop-term-preserved : goal.loop-term-preserved
loop-term-preserved c =
    subst (AllHave c.args.over.now) (sym (take_more c.as_slice-term-items.result.now c.loop-term.term-index none c.loop-term-test.true))
    (have-push c.args.over.now (take c.loop-term.term-index c.as_slice-term-items.result.now) _ c.loop-term.invariant (c.if-not-has_values.ensures.0 refl))

pub returns : goal.returns
returns c =
    let all : take c.loop-term.term-index c.as_slice-term-items.result.now ≡ c.as_slice-term-items.result.now = take_all _ _ (omega arith) in (
      λ yes. points-met c.args.a.now c.args.b.now c.args.over.now c.as_slice-term-items.result.now (c.as_slice-term-items.ensures ∙ c.met-terms.ensures.items) (subst (AllHave c.args.over.now) all c.loop-term.invariant),
      λ points. refl,
    )
