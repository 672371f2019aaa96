use Rattle.std.proofs.Common.{◌≡◌, ◌∙◌, ◌+ℤ◌, ap, arith, subst, to_z, of_z, w64}
use Rattle.std.proofs.lemmas.Int.{ints}
use Rattle.xc_lin.specs.Affine.{merged, IsSingle}
use Rattle.xc_lin.proofs.Merged.{single-merged, fits-plus, value-plus}
use Rattle.xc_lin.proofs.affine.Affine.add.Goals as goal

pub of_terms-requires : goal.of_terms-requires
of_terms-requires c =
    rw (c.as_slice-3.ensures, c.merge-terms.ensures.items, c.as_slice.ensures, c.as_slice-2.ensures)
    (single-merged c.self.inside.terms.items c.other.inside.terms.items c.self.invariant.1 c.other.invariant.1)

-- the terms are those of the two forms
all : (c : goal.Joined-terms) → c.as_slice-3.result.now ≡ merged c.args.self.now.terms c.args.other.now.terms
all c =
    let first : c.as_slice.result.now ≡ c.args.self.now.terms = c.as_slice.ensures ∙ ap (λ form. form.terms) c.self.view_is in
    let second : c.as_slice-2.result.now ≡ c.args.other.now.terms = c.as_slice-2.ensures ∙ ap (λ form. form.terms) c.other.view_is in
    c.as_slice-3.ensures ∙ c.merge-terms.ensures.items ∙ ap (λ terms. merged terms c.as_slice-2.result.now) first ∙ ap (merged c.args.self.now.terms) second

pub returns-clause-fits : goal.returns-clause-fits
returns-clause-fits c =
    fits-plus c.of_terms.result c.as_slice-3.result.now
    (to_z w64 (of_z w64 (to_z w64 (of_z w64 c.self.inside.constant) +ℤ to_z w64 (of_z w64 c.other.inside.constant)))) c.args.self.now c.args.other.now (all c)
    (omega (arith, ints, ap (λ form. form.constant) c.self.view_is, ap (λ form. form.constant) c.other.view_is)) c.of_terms.ensures.fits

pub returns-clause-value : goal.returns-clause-value
returns-clause-value c =
    value-plus c.of_terms.result c.as_slice-3.result.now _ c.args.self.now c.args.other.now (all c)
    (omega (arith, ints, ap (λ form. form.constant) c.self.view_is, ap (λ form. form.constant) c.other.view_is))
    (subst IsSingle (ap (λ form. form.terms) c.self.view_is) c.self.invariant.1)
    (subst IsSingle (ap (λ form. form.terms) c.other.view_is) c.other.invariant.1) c.of_terms.ensures.ok
