use Rattle.std.proofs.Common.{◌≡◌, ◌∙◌, ◌*ℤ◌, ap, map, arith, to_z, of_z, w64}
use Rattle.std.proofs.lemmas.Int.{ints}
use Rattle.xc_lin.specs.Affine.{scaled}
use Rattle.xc_lin.proofs.Merged.{single-scaled, fits-times, value-times}
use Rattle.xc_lin.proofs.Outcomes.{reads-product}
use Rattle.xc_lin.proofs.affine.Affine.scale.Goals as goal

pub of_terms-requires : goal.of_terms-requires
of_terms-requires c =
    rw (c.as_slice-2.ensures, c.scale_terms-terms.ensures, c.as_slice.ensures) (single-scaled _ c.self.inside.terms.items c.self.invariant.1)

-- the terms are those of the form, each times the number
all : (c : goal.Joined-terms) → c.as_slice-2.result.now ≡ map (scaled c.args.by) c.args.self.now.terms
all c =
    let by : to_z w64 (of_z w64 c.args.by) ≡ c.args.by = omega (arith, ints, c.requires) in
    c.as_slice-2.ensures ∙ c.scale_terms-terms.ensures ∙ ap (λ by. map (scaled by) c.as_slice.result.now) by ∙
    ap (map (scaled c.args.by)) (c.as_slice.ensures ∙ ap (λ form. form.terms) c.self.view_is)

constant : (c : goal.Joined-terms) → to_z w64 (of_z w64 c.product-constant.result) ≡ (c.args.self.now.constant *ℤ c.args.by)
constant c =
    rw c.product-constant.ensures
    (reads-product c.self.inside.constant c.args.by c.self.invariant.0.1 c.requires ∙ ap (λ form. form.constant *ℤ c.args.by) c.self.view_is)

pub returns-clause-fits : goal.returns-clause-fits
returns-clause-fits c = fits-times c.of_terms.result c.as_slice-2.result.now (to_z w64 (of_z w64 c.product-constant.result)) c.args.by c.args.self.now (all c) (constant c) c.of_terms.ensures.fits

pub returns-clause-value : goal.returns-clause-value
returns-clause-value c = value-times c.of_terms.result c.as_slice-2.result.now (to_z w64 (of_z w64 c.product-constant.result)) c.args.by c.args.self.now (all c) (constant c) c.of_terms.ensures.ok
