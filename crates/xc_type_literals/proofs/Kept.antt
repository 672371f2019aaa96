-- Constants that were read before.
use Rattle.std.proofs.Common.{◌≡◌, ℕ, Bool, true, false, cond, List, refl, sym, ap, ◌∙◌, true≢false}
use Rattle.std.specs.Prelude.{◌&&◌, Option, Some, slice_range}
use Rattle.std.specs.Map.{lookup}
use Rattle.std.proofs.lemmas.Bool.{eqb-true}
use Rattle.xc_lex.specs.declared.number.Number.{Number}
use Rattle.xc_lex.specs.Numbers.{number_of}
use Rattle.xc_text_place.specs.Stretches.{stretch_eq}
use Rattle.xc_type_literals.specs.InnerConstants.{AreConstants}

both_true : (b c : Bool) → (b && c) ≡ true → (b ≡ true) × (c ≡ true)
both_true true c e = (refl, e)
both_true false c e = absurd (true≢false (sym e))

same_number : (source : List ℕ) (p q : ℕ × ℕ) → stretch_eq p q ≡ true → number_of (slice_range source p.0 p.1) ≡ number_of (slice_range source q.0 q.1)
same_number source p q e =
    let two = both_true _ _ e in
    let first = eqb-true p.0 q.0 two.0 in
    let second = eqb-true p.1 q.1 two.1 in
    (λ i. number_of (slice_range source (first i) (second i)))

-- one more stretch, with its constant
pub are_constants : (source : List ℕ) (q : ℕ × ℕ) (here : Option Number) (old new : List ((ℕ × ℕ) × Option Number)) →
    here ≡ number_of (slice_range source q.0 q.1) → AreConstants source old →
    ((p : ℕ × ℕ) → lookup (stretch_eq p) new ≡ cond (stretch_eq q p) (Some here) (lookup (stretch_eq p) old)) → AreConstants source new
are_constants source q here old new is all put p number found = by (stretch_eq q p) refl
  where
    by : (b : Bool) → stretch_eq q p ≡ b → number ≡ number_of (slice_range source p.0 p.1)
    by true e =
        let two : Some number ≡ Some here = sym found ∙ put p ∙ ap (λ b. cond b (Some here) (lookup (stretch_eq p) old)) e in
        let same : number ≡ here = cc in
        same ∙ is ∙ same_number source q p e
    by false e = all p number (sym (put p ∙ ap (λ b. cond b (Some here) (lookup (stretch_eq p) old)) e) ∙ found)
