-- What is no array is no array within a mixed struct.
use Rattle.std.proofs.Common.{◌≡◌, [], true, false, refl, ap}
use Rattle.std.specs.Prelude.{not}
use Rattle.xc_text_place.specs.declared.Span.{Span}
use Rattle.xc_type_rule.specs.declared.found.Known.{Known}
use Rattle.xc_type_rule.specs.declared.found.Known.TheVariants as known
use Rattle.xc_type_rule.specs.Least.{fault_unless}
use Rattle.xc_type_rule.specs.Values.{rvalue_faults}
use Rattle.xc_type_rule_places.specs.Rulings.{is_array}

pub nothing_lost : (at : Span) (k : Known) → is_array k ≡ false → rvalue_faults at k ≡ []
unfolding rvalue_faults
nothing_lost at (known.Unknown place) h = refl
nothing_lost at (known.Value ty) h = refl
nothing_lost at (known.Place ty false) h = refl
nothing_lost at (known.Place ty true) h = ap (λ b. fault_unless (not b) at) h
