-- What only private functions and proofs speak of, beside `Constants`.
use Rattle.std.specs.Prelude.{◌≡◌, ℕ, List, Option, Some, slice_range}
use Rattle.std.specs.Map.{lookup}
use Rattle.xc_lex.specs.declared.number.Number.{Number}
use Rattle.xc_lex.specs.Numbers.{number_of}
use Rattle.xc_text_place.specs.Stretches.{stretch_eq}

-- each of these stretches has the constant that it spells
abbrev pub AreConstants : List ℕ → List ((ℕ × ℕ) × Option Number) → Type 0
AreConstants source known = (p : ℕ × ℕ) (number : Option Number) → lookup (stretch_eq p) known ≡ Some number → number ≡ number_of (slice_range source p.0 p.1)
