-- The integer constants among the tokens of a text.
use Rattle.std.specs.Prelude.{ℕ, ◌&&◌, nat_eq, Bool, true, false, if◌then◌else◌, List, map, Option, None, option_and_then, slice_get, slice_range}
use Rattle.xc_lex.specs.declared.token.Token.{Token}
use Rattle.xc_lex.specs.declared.token.TokenKind.{TokenKind}
use Rattle.xc_lex.specs.declared.token.TokenKind.TheVariants as kind
use Rattle.xc_lex.specs.declared.number.Number.{Number}
use Rattle.xc_lex.specs.Numbers.{number_of}

abbrev pub is_number_kind : TokenKind → Bool
is_number_kind kind.Number = true
is_number_kind _ = false

-- the constant that a token's text spells
abbrev pub number_in : List ℕ → Token → Option Number
number_in source t = if is_number_kind t.kind then number_of (slice_range source t.text.start t.text.end) else None

-- that of each token
abbrev pub constants_of : List ℕ → List Token → List (Option Number)
constants_of source ts = map (number_in source) ts

abbrev pub constant_at : List (Option Number) → ℕ → Option Number
constant_at numbers n = option_and_then (λ k. k) (slice_get numbers n)
