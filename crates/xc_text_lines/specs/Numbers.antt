-- Decimal numbers without leading zeros, below a limit.
use Rattle.std.specs.Prelude.{ℕ, ℤ, pos, negsuc, zero, suc, ◌+◌, ◌^◌, ◌==◌, Bool, ◌&&◌, ◌||◌, not, List, [], ◌∷◌, length, Option, Some, None, nat_lt, slice_index, if◌then◌else◌}
use Rattle.std.specs.Char.{is_ascii_digit}
use Rattle.std.specs.List.{list_all}
use Rattle.std.specs.Option.{option_map}
use Rattle.std.specs.Str.Parse.{digits_value}

-- digits that are there, with no zero in front
abbrev pub is_plain : List ℕ → Bool
is_plain word = (not (length word == 0) && list_all is_ascii_digit word) && (not (slice_index word 0 == 48) || length word == 1)

-- the number below the limit that a word spells, where it spells one
unfoldable pub number_of : ℕ → List ℕ → Option ℕ
number_of limit word = if is_plain word && nat_lt (digits_value 10 word) limit then Some (digits_value 10 word) else None

-- the negative number of a size that is not 0
abbrev pub negative_of : Option ℕ → Option ℤ
negative_of None = None
negative_of (Some zero) = None
negative_of (Some (suc n)) = Some (negsuc n)

-- the number from -2^63 to 2^63 - 1 that a word spells, with `-`, which is 45, only before a negative one
abbrev pub signed_of : List ℕ → Option ℤ
signed_of [] = None
signed_of (c ∷ word) = if c == 45 then negative_of (number_of (2 ^ 63 + 1) word) else option_map pos (number_of (2 ^ 63) (c ∷ word))
