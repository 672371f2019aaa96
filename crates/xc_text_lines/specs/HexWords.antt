-- Bytes as a word: two hexadecimal digits in lower case for each, or `-` for none.
use Rattle.std.specs.Prelude.{ℕ, Bool, ◌&&◌, ◌||◌, ◌==◌, not, nat_le, List, [], ◌∷◌, length, codes, Option, Some, None, if◌then◌else◌}
use Rattle.std.specs.Char.{is_ascii_digit}
use Rattle.std.specs.List.{list_all}
use Rattle.std.specs.Result.{result_ok}
use Rattle.std.specs.Str.{bytes_eq}
use Rattle.hex.specs.Hex.{encode_lower, decode_of}

abbrev pub none_word : List ℕ
none_word = codes "-"

-- the word of some bytes
abbrev pub hex_word : List ℕ → List ℕ
hex_word [] = none_word
hex_word (b ∷ bytes) = encode_lower (b ∷ bytes)

-- `0` to `9` and `a` to `f`
abbrev pub is_lower_digit : ℕ → Bool
is_lower_digit c = is_ascii_digit c || (nat_le 97 c && nat_le c 102)

-- the bytes that a word spells, where it spells some
unfoldable pub bytes_of : List ℕ → Option (List ℕ)
bytes_of word =
    if bytes_eq word none_word then Some []
    else if not (length word == 0) && list_all is_lower_digit word then result_ok (decode_of word)
    else None
