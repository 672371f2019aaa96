-- What only private functions and proofs speak of, beside `Operands`.
use Rattle.std.specs.Prelude.{ℕ, ◌^◌, List, [], ◌∷◌, ◌++◌, Option, Some, None, codes, if◌then◌else◌}
use Rattle.std.specs.Int.{w64, cast_unsigned}
use Rattle.std.specs.Option.{option_map, option_and_then}
use Rattle.std.specs.Str.{bytes_eq}
use Rattle.xc_text_lines.specs.Numbers.{number_of, signed_of}
use Rattle.xc_isa_text.specs.Operands.{Slot, Register, Number, Value, Signed, State}

-- the end of a line behind its first word
abbrev pub tail_of : List (List ℕ) → List ℕ
tail_of [] = 10 ∷ []
tail_of (w ∷ ws) = 32 ∷ w ++ tail_of ws

-- ---- reading

abbrev pub state_of : List ℕ → Option ℕ
state_of word = if bytes_eq word (codes "full") then Some 1 else if bytes_eq word (codes "empty") then Some 0 else None

-- the number that a word spells there
abbrev pub number_in : Slot → List ℕ → Option ℕ
number_in Register word = number_of 32 word
number_in Number word = number_of (2 ^ 32) word
number_in Value word = number_of (2 ^ 64) word
number_in Signed word = option_map (λ z. cast_unsigned w64 z) (signed_of word)
number_in State word = state_of word

-- the number that the first word spells, and the words after it
abbrev pub first_in : Slot → List (List ℕ) → Option (ℕ × List (List ℕ))
first_in s [] = None
first_in s (w ∷ ws) = option_map (λ n. (n, ws)) (number_in s w)

abbrev pub none_left : List (List ℕ) → Option (List ℕ)
none_left [] = Some []
none_left (w ∷ ws) = None

-- the numbers that words spell at these places
abbrev pub numbers_in : List Slot → List (List ℕ) → Option (List ℕ)
numbers_in [] ws = none_left ws
numbers_in (s ∷ ss) ws = option_and_then (λ (p : ℕ × List (List ℕ)). option_map (λ (ns : List ℕ). p.0 ∷ ns) (numbers_in ss p.1)) (first_in s ws)
