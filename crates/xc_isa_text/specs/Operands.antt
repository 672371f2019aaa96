-- Registers, numbers and states as words of a line.
use Rattle.std.specs.Prelude.{ℕ, zero, suc, ◌<◌, ◌^◌, List, [], ◌∷◌, Option, Some, None, codes}
use Rattle.std.proofs.Common.{Bor}
use Rattle.std.specs.Int.{w64, cast_signed}
use Rattle.std.specs.Fmt.{decimal, signed_decimal}
use Rattle.xc_text_lines.specs.Lines.{words_of}

-- what stands at a place of a line
pub data Slot : Type 0 where
  -- a register
  Register : Slot
  -- a number of 32 bits
  Number : Slot
  -- a word of 64 bits
  Value : Slot
  -- a word of 64 bits, written as a signed number
  Signed : Slot
  -- full, which is 1, or empty, which is 0
  State : Slot

-- what the numbers there stay below
abbrev pub limit_of : Slot → ℕ
limit_of Register = 32
limit_of Number = 2 ^ 32
limit_of Value = 2 ^ 64
limit_of Signed = 2 ^ 64
limit_of State = 2

abbrev pub state_word : ℕ → List ℕ
state_word zero = codes "empty"
state_word (suc n) = codes "full"

-- how a number is written there
abbrev pub word_in : Slot → ℕ → List ℕ
word_in Register n = decimal n
word_in Number n = decimal n
word_in Value n = decimal n
word_in Signed n = signed_decimal (cast_signed w64 n)
word_in State n = state_word n

abbrev pub words_in : List Slot → List ℕ → List (List ℕ)
words_in [] ns = []
words_in (s ∷ ss) [] = []
words_in (s ∷ ss) (n ∷ ns) = word_in s n ∷ words_in ss ns

-- as many numbers as places, each below its limit
abbrev pub AreBelow : List Slot → List ℕ → Type 0
AreBelow [] [] = Unit {0}
AreBelow [] (n ∷ ns) = ⊥
AreBelow (s ∷ ss) [] = ⊥
AreBelow (s ∷ ss) (n ∷ ns) = (n < limit_of s) × AreBelow ss ns

-- the words of what is left of a line
abbrev pub words_left : Option (Bor (List ℕ)) → List (List ℕ)
words_left None = []
words_left (Some line) = words_of line.now
