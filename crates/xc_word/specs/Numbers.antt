-- The numbers that words of 64 bits stand for.
use Rattle.std.specs.Prelude.{ℕ, ℤ, Bool, cond}
use Rattle.std.specs.Int.{w64, cast_signed, cast_unsigned}

-- the signed number that a word stands for, in two's complement, and its word
abbrev pub signed : ℕ → ℤ
signed x = cast_signed w64 x

abbrev pub word : ℤ → ℕ
word z = cast_unsigned w64 z

-- what a comparison gives (C99 6.5.8)
abbrev pub truth : Bool → ℕ
truth holds = cond holds 1 0
