-- Words as numbers.
use Rattle.std.proofs.Common.{◌≡◌, ℕ, suc, ◌+◌, ◌-◌, ◌%◌, ◌^◌, ◌<◌, ◌≤◌, ℤ, pos, negsuc, ◌+ℤ◌, ◌≤ℤ◌, ◌⊎◌, inl, inr, ⊎_elim, sym, ap, ◌∙◌, arith}
use Rattle.std.specs.Int.{w64}
use Rattle.std.proofs.lemmas.Int.{ints}
use Rattle.std.proofs.Math.Facts.{to_z_pos, to_z-neg}
use Rattle.xc_word.specs.Numbers.{signed}
use Rattle.xc_tree_words.specs.Words.{difference}
use Rattle.xc_meaning_exact.specs.Exact.{IsInt}

-- a word below 2^63 is its number, and any other one is 2^64 more than it
pub signed_low : (n : ℕ) → n < 2 ^ 63 → signed n ≡ pos n
signed_low n h = to_z_pos w64 h

pub signed_high : (n : ℕ) → 2 ^ 63 ≤ n → n < 2 ^ 64 → signed n ≡ negsuc (2 ^ 64 - suc n)
signed_high n h g = ap signed same ∙ to_z-neg w64 (2 ^ 64 - suc n) (omega (arith, h, g)) where
  same : n ≡ 2 ^ 64 - suc (2 ^ 64 - suc n)
  same = omega (arith, h, g)

pub by_half : (n : ℕ) → (n < 2 ^ 63) ⊎ (2 ^ 63 ≤ n)
by_half n = grind arith

-- the number that a word stands for
pub sign_of : (n : ℕ) → n < 2 ^ 64 → ((signed n ≡ pos n) × (n < 2 ^ 63)) ⊎ ((signed n +ℤ pos (2 ^ 64) ≡ pos n) × (2 ^ 63 ≤ n))
sign_of n h = ⊎_elim (λ l. inl (signed_low n l, l)) (λ g. inr (let e = signed_high n g h in omega (arith, ints, e, g, h), g)) (by_half n)

-- a number of type Int is that of the word that it equals but for 2^64
pub signed_is : (n : ℕ) (z : ℤ) → n < 2 ^ 64 → IsInt z → (z ≡ pos n) ⊎ (z +ℤ pos (2 ^ 64) ≡ pos n) → signed n ≡ z
signed_is n z h (low, high) (inl e) = ⊎_elim (λ s. s.0 ∙ sym e) (λ s. let big = s.1 in omega (arith, ints, e, big, high)) (sign_of n h)
signed_is n z h (low, high) (inr e) = ⊎_elim (λ s. let small = s.1 in omega (arith, ints, e, small, low)) (λ s. let is = s.0 in omega (arith, ints, is, e)) (sign_of n h)

-- a sum modulo 2^64
pub wrapped : (n : ℕ) → n < 2 ^ 65 → (n % 2 ^ 64 ≡ n) ⊎ (n % 2 ^ 64 + 2 ^ 64 ≡ n)
wrapped n h = grind arith

-- signed, the difference of a larger and a smaller number is exact
pub difference_exact : (a b : ℕ) → a < 2 ^ 64 → b < 2 ^ 64 → signed b ≤ℤ signed a → signed b +ℤ pos (difference a b) ≡ signed a
difference_exact a b h g le = ⊎_elim
    (λ sa. ⊎_elim (λ sb. first sa.0 sa.1 sb.0 sb.1) (λ sb. second sa.0 sa.1 sb.0 sb.1) (sign_of b g))
    (λ sa. ⊎_elim (λ sb. third sa.0 sa.1 sb.0 sb.1) (λ sb. fourth sa.0 sa.1 sb.0 sb.1) (sign_of b g))
    (sign_of a h) where
      first : signed a ≡ pos a → a < 2 ^ 63 → signed b ≡ pos b → b < 2 ^ 63 → signed b +ℤ pos (difference a b) ≡ signed a
      first ea ha eb hb = omega (arith, ints, ea, ha, eb, hb, le)

      second : signed a ≡ pos a → a < 2 ^ 63 → signed b +ℤ pos (2 ^ 64) ≡ pos b → 2 ^ 63 ≤ b → signed b +ℤ pos (difference a b) ≡ signed a
      second ea ha eb hb = omega (arith, ints, ea, ha, eb, hb, le, g)

      third : signed a +ℤ pos (2 ^ 64) ≡ pos a → 2 ^ 63 ≤ a → signed b ≡ pos b → b < 2 ^ 63 → signed b +ℤ pos (difference a b) ≡ signed a
      third ea ha eb hb = absurd (omega (arith, ints, ea, ha, eb, hb, le, h))

      fourth : signed a +ℤ pos (2 ^ 64) ≡ pos a → 2 ^ 63 ≤ a → signed b +ℤ pos (2 ^ 64) ≡ pos b → 2 ^ 63 ≤ b → signed b +ℤ pos (difference a b) ≡ signed a
      fourth ea ha eb hb = omega (arith, ints, ea, ha, eb, hb, le, g, h)
