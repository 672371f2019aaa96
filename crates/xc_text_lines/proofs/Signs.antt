-- Numbers with a sign.
use Rattle.std.proofs.Common.{◌≡◌, ◌≢◌, ℕ, ℤ, zero, suc, pos, negsuc, ◌+◌, ◌^◌, ◌<◌, Bool, true, false, cond, eqb, get_or, lit≤, List, [], ◌∷◌, Option, Some, None, refl, sym, ap, subst, ◌∙◌, arith}
use Rattle.std.specs.Fmt.{decimal, signed_decimal}
use Rattle.std.specs.Option.{option_map}
use Rattle.std.proofs.lemmas.Bool.{eqb-true}
use Rattle.std.proofs.lemmas.Bool.Decides.{nat_tests}
use Rattle.std.proofs.lemmas.Fmt.{decimal_digit, first_decimal}
use lib.Signed.{mag}
use Rattle.xc_text_lines.specs.Numbers.{number_of, negative_of, signed_of}
use Rattle.xc_text_lines.proofs.Numerals.{number_spells, number_decimal}
use Rattle.xc_text_lines.proofs.Joins.{IsWord, decimal_word}

-- a word that does not begin with `-`
pub signed_plain : (w : List ℕ) → get_or w 0 0 ≢ 45 → signed_of w ≡ option_map pos (number_of (2 ^ 63) w)
unfolding number_of
signed_plain [] h = refl
signed_plain (c ∷ w) h =
    let other : eqb c 45 ≡ false = grind (arith, nat_tests, h) in
    rw other refl

-- what a word with `-` spells
negative_spells : (w : List ℕ) (o : Option ℕ) (z : ℤ) → number_of (2 ^ 63 + 1) w ≡ o → negative_of o ≡ Some z → (45 ∷ w ≡ signed_decimal z) × (mag z < 2 ^ 63)
negative_spells w None z e h = absurd cc
negative_spells w (Some zero) z e h = absurd cc
negative_spells w (Some (suc n)) z e h =
    let s = number_spells (2 ^ 63 + 1) w (suc n) (lit≤ tt) e in
    let is : negsuc n ≡ z = cc in
    let small : n < 2 ^ 63 = omega (arith, s.1) in
    subst (λ x. (45 ∷ w ≡ signed_decimal x) × (mag x < 2 ^ 63)) is (ap (λ (x : List ℕ). 45 ∷ x) (sym s.0), small)

plain_spells : (w : List ℕ) (o : Option ℕ) (z : ℤ) → number_of (2 ^ 63) w ≡ o → option_map pos o ≡ Some z → (w ≡ signed_decimal z) × (mag z < 2 ^ 63)
plain_spells w None z e h = absurd cc
plain_spells w (Some n) z e h =
    let s = number_spells (2 ^ 63) w n (lit≤ tt) e in
    let is : pos n ≡ z = cc in
    subst (λ x. (w ≡ signed_decimal x) × (mag x < 2 ^ 63)) is (sym s.0, s.1)

either_spells : (c : ℕ) (w : List ℕ) (z : ℤ) (b : Bool) → eqb c 45 ≡ b → cond b (negative_of (number_of (2 ^ 63 + 1) w)) (option_map pos (number_of (2 ^ 63) (c ∷ w))) ≡ Some z → (c ∷ w ≡ signed_decimal z) × (mag z < 2 ^ 63)
either_spells c w z true e h =
    let n = negative_spells w (number_of (2 ^ 63 + 1) w) z refl h in
    (ap (λ x. x ∷ w) (eqb-true c 45 e) ∙ n.0, n.1)
either_spells c w z false e h = plain_spells (c ∷ w) (number_of (2 ^ 63) (c ∷ w)) z refl h

-- a number with a sign spells itself in decimal
pub signed_spells : (w : List ℕ) (z : ℤ) → signed_of w ≡ Some z → (w ≡ signed_decimal z) × (mag z < 2 ^ 63)
signed_spells [] z h = absurd cc
signed_spells (c ∷ w) z h = either_spells c w z (eqb c 45) refl h

no_minus : (n : ℕ) → n < 2 ^ 63 → get_or (decimal n) 0 0 ≢ 45
no_minus zero h e = absurd (omega (arith, e, ap (λ (x : List ℕ). get_or x 0 0) (decimal_digit 0 (omega arith))))
no_minus (suc n) h e = absurd (omega (arith, first_decimal (suc n) (omega arith) (omega arith), e))

-- a number with a sign in decimal is read again
pub signed_again : (z : ℤ) → mag z < 2 ^ 63 → signed_of (signed_decimal z) ≡ Some z
signed_again (pos n) h = signed_plain (decimal n) (no_minus n h) ∙ ap (option_map pos) (number_decimal (2 ^ 63) n (lit≤ tt) h)
signed_again (negsuc n) h = ap negative_of (number_decimal (2 ^ 63 + 1) (suc n) (lit≤ tt) (omega arith))

-- and is a word
pub signed_word : (z : ℤ) → mag z < 2 ^ 63 → IsWord (signed_decimal z)
signed_word (pos n) h = decimal_word n (omega arith)
signed_word (negsuc n) h = decimal_word (suc n) (omega arith)
