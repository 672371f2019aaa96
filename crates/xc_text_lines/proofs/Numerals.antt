-- What a plain word spells.
use Rattle.std.proofs.Common.{◌≡◌, ℕ, zero, suc, inl, inr, ◌^◌, ◌<◌, ◌≤◌, Bool, true, false, ltb, eqb, cond, get_or, not, ◌&&◌, ◌||◌, List, [], ◌∷◌, length, Option, Some, None, Result, Ok, Err, refl, sym, ap, subst, ◌∙◌, arith}
use Rattle.std.specs.Fmt.{decimal}
use Rattle.std.specs.Char.{is_ascii_digit}
use Rattle.std.specs.List.{list_all}
use Rattle.std.proofs.lemmas.Bool.{and_parts, eqb-true, ltb-true, lt-ltb, le-ltb, cases_lt}
use Rattle.std.proofs.lemmas.Bool.Decides.{nat_tests}
use Rattle.std.proofs.lemmas.Option.{cond_some}
use Rattle.std.specs.Result.{OkIff}
use Rattle.std.specs.Str.{IsUtf8}
use Rattle.std.proofs.lemmas.Str.{IsUtf8-from_ascii}
use Rattle.std.specs.Result.{result_ok}
use Rattle.std.specs.Str.{all_ascii_digits}
use Rattle.std.specs.Str.Parse.{digits_value, ParsesUnsigned}
use Rattle.std.proofs.lemmas.Str.Parse.{IsNumeralModel, numerals_by_value, tells_all_ascii_digits, parse_digits}
use Rattle.std.proofs.lemmas.Fmt.{decimal_digit, decimal-digits_value, digits_decimal, digits_value-decimal, decimal_nonempty, first_decimal, IsAscii-from_digits}
use Rattle.xc_text_lines.specs.Numbers.{is_plain, number_of}

pub own : IsNumeralModel (λ ds. all_ascii_digits ds ≡ true) (digits_value 10)
own = numerals_by_value _ tells_all_ascii_digits

digits_same : (w : List ℕ) → list_all is_ascii_digit w ≡ all_ascii_digits w
digits_same [] = refl
digits_same (c ∷ cs) = ap (λ b. is_ascii_digit c && b) (digits_same cs)

pub not_plain : (limit : ℕ) (w : List ℕ) → is_plain w ≡ false → None ≡ number_of limit w
unfolding number_of
not_plain limit w e = rw e refl

-- the parts of the test
pub record Plain (w : List ℕ) : Type 0 where
  pub digits : all_ascii_digits w ≡ true
  pub some : 0 < length w
  pub front : get_or w 0 0 ≡ 48 → length w ≡ 1

pub plain_parts : (w : List ℕ) → is_plain w ≡ true → Plain w
plain_parts w e =
    let p = and_parts (not (eqb (length w) 0) && list_all is_ascii_digit w) (not (eqb (get_or w 0 0) 48) || eqb (length w) 1) e in
    let q = and_parts (not (eqb (length w) 0)) (list_all is_ascii_digit w) p.0 in
    record { digits = sym (digits_same w) ∙ q.1; some = grind (arith, nat_tests, q.0); front = λ z. grind (arith, nat_tests, p.1) }

front_is : (a b : Bool) → (a ≡ true → b ≡ true) → (not a || b) ≡ true
front_is true b h = h refl
front_is false b h = refl

pub plain_from : (w : List ℕ) → Plain w → is_plain w ≡ true
plain_from w p =
    let some : eqb (length w) 0 ≡ false = grind (arith, nat_tests, p.some) in
    let digits : list_all is_ascii_digit w ≡ true = digits_same w ∙ p.digits in
    rw (some, digits) (front_is (eqb (get_or w 0 0) 48) (eqb (length w) 1) (λ e. grind (arith, nat_tests, p.front (eqb-true _ _ e))))

-- a number spells itself in decimal
pub number_spells : (limit : ℕ) (w : List ℕ) (n : ℕ) → limit ≤ 2 ^ 64 → number_of limit w ≡ Some n → (decimal n ≡ w) × (n < limit)
unfolding number_of
number_spells limit w n le e =
    let s = cond_some (is_plain w && ltb (digits_value 10 w) limit) (digits_value 10 w) n e in
    let t = and_parts (is_plain w) (ltb (digits_value 10 w) limit) s.0 in
    let p = plain_parts w t.0 in
    let small : digits_value 10 w < limit = ltb-true _ _ t.1 in
    let fits : digits_value 10 w < 2 ^ 64 = omega arith in
    subst (λ m. (decimal m ≡ w) × (m < limit)) s.1 (decimal-digits_value own w p.digits p.some p.front fits, small)

one_zero : (n : ℕ) → n < 2 ^ 64 → get_or (decimal n) 0 0 ≡ 48 → length (decimal n) ≡ 1
one_zero zero h z = ap length (decimal_digit 0 (omega arith))
one_zero (suc n) h z = absurd (omega (arith, first_decimal (suc n) (omega arith) h, z))

chosen : {E : Type 0} (w : List ℕ) (r : Result ℕ E) → OkIff r ((0 < length w) × (digits_value 10 w < 2 ^ 64)) (digits_value 10 w) → Plain w → is_plain w ≡ true → result_ok r ≡ number_of (2 ^ 64) w
unfolding number_of
chosen w (Ok n) h p e = rw (e, lt-ltb (digits_value 10 w) (2 ^ 64) h.0.1) (ap Some h.1)
chosen w (Err x) h p e =
    elim (cases_lt (digits_value 10 w) (2 ^ 64)) [
      | inl lt ↦ absurd (h (p.some, lt))
      | inr le ↦ rw (e, le-ltb (digits_value 10 w) (2 ^ 64) le) refl
    ]

-- a number in decimal is read again
pub number_decimal : (limit n : ℕ) → limit ≤ 2 ^ 64 → n < limit → number_of limit (decimal n) ≡ Some n
unfolding number_of
number_decimal limit n le lt =
    let h : n < 2 ^ 64 = omega arith in
    let value : digits_value 10 (decimal n) ≡ n = digits_value-decimal own n h in
    let plain = plain_from (decimal n) (record { digits = digits_decimal own n h; some = decimal_nonempty n h; front = λ z. one_zero n h z }) in
    rw (plain, value, lt-ltb n limit lt) refl

pub is_parsed : {E : Type 0} (w : List ℕ) (r : Result ℕ E) → ParsesUnsigned 64 10 w r → is_plain w ≡ true → result_ok r ≡ number_of (2 ^ 64) w
is_parsed w r h e =
    let p = plain_parts w e in
    chosen w r (parse_digits own 64 w r h p.digits) p e

pub is_text : (w : List ℕ) → is_plain w ≡ true → IsUtf8 w
is_text w e = IsUtf8-from_ascii w (IsAscii-from_digits w (own.to w (plain_parts w e).digits))

-- ---- a smaller limit

-- a number below 2^64, where it is below a limit
abbrev pub under : ℕ → Option ℕ → Option ℕ
under limit None = None
under limit (Some n) = cond (ltb n limit) (Some n) None

limited : (limit v : ℕ) (b : Bool) → limit ≤ 2 ^ 64 → under limit (cond (b && ltb v (2 ^ 64)) (Some v) None) ≡ cond (b && ltb v limit) (Some v) None
limited limit v false le = refl
limited limit v true le =
    elim (cases_lt v (2 ^ 64)) [
      | inl lt ↦ rw (lt-ltb v (2 ^ 64) lt) refl
      | inr ge ↦
          let past : limit ≤ v = omega arith in
          rw (le-ltb v (2 ^ 64) ge, le-ltb v limit past) refl
    ]

-- a number below a smaller limit is a number below 2^64
pub smaller : (limit : ℕ) (w : List ℕ) (o : Option ℕ) → limit ≤ 2 ^ 64 → o ≡ number_of (2 ^ 64) w → number_of limit w ≡ under limit o
unfolding number_of
smaller limit w o le e = sym (ap (under limit) e ∙ limited limit (digits_value 10 w) (is_plain w) le)
