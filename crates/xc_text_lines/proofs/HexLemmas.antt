-- Bytes as words of hexadecimal digits in lower case.
use Rattle.std.proofs.Common.{◌≡◌, ℕ, zero, suc, ◌+◌, ◌*◌, ◌/◌, ◌%◌, ◌<◌, ◌&&◌, ◌||◌, not, inl, inr, Bool, true, false, cond, eqb, slice_index, List, [], ◌∷◌, length, Option, Some, None, unwrap_or, Result, Ok, Err, refl, sym, ap, subst, ◌∙◌, arith}
use Rattle.std.specs.List.{list_all}
use Rattle.std.specs.Option.{option_map}
use Rattle.std.specs.Result.{result_ok}
use Rattle.std.specs.Str.{bytes_eq}
use Rattle.std.proofs.lemmas.Bool.{and_parts, cases_lt, eqb-true}
use Rattle.std.proofs.lemmas.Bool.Decides.{nat_tests}
use Rattle.std.proofs.lemmas.Slice.Eq.{bytes_eq-Decides}
use Rattle.hex.specs.Hex.{lower_digits, encode_with, encode_lower, hex_digit_value, value_at, digit_or_error, pair_value, decode_pairs, decode_of, IsBytes, ◌>>=◌}
use Rattle.hex.specs.declared.error.FromHexError.{FromHexError}
use Rattle.hex.proofs.HexLemmas.{decode_of-even, decode_of-ok, decode_of-encode_lower, length-encode_with}
use Rattle.xc_text_lines.specs.HexWords.{none_word, hex_word, is_lower_digit, bytes_of}
use Rattle.xc_text_lines.proofs.Joins.{IsWord}

-- ---- tests that compute

abbrev holds_below : (ℕ → Bool) → ℕ → Bool
holds_below p zero = true
holds_below p (suc n) = p n && holds_below p n

below_at : (p : ℕ → Bool) (n k : ℕ) → holds_below p n ≡ true → k < n → p k ≡ true
below_at p zero k h lt = absurd (omega arith)
below_at p (suc n) k h lt =
    let parts = and_parts (p n) (holds_below p n) h in
    elim (cases_lt k n) [
      | inl below ↦ below_at p n k parts.1 below
      | inr top ↦
          let e : k ≡ n = omega arith in
          rw e parts.0
    ]

abbrev is_back : ℕ → Option ℕ → Bool
is_back c o = eqb (unwrap_or (option_map (λ v. slice_index lower_digits v) o) 256) c

abbrev reads_back : ℕ → Bool
reads_back c = not (is_lower_digit c) || is_back c (hex_digit_value c)

lower_small : (c : ℕ) → is_lower_digit c ≡ true → c < 103
lower_small c h = grind (arith, nat_tests, h)

back_is : (c v : ℕ) (b : Bool) (o : Option ℕ) → b ≡ true → (not b || is_back c o) ≡ true → o ≡ Some v → slice_index lower_digits v ≡ c
back_is c v true (Some w) e h s =
    let same : w ≡ v = cc in
    ap (λ x. slice_index lower_digits x) (sym same) ∙ eqb-true _ _ h
back_is c v true None e h s = absurd cc
back_is c v false o e h s = absurd cc

-- a digit in lower case is the digit of its value
lower_back : (c v : ℕ) → is_lower_digit c ≡ true → hex_digit_value c ≡ Some v → slice_index lower_digits v ≡ c
lower_back c v h e = back_is c v (is_lower_digit c) (hex_digit_value c) h (below_at reads_back 103 c refl (lower_small c h)) e

lower_digit : (v : ℕ) → v < 16 → is_lower_digit (slice_index lower_digits v) ≡ true
lower_digit v h = below_at (λ x. is_lower_digit (slice_index lower_digits x)) 16 v refl h

no_space : (c : ℕ) → is_lower_digit c ≡ true → eqb c 32 ≡ false
no_space c h = grind (arith, nat_tests, h)

no_feed : (c : ℕ) → is_lower_digit c ≡ true → eqb c 10 ≡ false
no_feed c h = grind (arith, nat_tests, h)

-- ---- digits of bytes

bytes_tail : (b : ℕ) (bs : List ℕ) → IsBytes (b ∷ bs) → IsBytes bs
bytes_tail b bs h i = h (suc i)

digits_lower : (bs : List ℕ) → IsBytes bs → list_all is_lower_digit (encode_lower bs) ≡ true
unfolding encode_with
digits_lower [] h = refl
digits_lower (b ∷ bs) h =
    let byte : b < 256 = h 0 in
    rw (lower_digit (b / 16) (omega arith), lower_digit (b % 16) (omega arith)) (digits_lower bs (bytes_tail b bs h))

digits_word : (w : List ℕ) → list_all is_lower_digit w ≡ true → IsWord w
digits_word [] h = (refl, refl)
digits_word (c ∷ w) h =
    let parts = and_parts (is_lower_digit c) (list_all is_lower_digit w) h in
    let rest = digits_word w parts.1 in
    (rw (no_space c parts.0, rest.0) refl, rw (no_feed c parts.0, rest.1) refl)

-- the word of some bytes is a word
pub hex_word_word : (bs : List ℕ) → IsBytes bs → IsWord (hex_word bs)
hex_word_word [] h = (refl, refl)
hex_word_word (b ∷ bs) h = digits_word (encode_lower (b ∷ bs)) (digits_lower (b ∷ bs) h)

-- ---- bytes of digits

value_is : (c i v : ℕ) (o : Option ℕ) → digit_or_error c i o ≡ Ok v → o ≡ Some v
value_is c i v (Some w) h = let same : w ≡ v = cc in ap Some same
value_is c i v None h = absurd cc

bound : {A B : Type 0} (r : Result A FromHexError) (f : A → Result B FromHexError) (y : B) → (r >>= f) ≡ Ok y → (x : A) × (r ≡ Ok x) × (f x ≡ Ok y)
bound (Ok x) f y h = (x, refl, h)
bound (Err e) f y h = absurd cc

nibbles : (h l : ℕ) → l < 16 → ((h * 16 + l) / 16 ≡ h) × ((h * 16 + l) % 16 ≡ l)
nibbles h l lt = (omega arith, omega arith)

value_small : (c v : ℕ) → hex_digit_value c ≡ Some v → v < 16
value_small c v h = grind (arith)

encode_back : (i : ℕ) (w bs : List ℕ) → list_all is_lower_digit w ≡ true → decode_pairs i w ≡ Ok bs → w ≡ encode_lower bs
unfolding decode_pairs encode_with
encode_back i [] bs h e = let same : [] ≡ bs = cc in subst (λ (x : List ℕ). [] ≡ encode_lower x) same refl
encode_back i (a ∷ []) bs h e = absurd cc
encode_back i (a ∷ b ∷ w) bs h e =
    let pa = and_parts (is_lower_digit a) (is_lower_digit b && list_all is_lower_digit w) h in
    let pb = and_parts (is_lower_digit b) (list_all is_lower_digit w) pa.1 in
    let byte = bound (pair_value a b i) _ bs e in
    let high = bound (value_at a i) _ byte.0 byte.1 in
    let low = bound (value_at b (i + 1)) _ byte.0 high.2 in
    let rest = bound (decode_pairs (i + 2) w) _ bs byte.2 in
    let va = value_is a i high.0 (hex_digit_value a) high.1 in
    let vb = value_is b (i + 1) low.0 (hex_digit_value b) low.1 in
    let is : byte.0 ≡ high.0 * 16 + low.0 = sym (cc (low.2)) in
    let n = nibbles high.0 low.0 (value_small b low.0 vb) in
    let first : slice_index lower_digits (byte.0 / 16) ≡ a = ap (λ x. slice_index lower_digits (x / 16)) is ∙ ap (λ x. slice_index lower_digits x) n.0 ∙ lower_back a high.0 pa.0 va in
    let second : slice_index lower_digits (byte.0 % 16) ≡ b = ap (λ x. slice_index lower_digits (x % 16)) is ∙ ap (λ x. slice_index lower_digits x) n.1 ∙ lower_back b low.0 pb.0 vb in
    let tail = encode_back (i + 2) w rest.0 pb.1 rest.1 in
    let all : byte.0 ∷ rest.0 ≡ bs = cc (rest.2) in
    subst (λ (x : List ℕ). a ∷ b ∷ w ≡ encode_lower x) all (rw (first, second) (ap (λ (x : List ℕ). a ∷ b ∷ x) tail))

ok_of : (r : Result (List ℕ) FromHexError) (bs : List ℕ) → result_ok r ≡ Some bs → r ≡ Ok bs
ok_of (Ok x) bs h = let same : x ≡ bs = cc in ap Ok same
ok_of (Err e) bs h = absurd cc

-- digits that are there spell bytes that are there
word_of : (w bs : List ℕ) → 0 < length w → length w ≡ 2 * length bs → w ≡ encode_lower bs → w ≡ hex_word bs
word_of w [] some len e = absurd (omega arith)
word_of w (b ∷ bs) some len e = e

decoded_spells : (w bs : List ℕ) → (not (eqb (length w) 0) && list_all is_lower_digit w) ≡ true → result_ok (decode_of w) ≡ Some bs → (w ≡ hex_word bs) × IsBytes bs
decoded_spells w bs t h =
    let parts = and_parts (not (eqb (length w) 0)) (list_all is_lower_digit w) t in
    let ok = ok_of (decode_of w) bs h in
    let of = decode_of-ok w bs ok in
    let some : 0 < length w = grind (arith, nat_tests, parts.0) in
    (word_of w bs some of.2 (encode_back 0 w bs parts.1 (sym (decode_of-even w of.0) ∙ ok)), of.3)

digits_spell : (w bs : List ℕ) (t : Bool) → (not (eqb (length w) 0) && list_all is_lower_digit w) ≡ t → cond t (result_ok (decode_of w)) None ≡ Some bs → (w ≡ hex_word bs) × IsBytes bs
digits_spell w bs true e h = decoded_spells w bs e h
digits_spell w bs false e h = absurd cc

either_spells : (w bs : List ℕ) (b : Bool) → bytes_eq w none_word ≡ b
    → cond b (Some []) (cond (not (eqb (length w) 0) && list_all is_lower_digit w) (result_ok (decode_of w)) None) ≡ Some bs → (w ≡ hex_word bs) × IsBytes bs
either_spells w bs true e h =
    let none : [] ≡ bs = cc in
    let is : w ≡ none_word = (bytes_eq-Decides w none_word).0 e in
    subst (λ (x : List ℕ). (w ≡ hex_word x) × IsBytes x) none (is, λ i. omega arith)
either_spells w bs false e h = digits_spell w bs _ refl h

-- a word spells bytes whose word it is
pub bytes_spell : (w bs : List ℕ) → bytes_of w ≡ Some bs → (w ≡ hex_word bs) × IsBytes bs
unfolding bytes_of
bytes_spell w bs h = either_spells w bs _ refl h

and_false : (b : Bool) → (b && false) ≡ false
and_false true = refl
and_false false = refl

-- two digits are no dash
no_dash : (b : ℕ) (bs : List ℕ) → bytes_eq (encode_lower (b ∷ bs)) none_word ≡ false
unfolding encode_with
no_dash b bs = and_false (eqb (slice_index lower_digits (b / 16)) 45)

-- the word of some bytes spells them
pub bytes_again : (bs : List ℕ) → IsBytes bs → bytes_of (hex_word bs) ≡ Some bs
unfolding bytes_of
bytes_again [] h = refl
bytes_again (b ∷ bs) h =
    let some : eqb (length (encode_lower (b ∷ bs))) 0 ≡ false = grind (arith, nat_tests, length-encode_with lower_digits (b ∷ bs)) in
    rw (no_dash b bs, some, digits_lower (b ∷ bs) h, decode_of-encode_lower (b ∷ bs) h) refl
