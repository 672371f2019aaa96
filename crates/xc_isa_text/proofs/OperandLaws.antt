-- Words spell the numbers of their places, and numbers their words.
use Rattle.std.proofs.Common.{◌≡◌, ℕ, ℤ, zero, suc, pos, negsuc, ◌^◌, ◌<◌, ◌≤◌, lit≤, inl, inr, cond, Bool, true, false, List, [], ◌∷◌, Option, Some, None, refl, sym, ap, subst, ◌∙◌, arith}
use Rattle.std.specs.Fmt.{decimal, signed_decimal}
use Rattle.std.specs.Int.{w64, cast_signed, cast_unsigned}
use Rattle.std.specs.List.{AllByRecursion}
use Rattle.std.specs.Option.{option_map, option_and_then}
use Rattle.std.specs.Str.{bytes_eq}
use Rattle.std.specs.Prelude.{codes}
use Rattle.std.proofs.lemmas.Bool.{cases_lt, lt-ltb, le-ltb}
use Rattle.std.proofs.lemmas.Int.{to_z-of_z, of_z-to_z}
use Rattle.std.proofs.lemmas.Option.{same_Some}
use Rattle.std.proofs.lemmas.Slice.Eq.{bytes_eq-Decides}
use lib.Signed.{mag}
use Rattle.xc_text_lines.specs.Numbers.{number_of, signed_of}
use Rattle.xc_text_lines.proofs.Numerals.{number_spells, number_decimal}
use Rattle.xc_text_lines.proofs.Signs.{signed_spells, signed_again, signed_word}
use Rattle.xc_text_lines.proofs.Joins.{IsWord, decimal_word}
use Rattle.xc_isa_text.specs.Operands.{Slot, Register, Number, Value, Signed, State, limit_of, state_word, word_in, words_in, AreBelow}
use Rattle.xc_isa_text.specs.InnerOperands.{number_in, first_in, none_left, numbers_in}

pub bind_some : {A B : Type 0} (o : Option A) (f : A → Option B) (y : B) → option_and_then f o ≡ Some y → (x : A) × (o ≡ Some x) × (f x ≡ Some y)
bind_some None f y e = absurd cc
bind_some (Some x) f y e = (x, refl, e)

pub map_some : {A B : Type 0} (o : Option A) (f : A → B) (y : B) → option_map f o ≡ Some y → (x : A) × (o ≡ Some x) × (f x ≡ y)
map_some None f y e = absurd cc
map_some (Some x) f y e = (x, refl, same_Some _ _ e)

-- ---- one word

abbrev Spells : Slot → List ℕ → ℕ → Type 0
Spells s w n = (w ≡ word_in s n) × (n < limit_of s)

number_is : (limit : ℕ) (w : List ℕ) (n : ℕ) → limit ≤ 2 ^ 64 → number_of limit w ≡ Some n → (w ≡ decimal n) × (n < limit)
number_is limit w n le e = let s = number_spells limit w n le e in (sym s.0, s.1)

word_small : (z : ℤ) → mag z < 2 ^ 63 → cast_unsigned w64 z < 2 ^ 64
word_small (pos n) h = omega arith
word_small (negsuc n) h = omega arith

signed_is : (w : List ℕ) (n : ℕ) → number_in Signed w ≡ Some n → Spells Signed w n
signed_is w n e =
    let m = map_some (signed_of w) (λ z. cast_unsigned w64 z) n e in
    let s = signed_spells w m.0 m.1 in
    let back : cast_signed w64 (cast_unsigned w64 m.0) ≡ m.0 = to_z-of_z w64 m.0 (record { sfits = s.1 }) in
    subst (Spells Signed w) m.2 (s.0 ∙ ap signed_decimal (sym back), word_small m.0 s.1)

state_is : (w : List ℕ) (n : ℕ) (a b : Bool) → bytes_eq w (codes "full") ≡ a → bytes_eq w (codes "empty") ≡ b → cond a (Some 1) (cond b (Some 0) None) ≡ Some n → Spells State w n
state_is w n true b e f h = subst (Spells State w) (same_Some _ _ h) ((bytes_eq-Decides w (codes "full")).0 e, omega arith)
state_is w n false true e f h = subst (Spells State w) (same_Some _ _ h) ((bytes_eq-Decides w (codes "empty")).0 f, omega arith)
state_is w n false false e f h = absurd cc

pub number_spelled : (s : Slot) (w : List ℕ) (n : ℕ) → number_in s w ≡ Some n → (w ≡ word_in s n) × (n < limit_of s)
number_spelled Register w n e = number_is 32 w n (lit≤ tt) e
number_spelled Number w n e = number_is (2 ^ 32) w n (lit≤ tt) e
number_spelled Value w n e = number_is (2 ^ 64) w n (lit≤ tt) e
number_spelled Signed w n e = signed_is w n e
number_spelled State w n e = state_is w n _ _ refl refl e

signed_small : (n : ℕ) → n < 2 ^ 64 → mag (cast_signed w64 n) < 2 ^ 63
signed_small n h =
    elim (cases_lt n (2 ^ 63)) [
      | inl lt ↦ rw (lt-ltb n (2 ^ 63) lt) lt
      | inr le ↦ rw (le-ltb n (2 ^ 63) le) (omega arith)
    ]

signed_back : (n : ℕ) → n < 2 ^ 64 → number_in Signed (word_in Signed n) ≡ Some n
signed_back n h = ap (option_map (λ z. cast_unsigned w64 z)) (signed_again (cast_signed w64 n) (signed_small n h)) ∙ ap Some (of_z-to_z w64 n h)

state_back : (n : ℕ) → n < 2 → number_in State (word_in State n) ≡ Some n
state_back zero h = refl
state_back (suc zero) h = refl
state_back (suc (suc n)) h = absurd (omega arith)

pub number_again : (s : Slot) (n : ℕ) → n < limit_of s → number_in s (word_in s n) ≡ Some n
number_again Register n h = number_decimal 32 n (lit≤ tt) h
number_again Number n h = number_decimal (2 ^ 32) n (lit≤ tt) h
number_again Value n h = number_decimal (2 ^ 64) n (lit≤ tt) h
number_again Signed n h = signed_back n h
number_again State n h = state_back n h

state_is_word : (n : ℕ) → IsWord (state_word n)
state_is_word zero = (refl, refl)
state_is_word (suc n) = (refl, refl)

word_is_word : (s : Slot) (n : ℕ) → n < limit_of s → IsWord (word_in s n)
word_is_word Register n h = decimal_word n (omega arith)
word_is_word Number n h = decimal_word n (omega arith)
word_is_word Value n h = decimal_word n (omega arith)
word_is_word Signed n h = signed_word (cast_signed w64 n) (signed_small n h)
word_is_word State n h = state_is_word n

-- ---- words

left_spelled : (ws : List (List ℕ)) (ns : List ℕ) → none_left ws ≡ Some ns → (ws ≡ words_in [] ns) × AreBelow [] ns
left_spelled [] ns e = subst (λ (x : List ℕ). ([] ≡ words_in [] x) × AreBelow [] x) (same_Some _ _ e) (refl, tt)
left_spelled (w ∷ ws) ns e = absurd cc

first_spelled : (s : Slot) (ws : List (List ℕ)) (n : ℕ) (rest : List (List ℕ)) → first_in s ws ≡ Some (n, rest) → (ws ≡ word_in s n ∷ rest) × (n < limit_of s)
first_spelled s [] n rest e = absurd cc
first_spelled s (w ∷ ws) n rest e =
    let m = map_some (number_in s w) (λ k. (k, ws)) (n, rest) e in
    let is = number_spelled s w m.0 m.1 in
    let number : m.0 ≡ n = ap (λ (p : ℕ × List (List ℕ)). p.0) m.2 in
    let others : ws ≡ rest = ap (λ (p : ℕ × List (List ℕ)). p.1) m.2 in
    (ap (λ (x : List ℕ). x ∷ ws) (is.0 ∙ ap (word_in s) number) ∙ ap (λ (x : List (List ℕ)). word_in s n ∷ x) others, subst (λ k. k < limit_of s) number is.1)

pub numbers_spelled : (ss : List Slot) (ws : List (List ℕ)) (ns : List ℕ) → numbers_in ss ws ≡ Some ns → (ws ≡ words_in ss ns) × AreBelow ss ns
numbers_spelled [] ws ns e = left_spelled ws ns e
numbers_spelled (s ∷ ss) ws ns e =
    let a = bind_some (first_in s ws) (λ (p : ℕ × List (List ℕ)). option_map (λ (ms : List ℕ). p.0 ∷ ms) (numbers_in ss p.1)) ns e in
    let b = map_some (numbers_in ss a.0.1) (λ (ms : List ℕ). a.0.0 ∷ ms) ns a.2 in
    let first = first_spelled s ws a.0.0 a.0.1 a.1 in
    let rest = numbers_spelled ss a.0.1 b.0 b.1 in
    subst (λ (x : List ℕ). (ws ≡ words_in (s ∷ ss) x) × AreBelow (s ∷ ss) x) b.2
    (first.0 ∙ ap (λ (x : List (List ℕ)). word_in s a.0.0 ∷ x) rest.0, (first.1, rest.1))

pub numbers_again : (ss : List Slot) (ns : List ℕ) → AreBelow ss ns → numbers_in ss (words_in ss ns) ≡ Some ns
numbers_again [] [] h = refl
numbers_again [] (n ∷ ns) h = absurd h
numbers_again (s ∷ ss) [] h = absurd h
numbers_again (s ∷ ss) (n ∷ ns) h = rw (number_again s n h.0, numbers_again ss ns h.1) refl

pub are_words : (ss : List Slot) (ns : List ℕ) → AreBelow ss ns → AllByRecursion IsWord (words_in ss ns)
are_words [] ns h = tt
are_words (s ∷ ss) [] h = tt
are_words (s ∷ ss) (n ∷ ns) h = (word_is_word s n h.0, are_words ss ns h.1)
