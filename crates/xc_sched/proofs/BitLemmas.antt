-- Flags in the bits of words.
use Rattle.std.proofs.Common.{◌≡◌, ◌≢◌, ℕ, zero, suc, ◌+◌, ◌-◌, ◌*◌, ◌/◌, ◌%◌, ◌^◌, ◌<◌, ◌≤◌, inl, inr, not, Bool, false, eqb, lit<, get_or, List, [], ◌∷◌, ◌++◌, length, drop, set, Some, refl, sym, ap, ◌∙◌, arith}
use Rattle.std.specs.Prelude.{slice_get, sum_by, bit_and, bit_xor}
use Rattle.std.specs.Int.{bit_at}
use Rattle.std.specs.Int.RustNames.{count_ones}
use Rattle.std.proofs.lemmas.Bool.{cases_lt, cases_eq}
use Rattle.std.proofs.lemmas.List.{ext_get_or, length-append, length-set, get_or_append_left, get_or-append_right, get_or-set_other, get_or-set_same, drop_more}
use Rattle.std.specs.Int.Bits.{and_self}
use Rattle.std.proofs.lemmas.List.Sums.{sum_by-cons}
use Rattle.std.proofs.lemmas.List.Concat.{flat_map-cons}
use Rattle.std.proofs.lemmas.Nat.{one_shl, and_block, shr-shr, ones_le_self}
use Rattle.std.proofs.lemmas.Nat.Bits.{bit_at_lowest, bit_at-suc, bit_at_xor, bit_at-pow_same, bit_at-pow_other, bit_at-lt}
use Rattle.std.specs.Int.Count.{count_trailing_zeros, under}
use lib.Count.{ones_step}
use native.Mathlib.Nat.{pow-suc}
use Rattle.xc_sched.specs.Streams.{streams_from}
use Rattle.xc_sched.specs.Bits.{flags_below, word_flags, flags_of}
use Rattle.xc_sched.proofs.StreamLemmas.{one, length-streams_from, streams_from-append}

-- ---- the flags of a word

pub length-flags_below : (n w : ℕ) → length (flags_below n w) ≡ n
unfolding flags_below
length-flags_below zero w = refl
length-flags_below (suc n) w = ap suc (length-flags_below n (w / 2))

pub flags_below-at : (n w i : ℕ) → i < n → get_or (flags_below n w) i false ≡ eqb (bit_at w i) 1
unfolding flags_below
flags_below-at zero w i h = absurd (omega arith)
flags_below-at (suc n) w zero h = ap (λ b. eqb b 1) (sym (bit_at_lowest w))
flags_below-at (suc n) w (suc i) h = flags_below-at n (w / 2) i (omega arith) ∙ ap (λ b. eqb b 1) (sym (bit_at-suc w i))

-- ---- the flags of words

pub flags_of-cons : (w : ℕ) (ws : List ℕ) → flags_of (w ∷ ws) ≡ word_flags w ++ flags_of ws
flags_of-cons w ws = flat_map-cons word_flags w ws

pub length-flags_of : (ws : List ℕ) → length (flags_of ws) ≡ 64 * length ws
length-flags_of [] = refl
length-flags_of (w ∷ ws) = omega (arith, ap length (flags_of-cons w ws), length-append (word_flags w) (flags_of ws), length-flags_below 64 w, length-flags_of ws)

abbrev at_bit : List ℕ → ℕ → ℕ → Bool
at_bit ws q r = eqb (bit_at (get_or ws q 0) r) 1

pub flags_of-at : (ws : List ℕ) (s : ℕ) → s < 64 * length ws → get_or (flags_of ws) s false ≡ at_bit ws (s / 64) (s % 64)
flags_of-at [] s h = absurd (omega arith)
flags_of-at (w ∷ ws) s h =
    elim (cases_lt s 64) [
      | inl lt ↦
          let q : s / 64 ≡ 0 = omega arith in
          let r : s % 64 ≡ s = omega arith in
          ap (λ (x : List Bool). get_or x s false) (flags_of-cons w ws) ∙ get_or_append_left (word_flags w) (flags_of ws) false s (omega (arith, length-flags_below 64 w))
          ∙ flags_below-at 64 w s lt ∙ rw (q, r) refl
      | inr ge ↦
          let q : s / 64 ≡ suc ((s - 64) / 64) = omega arith in
          let r : s % 64 ≡ (s - 64) % 64 = omega arith in
          ap (λ (x : List Bool). get_or x s false) (flags_of-cons w ws) ∙ get_or-append_right (word_flags w) (flags_of ws) 64 s false (length-flags_below 64 w) ge
          ∙ flags_of-at ws (s - 64) (omega arith) ∙ rw (q, r) refl
    ]

-- ---- a bit that is flipped

flipped_bit : (b : ℕ) → b < 2 → eqb ((b + 1) % 2) 1 ≡ not (eqb b 1)
flipped_bit zero h = refl
flipped_bit (suc zero) h = refl
flipped_bit (suc (suc b)) h = absurd (omega arith)

kept_bit : (b : ℕ) → b < 2 → eqb ((b + 0) % 2) 1 ≡ eqb b 1
kept_bit zero h = refl
kept_bit (suc zero) h = refl
kept_bit (suc (suc b)) h = absurd (omega arith)

abbrev pub flipped : ℕ → ℕ → ℕ
flipped w r = bit_xor w (1 * 2 ^ r % 2 ^ 64)

flipped_same : (w r : ℕ) → r < 64 → eqb (bit_at (flipped w r) r) 1 ≡ not (eqb (bit_at w r) 1)
flipped_same w r h =
    ap (λ m. eqb (bit_at (bit_xor w m) r) 1) (one_shl r 64 h) ∙ ap (λ b. eqb b 1) (bit_at_xor w (2 ^ r) r) ∙ ap (λ b. eqb ((bit_at w r + b) % 2) 1) (bit_at-pow_same r) ∙ flipped_bit (bit_at w r) (bit_at-lt w r)

flipped_other : (w r i : ℕ) → r < 64 → i ≢ r → eqb (bit_at (flipped w r) i) 1 ≡ eqb (bit_at w i) 1
flipped_other w r i h ne =
    ap (λ m. eqb (bit_at (bit_xor w m) i) 1) (one_shl r 64 h) ∙ ap (λ b. eqb b 1) (bit_at_xor w (2 ^ r) i) ∙ ap (λ b. eqb ((bit_at w i + b) % 2) 1) (bit_at-pow_other r i ne) ∙ kept_bit (bit_at w i) (bit_at-lt w i)

flip_at_same : (ws : List ℕ) (s : ℕ) → s < 64 * length ws
    → at_bit (set ws (s / 64) (flipped (get_or ws (s / 64) 0) (s % 64))) (s / 64) (s % 64) ≡ not (get_or (flags_of ws) s false)
flip_at_same ws s h =
    let within : s / 64 < length ws = omega arith in
    ap (λ x. eqb (bit_at x (s % 64)) 1) (get_or-set_same ws (s / 64) _ 0 within) ∙ flipped_same (get_or ws (s / 64) 0) (s % 64) (omega arith) ∙ ap not (sym (flags_of-at ws s h))

flip_at_other : (ws : List ℕ) (s i : ℕ) → s < 64 * length ws → i < 64 * length ws → i ≢ s
    → at_bit (set ws (s / 64) (flipped (get_or ws (s / 64) 0) (s % 64))) (i / 64) (i % 64) ≡ get_or (flags_of ws) i false
flip_at_other ws s i h k ne =
    elim (cases_eq (i / 64) (s / 64)) [
      | inl e ↦
          let within : s / 64 < length ws = omega arith in
          let other : i % 64 ≢ s % 64 = λ f. ne (omega arith) in
          ap (λ q. at_bit (set ws (s / 64) (flipped (get_or ws (s / 64) 0) (s % 64))) q (i % 64)) e
          ∙ ap (λ x. eqb (bit_at x (i % 64)) 1) (get_or-set_same ws (s / 64) _ 0 within) ∙ flipped_other (get_or ws (s / 64) 0) (s % 64) (i % 64) (omega arith) other
          ∙ ap (λ q. at_bit ws q (i % 64)) (sym e) ∙ sym (flags_of-at ws i k)
      | inr e ↦ ap (λ x. eqb (bit_at x (i % 64)) 1) (get_or-set_other ws (s / 64) (i / 64) _ 0 e) ∙ sym (flags_of-at ws i k)
    ]

-- a bit that is flipped is a flag that is flipped
pub flags_of-flip : (ws : List ℕ) (s : ℕ) → s < 64 * length ws
    → flags_of (set ws (s / 64) (flipped (get_or ws (s / 64) 0) (s % 64))) ≡ set (flags_of ws) s (not (get_or (flags_of ws) s false))
flags_of-flip ws s h =
    let new : List ℕ = set ws (s / 64) (flipped (get_or ws (s / 64) 0) (s % 64)) in
    let len : length new ≡ length ws = length-set ws (s / 64) _ in
    let total : length (flags_of new) ≡ 64 * length ws = omega (arith, length-flags_of new, len) in
    let room = length-flags_of ws in
    ext_get_or false (flags_of new) (set (flags_of ws) s (not (get_or (flags_of ws) s false)))
    (omega (arith, total, length-set (flags_of ws) s (not (get_or (flags_of ws) s false)), room))
    (λ i k.
    let fits : i < 64 * length ws = omega (arith, total, k) in
    flags_of-at new i (omega (arith, len, fits)) ∙
    elim (cases_eq i s) [
      | inl e ↦ ap (λ x. at_bit new (x / 64) (x % 64)) e ∙ flip_at_same ws s h ∙ sym (ap (λ x. get_or (set (flags_of ws) s (not (get_or (flags_of ws) s false))) x false) e ∙ get_or-set_same (flags_of ws) s _ false (omega (arith, room, h)))
      | inr ne ↦ flip_at_other ws s i h fits ne ∙ sym (get_or-set_other (flags_of ws) s i _ false ne)
    ])

-- ---- the set bits of a word

low_bit : (b : ℕ) → b < 2 → one (eqb b 1) ≡ b
low_bit zero h = refl
low_bit (suc zero) h = refl
low_bit (suc (suc b)) h = absurd (omega arith)

ones_by_flags : (n w : ℕ) → w < 2 ^ n → sum_by one (flags_below n w) ≡ count_ones w
unfolding flags_below
ones_by_flags zero w h = omega (arith, ones_le_self w)
ones_by_flags (suc n) w h =
    let half : w / 2 < 2 ^ n = omega (arith, pow-suc 2 n) in
    let low : one (eqb (w % 2) 1) ≡ w % 2 = low_bit (w % 2) (omega arith) in
    omega (arith, low, sum_by-cons one (eqb (w % 2) 1) (flags_below n (w / 2)), ones_by_flags n (w / 2) half, ones_step w)

pub length-word : (s w : ℕ) → w < 2 ^ 64 → length (streams_from s (word_flags w)) ≡ count_ones w
length-word s w h = length-streams_from s (word_flags w) ∙ ones_by_flags 64 w h

-- the lowest set bit of a word that is not 0
lowest_step : (n m w s d : ℕ) → w % 2 ≡ d → (d ≡ 0 → slice_get (streams_from (suc s) (flags_below n (w / 2))) 0 ≡ Some (suc s + count_trailing_zeros m (w / 2)))
    → slice_get (streams_from s (eqb d 1 ∷ flags_below n (w / 2))) 0 ≡ Some (s + under d (count_trailing_zeros m (w / 2)))
lowest_step n m w s zero e h = h refl ∙ ap Some (omega arith)
lowest_step n m w s (suc zero) e h = ap Some (omega arith)
lowest_step n m w s (suc (suc d)) e h = absurd (omega arith)

pub lowest_bit : (n m w s : ℕ) → 0 < w → w < 2 ^ n → n ≤ m → slice_get (streams_from s (flags_below n w)) 0 ≡ Some (s + count_trailing_zeros m w)
unfolding flags_below count_trailing_zeros
lowest_bit zero m w s some h le = absurd (omega arith)
lowest_bit (suc n) zero w s some h le = absurd (omega arith)
lowest_bit (suc n) (suc m) w s some h le =
    let half : w / 2 < 2 ^ n = omega (arith, pow-suc 2 n) in
    lowest_step n m w s (w % 2) refl (λ even. lowest_bit n m (w / 2) (suc s) (omega arith) half (omega arith))

-- and what is left without it
cleared_step : (n w s d : ℕ) → w % 2 ≡ d → 0 < w → (d ≡ 0 → streams_from (suc s) (flags_below n (bit_and (w / 2) (w / 2 - 1))) ≡ drop 1 (streams_from (suc s) (flags_below n (w / 2))))
    → streams_from s (flags_below (suc n) (bit_and w (w - 1))) ≡ drop 1 (streams_from s (eqb d 1 ∷ flags_below n (w / 2)))
unfolding flags_below
cleared_step n w s zero e some h =
    let here : w ≡ w / 2 * 2 ^ 1 + 0 = omega arith in
    let before : w - 1 ≡ (w / 2 - 1) * 2 ^ 1 + 1 = omega arith in
    let is : bit_and w (w - 1) ≡ bit_and (w / 2) (w / 2 - 1) * 2 ^ 1 + bit_and 0 1 = ap (λ x. bit_and x (w - 1)) here ∙ ap (λ x. bit_and (w / 2 * 2 ^ 1 + 0) x) before ∙ and_block 1 (w / 2) (w / 2 - 1) 0 1 (lit< tt) (lit< tt) in
    let low : bit_and w (w - 1) % 2 ≡ 0 = omega (arith, is) in
    let high : bit_and w (w - 1) / 2 ≡ bit_and (w / 2) (w / 2 - 1) = omega (arith, is) in
    rw (low, high) (h refl)
cleared_step n w s (suc zero) e some h =
    let here : w ≡ w / 2 * 2 ^ 1 + 1 = omega arith in
    let before : w - 1 ≡ w / 2 * 2 ^ 1 + 0 = omega arith in
    let is : bit_and w (w - 1) ≡ bit_and (w / 2) (w / 2) * 2 ^ 1 + bit_and 1 0 = ap (λ x. bit_and x (w - 1)) here ∙ ap (λ x. bit_and (w / 2 * 2 ^ 1 + 1) x) before ∙ and_block 1 (w / 2) (w / 2) 1 0 (lit< tt) (lit< tt) in
    let same : bit_and (w / 2) (w / 2) ≡ w / 2 = and_self (w / 2) in
    let low : bit_and w (w - 1) % 2 ≡ 0 = omega (arith, is) in
    let high : bit_and w (w - 1) / 2 ≡ w / 2 = omega (arith, is, same) in
    rw (low, high) refl
cleared_step n w s (suc (suc d)) e some h = absurd (omega arith)

pub without_lowest : (n w s : ℕ) → 0 < w → w < 2 ^ n → streams_from s (flags_below n (bit_and w (w - 1))) ≡ drop 1 (streams_from s (flags_below n w))
unfolding flags_below
without_lowest zero w s some h = absurd (omega arith)
without_lowest (suc n) w s some h =
    let half : w / 2 < 2 ^ n = omega (arith, pow-suc 2 n) in
    cleared_step n w s (w % 2) refl some (λ even. without_lowest n (w / 2) (suc s) (omega arith) half)

-- a word without its lowest bits
pub flags_below-shr : (r n w : ℕ) → flags_below n (w / 2 ^ r) ≡ drop r (flags_below (r + n) w)
unfolding flags_below
flags_below-shr zero n w = let e : w / 1 ≡ w = omega arith in let f : 0 + n ≡ n = omega arith in rw (e, f) refl
flags_below-shr (suc r) n w =
    let more : suc r ≡ 1 + r = omega arith in
    let e : w / 2 ^ suc r ≡ w / 2 / 2 ^ r = ap (λ k. w / 2 ^ k) more ∙ sym (shr-shr w 1 r) in
    let f : suc r + n ≡ suc (r + n) = omega arith in
    rw (e, f) (flags_below-shr r n (w / 2))

-- ---- words from one on

pub flags_of-drop : (i : ℕ) (ws : List ℕ) → i < length ws → flags_of (drop i ws) ≡ word_flags (get_or ws i 0) ++ flags_of (drop (i + 1) ws)
flags_of-drop i ws h = ap flags_of (drop_more ws i 0 h) ∙ flags_of-cons (get_or ws i 0) (drop (i + 1) ws)

-- the streams of the words from word i on
pub streams_of_words : (i : ℕ) (ws : List ℕ) → i < length ws
    → streams_from (64 * i) (flags_of (drop i ws)) ≡ streams_from (64 * i) (word_flags (get_or ws i 0)) ++ streams_from (64 * (i + 1)) (flags_of (drop (i + 1) ws))
streams_of_words i ws h =
    let next : 64 * i + length (word_flags (get_or ws i 0)) ≡ 64 * (i + 1) = omega (arith, length-flags_below 64 (get_or ws i 0)) in
    ap (streams_from (64 * i)) (flags_of-drop i ws h) ∙ streams_from-append (64 * i) (word_flags (get_or ws i 0)) (flags_of (drop (i + 1) ws))
    ∙ ap (λ k. streams_from (64 * i) (word_flags (get_or ws i 0)) ++ streams_from k (flags_of (drop (i + 1) ws))) next
