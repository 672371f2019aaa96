-- Words that keep the flags of streams.
use Rattle.std.proofs.Common.{◌≡◌, ℕ, zero, suc, ◌+◌, ◌-◌, ◌*◌, ◌/◌, ◌%◌, ◌^◌, ◌<◌, ◌≤◌, inl, inr, not, Bool, true, false, get_or, List, [], ◌∷◌, ◌++◌, length, take, drop, set, Some, None, refl, sym, ap, subst, ◌∙◌, arith}
use Rattle.std.specs.Prelude.{slice_get, replicate, bit_and}
use Rattle.std.specs.Option.{option_map}
use Rattle.std.specs.Int.RustNames.{count_ones}
use Rattle.std.specs.Int.Count.{count_trailing_zeros}
use Rattle.std.proofs.lemmas.List.{drop-set-lt, drop-append-le, drop_all, length-replicate, length-drop, length-set, length-take, replicate-append-replicate, take-replicate}
use Rattle.std.proofs.lemmas.Option.{slice_get-map}
use Rattle.std.proofs.Math.Seq.{take-set-lt, drop-append_seam, drop-append-add}
use Rattle.std.proofs.Math.Nat.{le_refl, lt_of_le_of_lt}
use Rattle.std.proofs.lemmas.Bool.{cases_lt}
use mathlib.Core.Bool.{beq}
use Rattle.std.proofs.lemmas.Nat.{and_le_l, ones_le_self, shr_le}
use Rattle.std.proofs.lemmas.Nat.Bits.{bit_at-trailing_zeros, bit_at_above}
use Rattle.std.specs.Int.{w64}
use lib.Pow.{shr_lt}
use Rattle.xc_sched.specs.Streams.{streams_from, streams_of, lowest_from}
use Rattle.xc_sched.specs.Bits.{flags_below, word_flags, flags_of, KeepsFlags}
use Rattle.xc_sched.proofs.StreamLemmas.{one, length-streams-set, streams_from-add, streams_from-append, streams_from-replicate, streams_of-take, get-append_left, get-append_right, lowest_is, lowest_below}
use Rattle.xc_sched.proofs.BitLemmas.{length-flags_below, length-flags_of, flags_of-cons, flags_of-drop, flags_of-flip, flipped, length-word, lowest_bit, flags_below-shr, streams_of_words, without_lowest}

-- ---- what is kept

pub kept_same : (n k : ℕ) (ws : List ℕ) → KeepsFlags n k ws → streams_of (take n (flags_of ws)) ≡ streams_of (flags_of ws)
kept_same n k ws h = streams_of-take n (flags_of ws) (omega (arith, h.room, length-flags_of ws)) h.above

pub kept_count : (n k : ℕ) (ws : List ℕ) → KeepsFlags n k ws → length (streams_of (take n (flags_of ws))) ≡ k
kept_count n k ws h = ap length (kept_same n k ws h) ∙ h.counted

streams_few : (s : ℕ) (flags : List Bool) → length (streams_from s flags) ≤ length flags
streams_few s [] = omega arith
streams_few s (true ∷ flags) = let h = streams_few (suc s) flags in omega arith
streams_few s (false ∷ flags) = let h = streams_few (suc s) flags in omega arith

-- ---- one stream changes

abbrev pub turned : List ℕ → ℕ → List ℕ
turned ws s = set ws (s / 64) (flipped (get_or ws (s / 64) 0) (s % 64))

turned_is : (n k s : ℕ) (ws : List ℕ) (b : Bool) → KeepsFlags n k ws → s < n → get_or (flags_of ws) s false ≡ not b → flags_of (turned ws s) ≡ set (flags_of ws) s b
turned_is n k s ws b h lt flag =
    flags_of-flip ws s (omega (arith, h.room, lt)) ∙ ap (λ x. set (flags_of ws) s (not x)) flag ∙ ap (set (flags_of ws) s) (twice b)
  where
    twice : (b : Bool) → not (not b) ≡ b
    twice true = refl
    twice false = refl

pub view_turned : (n k s : ℕ) (ws : List ℕ) (b : Bool) → KeepsFlags n k ws → s < n → get_or (flags_of ws) s false ≡ not b → take n (flags_of (turned ws s)) ≡ set (take n (flags_of ws)) s b
view_turned n k s ws b h lt flag = ap (take n) (turned_is n k s ws b h lt flag) ∙ take-set-lt n (flags_of ws) s b lt

counted : (n k s : ℕ) (ws : List ℕ) (b : Bool) → KeepsFlags n k ws → s < n → get_or (flags_of ws) s false ≡ not b → length (streams_of (flags_of (turned ws s))) + one (not b) ≡ k + one b
counted n k s ws b h lt flag =
    let within : s < length (flags_of ws) = omega (arith, h.room, length-flags_of ws) in
    let e = length-streams-set (flags_of ws) s b within in
    omega (arith, e, h.counted, ap one flag, ap (λ x. length (streams_of x)) (turned_is n k s ws b h lt flag))

pub kept_turned : (n k m s : ℕ) (ws : List ℕ) (b : Bool) → KeepsFlags n k ws → s < n → get_or (flags_of ws) s false ≡ not b → m + one (not b) ≡ k + one b → KeepsFlags n m (turned ws s)
kept_turned n k m s ws b h lt flag count =
    let len : length (turned ws s) ≡ length ws = length-set ws (s / 64) _ in
    record {
      room = omega (arith, h.room, len);
      few = h.few;
      small = omega (arith, h.small, len);
      above = ap (λ x. streams_from n (drop n x)) (turned_is n k s ws b h lt flag) ∙ ap (streams_from n) (drop-set-lt n (flags_of ws) s b lt) ∙ h.above;
      counted = omega (arith, counted n k s ws b h lt flag, count);
    }

same_default : (ws : List ℕ) (i d e : ℕ) → i < length ws → get_or ws i d ≡ get_or ws i e
same_default [] i d e h = absurd (omega arith)
same_default (w ∷ ws) zero d e h = refl
same_default (w ∷ ws) (suc i) d e h = same_default ws i d e (omega arith)

-- the word that is written
pub turned_by : (ws : List ℕ) (s x : ℕ) → s / 64 < length ws → x ≡ get_or ws (s / 64) x → set ws (s / 64) (flipped x (s % 64)) ≡ turned ws s
turned_by ws s x h e = ap (λ y. set ws (s / 64) (flipped y (s % 64))) (e ∙ same_default ws (s / 64) x 0 h)

pub other : (a b : Bool) → beq a b ≡ false → a ≡ not b
other true true e = absurd cc
other true false e = refl
other false true e = refl
other false false e = absurd cc

-- a stream that is not ready leaves room in the count
pub count_room : (n k s : ℕ) (ws : List ℕ) → KeepsFlags n k ws → s < n → get_or (flags_of ws) s false ≡ false → k + 1 ≤ n
count_room n k s ws h lt flag =
    let kept = kept_turned n k (k + 1) s ws true h lt flag (omega arith) in
    let few = streams_few 0 (take n (flags_of (turned ws s))) in
    omega (arith, few, kept_count n (k + 1) (turned ws s) kept, length-take n (flags_of (turned ws s)))

-- and one that is ready counts
pub count_some : (n k s : ℕ) (ws : List ℕ) → KeepsFlags n k ws → s < n → get_or (flags_of ws) s false ≡ true → 1 ≤ k
count_some n k s ws h lt flag = omega (arith, counted n k s ws false h lt flag)

-- ---- no stream is ready

flags_below-zero : (n : ℕ) → flags_below n 0 ≡ replicate n false
unfolding flags_below
flags_below-zero zero = refl
flags_below-zero (suc n) = ap (λ (x : List Bool). false ∷ x) (flags_below-zero n)

pub flags_of-zero : (m : ℕ) → flags_of (replicate m 0) ≡ replicate (64 * m) false
flags_of-zero zero = refl
flags_of-zero (suc m) =
    let e : 64 * suc m ≡ 64 + 64 * m = omega arith in
    flags_of-cons 0 (replicate m 0) ∙ ap (λ (x : List Bool). x ++ flags_of (replicate m 0)) (flags_below-zero 64) ∙ ap (λ (x : List Bool). replicate 64 false ++ x) (flags_of-zero m)
    ∙ replicate-append-replicate 64 (64 * m) false ∙ ap (λ k. replicate k false) (sym e)

pub view_zero : (n m : ℕ) → n ≤ 64 * m → take n (flags_of (replicate m 0)) ≡ replicate n false
view_zero n m h = ap (take n) (flags_of-zero m) ∙ take-replicate n (64 * m) false h

after_front : (xs ys : List Bool) (n : ℕ) → length xs ≡ n → drop n (xs ++ ys) ≡ ys
after_front xs ys n e = ap (λ k. drop k (xs ++ ys)) (sym e) ∙ drop-append_seam xs ys

pub kept_zero : (n m : ℕ) → n < 2 ^ 32 → n ≤ 64 * m → 64 * m ≤ 2 ^ 32 → KeepsFlags n 0 (replicate m 0)
kept_zero n m few h small =
    let len : length {A = ℕ} (replicate m 0) ≡ m = length-replicate m 0 in
    let back : n + (64 * m - n) ≡ 64 * m = omega arith in
    record {
      room = omega (arith, len);
      few = few;
      small = omega (arith, len);
      above =
          ap (λ x. streams_from n (drop n x)) (flags_of-zero m ∙ ap (λ k. replicate k false) (sym back) ∙ sym (replicate-append-replicate n (64 * m - n) false))
          ∙ ap (streams_from n) (after_front (replicate n false) (replicate (64 * m - n) false) n (length-replicate n false)) ∙ streams_from-replicate n (64 * m - n);
      counted = ap (λ x. length (streams_of x)) (flags_of-zero m) ∙ ap length (streams_from-replicate 0 (64 * m));
    }

-- ---- a set bit of one word

get_rest : (xs : List ℕ) (k : ℕ) → 0 < k → slice_get (drop 1 xs) (k - 1) ≡ slice_get xs k
get_rest [] zero h = absurd (omega arith)
get_rest [] (suc k) h = refl
get_rest (x ∷ xs) zero h = absurd (omega arith)
get_rest (x ∷ xs) (suc k) h = let e : suc k - 1 ≡ k = omega arith in ap (slice_get xs) e

-- without the lowest bit every other one has a place less
pub one_less : (w k : ℕ) → 0 < k → w < 2 ^ 64 → k < count_ones w
    → (slice_get (streams_of (word_flags (bit_and w (w - 1)))) (k - 1) ≡ slice_get (streams_of (word_flags w)) k) × (k - 1 < count_ones (bit_and w (w - 1)))
one_less w k some fits few =
    let there : 0 < w = omega (arith, ones_le_self w) in
    let rest : streams_of (word_flags (bit_and w (w - 1))) ≡ drop 1 (streams_of (word_flags w)) = without_lowest 64 w 0 there fits in
    let small : bit_and w (w - 1) < 2 ^ 64 = lt_of_le_of_lt (and_le_l w (w - 1)) fits in (
      ap (λ (x : List ℕ). slice_get x (k - 1)) rest ∙ get_rest (streams_of (word_flags w)) k some,
      omega (arith, length-word 0 w fits, length-word 0 (bit_and w (w - 1)) small, ap length rest, length-drop 1 (streams_of (word_flags w))),
    )

-- the lowest bit
pub first_bit : (w : ℕ) → w < 2 ^ 64 → 0 < count_ones w → (slice_get (streams_of (word_flags w)) 0 ≡ Some (count_trailing_zeros 64 w)) × (count_trailing_zeros 64 w < 64)
first_bit w fits some =
    let there : 0 < w = omega (arith, ones_le_self w) in
    (lowest_bit 64 64 w 0 there fits (le_refl 64) ∙ ap Some (omega arith), (bit_at-trailing_zeros w64 w there fits).0)

-- ---- the ready stream at a place

-- within the word at hand
pub nth_found : (i left x : ℕ) (ws : List ℕ) → i < length ws → get_or ws i 0 < 2 ^ 64 → left < count_ones (get_or ws i 0)
    → slice_get (streams_of (word_flags (get_or ws i 0))) left ≡ Some x → slice_get (streams_from (64 * i) (flags_of (drop i ws))) left ≡ Some (64 * i + x)
nth_found i left x ws h fits few found =
    let w : ℕ = get_or ws i 0 in
    let len = length-word (64 * i) w fits in
    let base : 64 * i + 0 ≡ 64 * i = omega arith in
    ap (λ (s : List ℕ). slice_get s left) (streams_of_words i ws h) ∙ get-append_left (streams_from (64 * i) (word_flags w)) (streams_from (64 * (i + 1)) (flags_of (drop (i + 1) ws))) left (omega (arith, len, few))
    ∙ ap (λ b. slice_get (streams_from b (word_flags w)) left) (sym base) ∙ ap (λ (s : List ℕ). slice_get s left) (streams_from-add (64 * i) 0 (word_flags w))
    ∙ slice_get-map (λ y. 64 * i + y) (streams_of (word_flags w)) left ∙ ap (option_map (λ y. 64 * i + y)) found

-- past the word at hand
pub nth_past : (i left : ℕ) (ws : List ℕ) → i < length ws → get_or ws i 0 < 2 ^ 64 → count_ones (get_or ws i 0) ≤ left
    → slice_get (streams_from (64 * i) (flags_of (drop i ws))) left ≡ slice_get (streams_from (64 * (i + 1)) (flags_of (drop (i + 1) ws))) (left - count_ones (get_or ws i 0))
nth_past i left ws h fits many =
    let w : ℕ = get_or ws i 0 in
    let len = length-word (64 * i) w fits in
    ap (λ (s : List ℕ). slice_get s left) (streams_of_words i ws h) ∙ get-append_right (streams_from (64 * i) (word_flags w)) (streams_from (64 * (i + 1)) (flags_of (drop (i + 1) ws))) left (omega (arith, len, many))
    ∙ ap (λ k. slice_get (streams_from (64 * (i + 1)) (flags_of (drop (i + 1) ws))) (left - k)) len

-- ---- the lowest ready stream from one on

get_first : (xs ys : List ℕ) (x : ℕ) → slice_get xs 0 ≡ Some x → slice_get (xs ++ ys) 0 ≡ Some x
get_first [] ys x h = absurd cc
get_first (y ∷ xs) ys x h = h

-- in a word that is not 0
pub lowest_found : (i : ℕ) (ws : List ℕ) → i < length ws → get_or ws i 0 < 2 ^ 64 → 0 < get_or ws i 0
    → slice_get (streams_from (64 * i) (flags_of (drop i ws))) 0 ≡ Some (64 * i + count_trailing_zeros 64 (get_or ws i 0))
lowest_found i ws h fits some =
    ap (λ (s : List ℕ). slice_get s 0) (streams_of_words i ws h)
    ∙ get_first (streams_from (64 * i) (word_flags (get_or ws i 0))) (streams_from (64 * (i + 1)) (flags_of (drop (i + 1) ws))) _ (lowest_bit 64 64 (get_or ws i 0) (64 * i) some fits (le_refl 64))

no_bits : (s n w : ℕ) → w ≡ 0 → streams_from s (flags_below n w) ≡ []
no_bits s n w none = ap (λ x. streams_from s (flags_below n x)) none ∙ ap (streams_from s) (flags_below-zero n) ∙ streams_from-replicate s n

-- past a word that is 0
pub lowest_past : (i : ℕ) (ws : List ℕ) → i < length ws → get_or ws i 0 ≡ 0
    → slice_get (streams_from (64 * i) (flags_of (drop i ws))) 0 ≡ slice_get (streams_from (64 * (i + 1)) (flags_of (drop (i + 1) ws))) 0
lowest_past i ws h none =
    ap (λ (s : List ℕ). slice_get s 0) (streams_of_words i ws h) ∙ ap (λ (s : List ℕ). slice_get (s ++ streams_from (64 * (i + 1)) (flags_of (drop (i + 1) ws))) 0) (no_bits (64 * i) 64 (get_or ws i 0) none)

drop-flags : (q r : ℕ) (ws : List ℕ) → drop (64 * q + r) (flags_of ws) ≡ drop r (flags_of (drop q ws))
drop-flags zero r ws = let e : 64 * zero + r ≡ r = omega arith in ap (λ k. drop k (flags_of ws)) e
drop-flags (suc q) r [] = drop_all (64 * suc q + r) [] (omega arith) ∙ sym (drop_all r [] (omega arith))
drop-flags (suc q) r (w ∷ ws) =
    let e : 64 * suc q + r ≡ length (word_flags w) + (64 * q + r) = omega (arith, length-flags_below 64 w) in
    ap (λ k. drop k (flags_of (w ∷ ws))) e ∙ ap (drop (length (word_flags w) + (64 * q + r))) (flags_of-cons w ws)
    ∙ drop-append-add (word_flags w) (flags_of ws) (64 * q + r) ∙ drop-flags q r ws

-- the flags from stream s on: the bits of its word from its own on, and the words above
flags_from : (s : ℕ) (ws : List ℕ) → s / 64 < length ws
    → streams_from s (drop s (flags_of ws)) ≡ streams_from s (flags_below (64 - s % 64) (get_or ws (s / 64) 0 / 2 ^ (s % 64))) ++ streams_from (64 * (s / 64 + 1)) (flags_of (drop (s / 64 + 1) ws))
flags_from s ws h =
    let q : ℕ = s / 64 in
    let r : ℕ = s % 64 in
    let w : ℕ = get_or ws q 0 in
    let place : s ≡ 64 * q + r = omega arith in
    let whole : r + (64 - r) ≡ 64 = omega arith in
    let high : flags_below (64 - r) (w / 2 ^ r) ≡ drop r (word_flags w) = flags_below-shr r (64 - r) w ∙ ap (λ k. drop r (flags_below k w)) whole in
    let low : r ≤ length (word_flags w) = omega (arith, length-flags_below 64 w) in
    let next : s + length (flags_below (64 - r) (w / 2 ^ r)) ≡ 64 * (q + 1) = omega (arith, length-flags_below (64 - r) (w / 2 ^ r)) in
    ap (streams_from s) (
    ap (λ k. drop k (flags_of ws)) place ∙ drop-flags q r ws ∙ ap (drop r) (flags_of-drop q ws h) ∙ drop-append-le r (word_flags w) (flags_of (drop (q + 1) ws)) low
    ∙ ap (λ (x : List Bool). x ++ flags_of (drop (q + 1) ws)) (sym high)
    )
    ∙ streams_from-append s (flags_below (64 - r) (w / 2 ^ r)) (flags_of (drop (q + 1) ws))
    ∙ ap (λ k. streams_from s (flags_below (64 - r) (w / 2 ^ r)) ++ streams_from k (flags_of (drop (q + 1) ws))) next

-- past all words
pub lowest_none : (s : ℕ) (ws : List ℕ) → length ws ≤ s / 64 → lowest_from s (streams_of (flags_of ws)) ≡ None
lowest_none s ws h =
    lowest_is s (flags_of ws) ∙ ap (λ (x : List Bool). slice_get (streams_from s x) 0) (drop_all s (flags_of ws) (omega (arith, length-flags_of ws)))

-- in the word of the stream itself
pub lowest_high : (s : ℕ) (ws : List ℕ) → s / 64 < length ws → get_or ws (s / 64) 0 < 2 ^ 64 → 0 < get_or ws (s / 64) 0 / 2 ^ (s % 64)
    → lowest_from s (streams_of (flags_of ws)) ≡ Some (s + count_trailing_zeros 64 (get_or ws (s / 64) 0 / 2 ^ (s % 64)))
lowest_high s ws h fits some =
    let high : ℕ = get_or ws (s / 64) 0 / 2 ^ (s % 64) in
    let whole : 64 - s % 64 + s % 64 ≡ 64 = omega arith in
    let small : high < 2 ^ (64 - s % 64) = shr_lt (64 - s % 64) (s % 64) (subst (λ k. get_or ws (s / 64) 0 < 2 ^ k) (sym whole) fits) in
    lowest_is s (flags_of ws) ∙ ap (λ (x : List ℕ). slice_get x 0) (flags_from s ws h)
    ∙ get_first (streams_from s (flags_below (64 - s % 64) high)) _ _ (lowest_bit (64 - s % 64) 64 high s some small (omega arith))

-- which is not far in that word
pub high_near : (r w : ℕ) → r < 64 → w < 2 ^ 64 → 0 < w / 2 ^ r → r + count_trailing_zeros 64 (w / 2 ^ r) < 64
high_near r w lt fits some =
    let whole : 64 - r + r ≡ 64 = omega arith in
    let small : w / 2 ^ r < 2 ^ (64 - r) = shr_lt (64 - r) r (subst (λ k. w < 2 ^ k) (sym whole) fits) in
    let low = bit_at-trailing_zeros w64 (w / 2 ^ r) some (lt_of_le_of_lt (shr_le w r) fits) in
    elim (cases_lt (count_trailing_zeros 64 (w / 2 ^ r)) (64 - r)) [
      | inl near ↦ omega arith
      | inr far ↦ absurd (omega (arith, low.1, bit_at_above (w / 2 ^ r) (64 - r) (count_trailing_zeros 64 (w / 2 ^ r)) small far))
    ]

-- in a word above
pub lowest_low : (s : ℕ) (ws : List ℕ) → s / 64 < length ws → get_or ws (s / 64) 0 / 2 ^ (s % 64) ≡ 0
    → lowest_from s (streams_of (flags_of ws)) ≡ slice_get (streams_from (64 * (s / 64 + 1)) (flags_of (drop (s / 64 + 1) ws))) 0
lowest_low s ws h none =
    lowest_is s (flags_of ws) ∙ ap (λ (x : List ℕ). slice_get x 0) (flags_from s ws h)
    ∙ ap (λ (x : List ℕ). slice_get (x ++ streams_from (64 * (s / 64 + 1)) (flags_of (drop (s / 64 + 1) ws))) 0) (no_bits s (64 - s % 64) (get_or ws (s / 64) 0 / 2 ^ (s % 64)) none)

-- ---- the same for the streams

pub kept_lowest : (n k s : ℕ) (ws : List ℕ) → KeepsFlags n k ws → lowest_from s (streams_of (flags_of ws)) ≡ lowest_from s (streams_of (take n (flags_of ws)))
kept_lowest n k s ws h = ap (lowest_from s) (sym (kept_same n k ws h))

pub lowest_within : (n s x : ℕ) (flags : List Bool) → lowest_from s (streams_of (take n flags)) ≡ Some x → x < n
lowest_within n s x flags e = let h = lowest_below s 0 x (take n flags) e in omega (arith, length-take n flags)
