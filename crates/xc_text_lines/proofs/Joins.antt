-- Words joined by single spaces.
use Rattle.std.proofs.Common.{◌≡◌, ℕ, ◌^◌, ◌<◌, Bool, true, false, eqb, List, [], ◌∷◌, ◌++◌, refl, ap, ◌∙◌, arith}
use Rattle.std.specs.List.{onto_first, AllByRecursion, list_any, join_with_byte}
use Rattle.std.specs.Fmt.{decimal}
use Rattle.std.specs.Str.{all_ascii_digits}
use Rattle.std.proofs.lemmas.List.Splits.{slice_split-cons_yes, slice_split-cons_no, join_with_byte-slice_split}
use Rattle.std.proofs.lemmas.Bool.Decides.{nat_tests}
use Rattle.std.proofs.lemmas.Fmt.{digits_decimal}
use Rattle.std.proofs.lemmas.Str.Parse.{tells_all_ascii_digits}
use Rattle.xc_text_lines.specs.Lines.{is_feed, is_space, words_of}
use Rattle.xc_text_lines.specs.InnerGrammar.{HasNoFeed}
use Rattle.xc_text_lines.proofs.Reading.{neither}
use Rattle.xc_text_lines.proofs.Numerals.{own}

-- without spaces and line feeds
abbrev pub IsWord : List ℕ → Type 0
IsWord word = (list_any is_space word ≡ false) × (list_any is_feed word ≡ false)

-- a word by itself
pub one_word : (word : List ℕ) → list_any is_space word ≡ false → words_of word ≡ word ∷ []
one_word [] h = refl
one_word (b ∷ word) h =
    let parts = neither (is_space b) (list_any is_space word) h in
    slice_split-cons_no is_space b word parts.0 ∙ ap (onto_first b) (one_word word parts.1)

-- a word, a space and the rest
pub word_first : (word rest : List ℕ) → list_any is_space word ≡ false → words_of (word ++ 32 ∷ rest) ≡ word ∷ words_of rest
word_first [] rest h = slice_split-cons_yes is_space 32 rest refl
word_first (b ∷ word) rest h =
    let parts = neither (is_space b) (list_any is_space word) h in
    slice_split-cons_no is_space b (word ++ 32 ∷ rest) parts.0 ∙ ap (onto_first b) (word_first word rest parts.1)

-- words that are joined are cut into the same words
pub words-join : (word : List ℕ) (words : List (List ℕ)) → AllByRecursion IsWord (word ∷ words) → words_of (join_with_byte 32 (word ∷ words)) ≡ word ∷ words
words-join word [] h = one_word word h.0.0
words-join word (other ∷ words) h = word_first word (join_with_byte 32 (other ∷ words)) h.0.0 ∙ ap (λ (x : List (List ℕ)). word ∷ x) (words-join other words h.1)

-- a line is its words, joined
pub join-words : (line : List ℕ) → join_with_byte 32 (words_of line) ≡ line
join-words line = join_with_byte-slice_split 32 line

any_append : (p : ℕ → Bool) (xs ys : List ℕ) → list_any p xs ≡ false → list_any p ys ≡ false → list_any p (xs ++ ys) ≡ false
any_append p [] ys h k = k
any_append p (x ∷ xs) ys h k =
    let parts = neither (p x) (list_any p xs) h in
    rw (parts.0, any_append p xs ys parts.1 k) refl

-- and have no line feed
pub no_feed-join : (words : List (List ℕ)) → AllByRecursion IsWord words → HasNoFeed (join_with_byte 32 words)
no_feed-join [] h = refl
no_feed-join (word ∷ []) h = h.0.1
no_feed-join (word ∷ other ∷ words) h = any_append is_feed word (32 ∷ join_with_byte 32 (other ∷ words)) h.0.1 (no_feed-join (other ∷ words) h.1)

digits_word : (ds : List ℕ) → all_ascii_digits ds ≡ true → IsWord ds
digits_word [] h = (refl, refl)
digits_word (d ∷ ds) h =
    let parts = tells_all_ascii_digits.parts d ds h in
    let rest = digits_word ds parts.1 in
    let no_space : eqb d 32 ≡ false = grind (arith, nat_tests, parts.0) in
    let no_feed : eqb d 10 ≡ false = grind (arith, nat_tests, parts.0) in
    (rw (no_space, rest.0) refl, rw (no_feed, rest.1) refl)

-- a number is a word
pub decimal_word : (n : ℕ) → n < 2 ^ 64 → IsWord (decimal n)
decimal_word n h = digits_word (decimal n) (digits_decimal own n h)
