-- How the words of a text are read, a byte at a time.
use Rattle.std.proofs.Common.{◌≡◌, ℕ, ◌+◌, ◌<◌, ◌≤◌, List, [], ◌∷◌, zero, suc, length, drop, get_or, Bool, true, false, refl, sym, ap, ◌∙◌, subst}
use Rattle.std.specs.Prelude.{Option, Some, None, slice_get, if◌then◌else◌, ◌==◌, ◌||◌, ◌&&◌}
use Rattle.std.proofs.lemmas.List.{drop_more, drop_all}
use Rattle.std.proofs.lemmas.Grind.{common_steps}
use Rattle.xc_type_pragmas.specs.declared.words.Mode.{Mode}
use Rattle.xc_type_pragmas.specs.declared.words.Mode.TheVariants.{Text, Line, Opening, Comment, Closing}
use Rattle.xc_type_pragmas.specs.Words.{is_next, mode_after, is_apart, word_at, words_in}
use Rattle.xc_lex.specs.Bytes.{is_blank}

front_of : (bs : List ℕ) (i : ℕ) → slice_get (drop i bs) 0 ≡ slice_get bs i
front_of bs zero = refl
front_of [] (suc i) = refl
front_of (b ∷ bs) (suc i) = front_of bs i

-- one byte on
apart_step : (mode : Mode) (at b : ℕ) (bs : List ℕ) → is_apart mode b (slice_get bs 0) ≡ true →
    words_in mode None at (b ∷ bs) ≡ words_in (mode_after mode b (slice_get bs 0)) None (at + 1) bs
unfolding words_in
apart_step mode at b bs h = ap (λ c. if c then words_in (mode_after mode b (slice_get bs 0)) None (at + 1) bs else words_in (mode_after mode b (slice_get bs 0)) (Some at) (at + 1) bs) h

begin_step : (mode : Mode) (at b : ℕ) (bs : List ℕ) → is_apart mode b (slice_get bs 0) ≡ false →
    words_in mode None at (b ∷ bs) ≡ words_in (mode_after mode b (slice_get bs 0)) (Some at) (at + 1) bs
unfolding words_in
begin_step mode at b bs h = ap (λ c. if c then words_in (mode_after mode b (slice_get bs 0)) None (at + 1) bs else words_in (mode_after mode b (slice_get bs 0)) (Some at) (at + 1) bs) h

end_step : (mode : Mode) (start at b : ℕ) (bs : List ℕ) → is_apart mode b (slice_get bs 0) ≡ true →
    words_in mode (Some start) at (b ∷ bs) ≡ word_at start at ∷ words_in (mode_after mode b (slice_get bs 0)) None (at + 1) bs
unfolding words_in
end_step mode start at b bs h = ap (λ c. if c then word_at start at ∷ words_in (mode_after mode b (slice_get bs 0)) None (at + 1) bs else words_in (mode_after mode b (slice_get bs 0)) (Some start) (at + 1) bs) h

more_step : (mode : Mode) (start at b : ℕ) (bs : List ℕ) → is_apart mode b (slice_get bs 0) ≡ false →
    words_in mode (Some start) at (b ∷ bs) ≡ words_in (mode_after mode b (slice_get bs 0)) (Some start) (at + 1) bs
unfolding words_in
more_step mode start at b bs h = ap (λ c. if c then word_at start at ∷ words_in (mode_after mode b (slice_get bs 0)) None (at + 1) bs else words_in (mode_after mode b (slice_get bs 0)) (Some start) (at + 1) bs) h

-- a byte that is in a word is outside comments, and so is the next one
text_of : (mode : Mode) (b : ℕ) (next : Option ℕ) → is_apart mode b next ≡ false → mode ≡ Text
unfolding is_apart
text_of Text b next h = refl
text_of Line b next h = absurd cc
text_of Opening b next h = absurd cc
text_of Comment b next h = absurd cc
text_of Closing b next h = absurd cc

text_after : (b : ℕ) (next : Option ℕ) → is_apart Text b next ≡ false → mode_after Text b next ≡ Text
unfolding is_apart mode_after
text_after b next h = by (is_blank b) (b == 47) (is_next 47 next) (is_next 42 next) h
  where
    by : (blank slash line star : Bool) → (blank || (slash && (line || star))) ≡ false → (if slash && line then Line else if slash && star then Opening else Text) ≡ Text
    by true s l c h = absurd cc
    by false false l c h = refl
    by false true true c h = absurd cc
    by false true false true h = absurd cc
    by false true false false h = refl

-- the same in a text, of which the bytes from `at` on are read
pub skips : (text : List ℕ) (mode : Mode) (at : ℕ) → at < length text → is_apart mode (get_or text at 0) (slice_get text (at + 1)) ≡ true →
    words_in (mode_after mode (get_or text at 0) (slice_get text (at + 1))) None (at + 1) (drop (at + 1) text) ≡ words_in mode None at (drop at text)
skips text mode at lt h =
    let e = front_of text (at + 1) in
    sym (ap (words_in mode None at) (drop_more text at 0 lt)
    ∙ apart_step mode at (get_or text at 0) (drop (at + 1) text) (subst (λ o. is_apart mode (get_or text at 0) o ≡ true) (sym e) h)
    ∙ ap (λ o. words_in (mode_after mode (get_or text at 0) o) None (at + 1) (drop (at + 1) text)) e)

pub begins : (text : List ℕ) (mode : Mode) (at : ℕ) → at < length text → is_apart mode (get_or text at 0) (slice_get text (at + 1)) ≡ false →
    words_in mode None at (drop at text) ≡ words_in Text (Some at) (at + 1) (drop (at + 1) text)
begins text mode at lt h =
    let b = get_or text at 0 in
    let next = slice_get text (at + 1) in
    let e = front_of text (at + 1) in
    let is = text_of mode b next h in
    let after = text_after b next (subst (λ m. is_apart m b next ≡ false) is h) in
    ap (words_in mode None at) (drop_more text at 0 lt)
    ∙ begin_step mode at b (drop (at + 1) text) (subst (λ o. is_apart mode b o ≡ false) (sym e) h)
    ∙ ap (λ o. words_in (mode_after mode b o) (Some at) (at + 1) (drop (at + 1) text)) e
    ∙ ap (λ m. words_in (mode_after m b next) (Some at) (at + 1) (drop (at + 1) text)) is
    ∙ ap (λ m. words_in m (Some at) (at + 1) (drop (at + 1) text)) after

pub goes_on : (text : List ℕ) (start at : ℕ) → at < length text → is_apart Text (get_or text at 0) (slice_get text (at + 1)) ≡ false →
    words_in Text (Some start) (at + 1) (drop (at + 1) text) ≡ words_in Text (Some start) at (drop at text)
goes_on text start at lt h =
    let b = get_or text at 0 in
    let next = slice_get text (at + 1) in
    let e = front_of text (at + 1) in
    sym (ap (words_in Text (Some start) at) (drop_more text at 0 lt)
    ∙ more_step Text start at b (drop (at + 1) text) (subst (λ o. is_apart Text b o ≡ false) (sym e) h)
    ∙ ap (λ o. words_in (mode_after Text b o) (Some start) (at + 1) (drop (at + 1) text)) e
    ∙ ap (λ m. words_in m (Some start) (at + 1) (drop (at + 1) text)) (text_after b next h))

pub ends : (text : List ℕ) (start at : ℕ) → at < length text → is_apart Text (get_or text at 0) (slice_get text (at + 1)) ≡ true →
    words_in Text (Some start) at (drop at text) ≡ word_at start at ∷ words_in (mode_after Text (get_or text at 0) (slice_get text (at + 1))) None (at + 1) (drop (at + 1) text)
ends text start at lt h =
    let b = get_or text at 0 in
    let e = front_of text (at + 1) in
    ap (words_in Text (Some start) at) (drop_more text at 0 lt)
    ∙ end_step Text start at b (drop (at + 1) text) (subst (λ o. is_apart Text b o ≡ true) (sym e) h)
    ∙ ap (λ o. word_at start at ∷ words_in (mode_after Text b o) None (at + 1) (drop (at + 1) text)) e

no_words : (mode : Mode) (at : ℕ) → words_in mode None at [] ≡ []
unfolding words_in
no_words mode at = refl

last_word : (mode : Mode) (start at : ℕ) → words_in mode (Some start) at [] ≡ word_at start at ∷ []
unfolding words_in
last_word mode start at = refl

pub over : (text : List ℕ) (mode : Mode) (at : ℕ) → length text ≤ at → words_in mode None at (drop at text) ≡ []
over text mode at h = ap (words_in mode None at) (drop_all at text h) ∙ no_words mode at

pub ends_last : (text : List ℕ) (mode : Mode) (start at : ℕ) → length text ≤ at → words_in Text (Some start) at (drop at text) ≡ word_at start at ∷ words_in mode None at (drop at text)
ends_last text mode start at h = ap (words_in Text (Some start) at) (drop_all at text h) ∙ last_word Text start at ∙ ap (λ ws. word_at start at ∷ ws) (sym (over text mode at h))

pub ruleset reads = (common_steps, skips, begins, goes_on, ends, over, ends_last)
