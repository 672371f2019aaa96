-- The words of a directive's line: a comment is a blank (C99 5.1.1.2, 6.4.9), and blanks separate words.
use Rattle.std.specs.Prelude.{ℕ, ◌+◌, Bool, true, false, ◌==◌, ◌||◌, ◌&&◌, if◌then◌else◌, List, [], ◌∷◌, drop, Option, Some, None, slice_get}
use Rattle.xc_text_place.specs.declared.Span.{Span}
use Rattle.xc_type_pragmas.specs.declared.words.Mode.{Mode}
use Rattle.xc_type_pragmas.specs.declared.words.Mode.TheVariants.{Text, Line, Opening, Comment, Closing}
use Rattle.xc_type_pragmas.specs.declared.words.Cursor.{Cursor}
use Rattle.xc_lex.specs.Bytes.{is_blank}

abbrev pub is_next : ℕ → Option ℕ → Bool
is_next c None = false
is_next c (Some b) = b == c

-- where the byte behind this one stands; 47 is `/`, and 42 is `*`
unfoldable pub mode_after : Mode → ℕ → Option ℕ → Mode
mode_after Text b next = if b == 47 && is_next 47 next then Line else if b == 47 && is_next 42 next then Opening else Text
mode_after Line b next = Line
mode_after Opening b next = Comment
mode_after Comment b next = if b == 42 && is_next 47 next then Closing else Comment
mode_after Closing b next = Text

-- the byte is a blank or one of a comment
unfoldable pub is_apart : Mode → ℕ → Option ℕ → Bool
is_apart Text b next = is_blank b || (b == 47 && (is_next 47 next || is_next 42 next))
is_apart _ b next = true

abbrev pub word_at : ℕ → ℕ → Span
word_at start end = record { start = start; end = end }

-- the words of the bytes that begin at `at`, where `word` is the start of the word that goes on there, if one does
unfoldable pub words_in : Mode → Option ℕ → ℕ → List ℕ → List Span
words_in mode None at [] = []
words_in mode (Some start) at [] = word_at start at ∷ []
words_in mode None at (b ∷ bs) =
    if is_apart mode b (slice_get bs 0) then words_in (mode_after mode b (slice_get bs 0)) None (at + 1) bs
    else words_in (mode_after mode b (slice_get bs 0)) (Some at) (at + 1) bs
words_in mode (Some start) at (b ∷ bs) =
    if is_apart mode b (slice_get bs 0) then word_at start at ∷ words_in (mode_after mode b (slice_get bs 0)) None (at + 1) bs
    else words_in (mode_after mode b (slice_get bs 0)) (Some start) (at + 1) bs

-- the words from a place of the text on
abbrev pub words_from : List ℕ → Cursor → List Span
words_from text c = words_in c.mode None c.at (drop c.at text)

abbrev pub with_word : Option Span → List Span → List Span
with_word None ws = []
with_word (Some w) ws = w ∷ ws
