-- The words of declarations, as they stand in a text.
use Rattle.std.specs.Prelude.{ℕ, Bool, true, false, if◌then◌else◌, List, [], ◌∷◌, ◌++◌, map, slice_range}
use Rattle.xc_lex.specs.declared.token.Token.{Token}
use Rattle.xc_raw.specs.declared.tree.Raw.{Raw, out-Raw}
use Rattle.xc_raw.specs.declared.word.Word.{Word}
use Rattle.xc_raw.specs.declared.word.Word.TheVariants as word
use Rattle.xc_raw.specs.declared.word.Qualifier.TheVariants as qualifier
use Rattle.xc_raw.specs.Words.{word_of}

abbrev pub word_in : List ℕ → Token → Word
word_in source t = word_of t.kind (slice_range source t.text.start t.text.end)

abbrev pub words_in : List ℕ → List Token → List Word
words_in source ts = map (word_in source) ts

-- from one token on: the words before each struct, the keyword of the struct, and those behind the last one
unfoldable pub words_around : List ℕ → List Token → ℕ → ℕ → List Raw → List Word
words_around source ts at end [] = words_in source (slice_range ts at end)
words_around source ts at end (p ∷ ps) = words_in source (slice_range ts at (out-Raw p).first) ++ word.Struct ∷ words_around source ts (out-Raw p).end end ps

-- the words of a list of specifiers whose parts are its structs
abbrev pub specifier_words : List ℕ → List Token → Raw → List Word
specifier_words source ts specs = words_around source ts (out-Raw specs).first (out-Raw specs).end (out-Raw specs).parts

-- a star or one of its qualifiers
abbrev pub is_of_stars : Word → Bool
is_of_stars word.Star = true
is_of_stars (word.Qualifier qualifier.Const) = true
is_of_stars (word.Qualifier qualifier.Sync) = true
is_of_stars word.Future = true
is_of_stars word.Restrict = true
is_of_stars _ = false

-- the words up to the first that is none of stars
unfoldable pub leading : List Word → List Word
leading [] = []
leading (w ∷ ws) = if is_of_stars w then w ∷ leading ws else []

abbrev pub star_words : List ℕ → List Token → ℕ → ℕ → List Word
star_words source ts from to = leading (words_in source (slice_range ts from to))
