-- The string literals among the tokens of a text (C99 6.4.5).
use Rattle.std.specs.Prelude.{ℕ, ◌==◌, Bool, true, false, if◌then◌else◌, List, [], ◌∷◌, fold, map, position, Option, None, option_map, option_and_then, slice_get, slice_range}
use Rattle.indexmap.specs.IndexSet.{insert_key}
use Rattle.xc_lex.specs.declared.token.Token.{Token}
use Rattle.xc_lex.specs.declared.token.TokenKind.{TokenKind}
use Rattle.xc_lex.specs.declared.token.TokenKind.TheVariants as kind
use Rattle.xc_text_format.specs.Pieces.{pieces_of, conversions_of}
use Rattle.xc_text_place.specs.Stretches.{stretch_eq}
use Rattle.xc_type_literals.specs.declared.texts.Literal.{Literal}

abbrev pub is_text_kind : TokenKind → Bool
is_text_kind kind.Text = true
is_text_kind _ = false

abbrev pub is_text : Token → Bool
is_text t = is_text_kind t.kind

-- the byte of an escape: `\n` is a line feed, `\t` a tab, and `\\` and `\"` are what stands behind the backslash
abbrev pub escape : ℕ → ℕ
escape b = if b == 110 then 10 else if b == 116 then 9 else b

-- the bytes of a string literal up to its closing quote, where the byte before them may begin an escape
abbrev pub bytes_from : Bool → List ℕ → List ℕ
bytes_from escaped [] = []
bytes_from true (b ∷ bs) = escape b ∷ bytes_from false bs
bytes_from false (b ∷ bs) = if b == 34 then [] else if b == 92 then bytes_from true bs else b ∷ bytes_from false bs

-- those behind the first quote
abbrev pub bytes_of : List ℕ → List ℕ
bytes_of [] = []
bytes_of (q ∷ bs) = bytes_from false bs

abbrev pub stretch : Token → ℕ × ℕ
stretch t = (t.text.start, t.text.end)

abbrev pub with_text : List (ℕ × ℕ) → Token → List (ℕ × ℕ)
with_text known t = if is_text t then insert_key stretch_eq known (stretch t) else known

-- where the string literals stand in the source, in the order in which they come first
abbrev pub stretches : List Token → List (ℕ × ℕ)
stretches ts = fold with_text [] ts

-- one that a macro brings has one number, however often the macro is used
abbrev pub number_in : List (ℕ × ℕ) → Token → Option ℕ
number_in known t = if is_text t then position (stretch_eq (stretch t)) known else None

-- the number of each token that is a string literal
abbrev pub numbers_of : List Token → List (Option ℕ)
numbers_of ts = map (number_in (stretches ts)) ts

abbrev pub text_at : List ℕ → ℕ × ℕ → List ℕ
text_at source p = bytes_of (slice_range source p.0 p.1)

-- the bytes of the string literals, by number
abbrev pub formats_of : List ℕ → List Token → List (List ℕ)
formats_of source ts = map (text_at source) (stretches ts)

-- how many values a format takes, none where it is no format
abbrev pub takes : List ℕ → Option ℕ
takes bytes = option_map conversions_of (pieces_of bytes)

-- the same of each of some formats
abbrev pub all_taken : List (List ℕ) → List (Option ℕ)
all_taken formats = map takes formats

abbrev pub literal_of : List (Option ℕ) → ℕ → Literal
literal_of taken n = record { number = n; takes = option_and_then (λ k. k) (slice_get taken n) }

-- what a token is that has a number
abbrev pub literal : List (Option ℕ) → List (Option ℕ) → ℕ → Option Literal
literal numbers taken token = option_map (literal_of taken) (option_and_then (λ n. n) (slice_get numbers token))
