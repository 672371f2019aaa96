-- Macro replacement (C99 6.10.3, of macros without parameters alone).
use Rattle.std.specs.Prelude.{ℕ, zero, suc, List, [], ◌∷◌, length, Bool, Option, Some, None, is_some, if◌then◌else◌, slice_range}
use Rattle.std.specs.List.{flat_map}
use Rattle.std.specs.Option.{option_map_or}
use Rattle.std.specs.Str.{bytes_eq}
use Rattle.xc_text_place.specs.declared.Span.{Span}
use Rattle.xc_lex.specs.declared.token.Token.{Token}
use Rattle.xc_lex.specs.declared.token.TokenKind.{TokenKind}
use Rattle.xc_lex.specs.declared.token.TokenKind.TheVariants.{Name}

-- the macros so far: the name of each, and its tokens
abbrev pub Macros : Type 0
Macros = List (List ℕ × List Token)

-- the bytes of a span
abbrev pub bytes_of : List ℕ → Span → List ℕ
bytes_of source span = slice_range source span.start span.end

-- what a name stands for
abbrev pub body_of : Macros → List ℕ → Option (List Token)
body_of [] name = None
body_of (m ∷ ms) name = if bytes_eq m.0 name then Some m.1 else body_of ms name

abbrev pub is_defined : Macros → List ℕ → Bool
is_defined ms name = is_some (body_of ms name)

-- the macros but that of this name
abbrev pub without : List ℕ → Macros → Macros
without name [] = []
without name (m ∷ ms) = if bytes_eq m.0 name then ms else m ∷ without name ms

-- what a token stands for: names alone stand for others
abbrev pub replacement_by : TokenKind → Macros → List ℕ → Option (List Token)
replacement_by Name ms name = body_of ms name
replacement_by kind ms name = None

abbrev pub replacement : List ℕ → Macros → Token → Option (List Token)
replacement source ms t = replacement_by t.kind ms (bytes_of source t.text)

-- a token, and all that it stands for, again and again. It stands at `at`. A macro is not known inside its own expansion (6.10.3.4), so no more than n, the number of macros, stand inside one another
abbrev pub replaced : List ℕ → Span → ℕ → Macros → Token → List Token
replaced source at zero ms t = record t { at = at } ∷ []
replaced source at (suc n) ms t =
    option_map_or (λ body. flat_map (λ u. replaced source at n (without (bytes_of source t.text) ms) u) body) (replacement source ms t) (record t { at = at } ∷ [])

-- what the tokens of a text stand for, each where it stands
abbrev pub expanded : List ℕ → Macros → List Token → List Token
expanded source ms ts = flat_map (λ t. replaced source t.at (length ms) ms t) ts
