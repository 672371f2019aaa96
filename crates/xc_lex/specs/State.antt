-- The macros as the code keeps them, and what is still to be replaced.
use Rattle.std.specs.Prelude.{◌≡◌, ◌≤◌, ◌<◌, ℕ, zero, suc, ◌+◌, ◌^◌, List, [], ◌∷◌, ◌++◌, length, map, Bool, true, false, ◌==◌, ◌&&◌, ◌⊎◌, if◌then◌else◌, Option, None, IsSome, slice_index_or, slice_set, slice_range}
use Rattle.std.specs.List.{flat_map, list_any}
use Rattle.std.specs.Str.{bytes_eq}
use Rattle.xc_text_place.specs.declared.Span.{Span}
use Rattle.xc_lex.specs.declared.token.Token.{Token}
use Rattle.xc_lex.specs.declared.token.TokenKind.TheVariants.{Name}
use Rattle.xc_lex.specs.declared.macros.Macro.{Macro}
use Rattle.xc_lex.specs.declared.macros.Made.{Made}
use Rattle.xc_lex.specs.declared.stop.Stop.{Stop}
use Rattle.xc_lex.specs.declared.stop.Stop.TheVariants.{NoMemory, At}
use Rattle.xc_lex.specs.Macros.{Macros, bytes_of, replacement, replaced}

abbrev pub entry_of : List ℕ → Macro → List ℕ × List Token
entry_of source m = (bytes_of source m.name, m.body.items)

abbrev pub all_of : List ℕ → List Macro → Macros
all_of source ms = map (entry_of source) ms

-- those that are not opened
abbrev pub visible : List ℕ → List Macro → List Bool → Macros
visible source [] opened = []
visible source (m ∷ ms) [] = entry_of source m ∷ visible source ms []
visible source (m ∷ ms) (true ∷ opened) = visible source ms opened
visible source (m ∷ ms) (false ∷ opened) = entry_of source m ∷ visible source ms opened

-- the number of the macro of this name, or how many macros there are
abbrev pub index_of : List ℕ → List Macro → List ℕ → ℕ
index_of source [] name = 0
index_of source (m ∷ ms) name = if bytes_eq (bytes_of source m.name) name then 0 else suc (index_of source ms name)

-- no two have one name
abbrev pub AreApart : List ℕ → List Macro → Type 0
AreApart source [] = Unit {0}
AreApart source (m ∷ ms) = (index_of source ms (bytes_of source m.name) ≡ length ms) × AreApart source ms

-- each name has a number
abbrev pub AreNumbered : List ℕ → List Macro → (List ℕ → Option ℕ) → Type 0
AreNumbered source [] numbers = Unit {0}
AreNumbered source (m ∷ ms) numbers = IsSome (numbers (bytes_of source m.name)) × AreNumbered source ms numbers

abbrev pub tokens_of : List Macro → ℕ → List Token
tokens_of [] i = []
tokens_of (m ∷ ms) zero = m.body.items
tokens_of (m ∷ ms) (suc i) = tokens_of ms i

abbrev pub is_set : List Bool → ℕ → Bool
is_set bs i = slice_index_or bs i false

abbrev pub is_in : ℕ → List ℕ → Bool
is_in i known = list_any (λ j. j == i) known

-- a token is the name of a macro
pub record Names (source : List ℕ) (ms : List Macro) (t : Token) (i : ℕ) : Type 0 where
  pub kind : t.kind ≡ Name
  pub index : i ≡ index_of source ms (bytes_of source t.text)
  pub within : i < length ms

-- or of none, whatever is opened
abbrev pub NamesNone : List ℕ → List Macro → Token → Type 0
NamesNone source ms t = (opened : List Bool) → replacement source (visible source ms opened) t ≡ None

-- no macro is opened
abbrev pub shut : List Macro → List Bool
shut [] = []
shut (m ∷ ms) = false ∷ shut ms

-- what a macro stands for was never made
abbrev pub unmade : Made
unmade = record { from = 0; to = 0; macros = 0; anywhere = false }

-- where the tokens stand that a macro stands for, if they were made
abbrev pub made_of : List Made → ℕ → Made
made_of made i = slice_index_or made i unmade

-- they were, behind the last `define`
abbrev pub is_made : List Macro → List Made → ℕ → Bool
is_made ms made i = (made_of made i).macros == length ms

-- and they are the same wherever the macro is met
abbrev pub is_fixed : List Macro → List Made → ℕ → Bool
is_fixed ms made i = is_made ms made i && (made_of made i).anywhere

-- each of the tokens is the name of no macro, or of one of these
abbrev pub AreOf : List ℕ → List Macro → List ℕ → List Token → Type 0
AreOf source ms known [] = Unit {0}
AreOf source ms known (t ∷ ts) = (NamesNone source ms t ⊎ ((i : ℕ) × Names source ms t i × (is_in i known ≡ true))) × AreOf source ms known ts

-- macros none of which is in its own expansion: each names those behind it alone
abbrev pub AreOrdered : List ℕ → List Macro → List ℕ → Type 0
AreOrdered source ms [] = Unit {0}
AreOrdered source ms (i ∷ known) = (is_in i known ≡ false) × AreOf source ms known (tokens_of ms i) × AreOrdered source ms known

-- a token at another place
abbrev pub moved : Span → Token → Token
moved at t = record t { at = at }

-- what a token is replaced by under the visible macros
abbrev pub now_replaced : List ℕ → Span → List Macro → List Bool → Token → List Token
now_replaced source at ms opened t = replaced source at (length (visible source ms opened)) (visible source ms opened) t

-- the tokens of a macro, replaced, stand in a range of the tokens
pub record IsPlaced (source : List ℕ) (ms : List Macro) (tokens : List Token) (i : ℕ) (m : Made) : Type 0 where
  pub ordered : m.from ≤ m.to
  pub within : m.to ≤ length tokens
  pub same : (at : Span) → map (moved at) (slice_range tokens m.from m.to) ≡ flat_map (now_replaced source at ms (slice_set (shut ms) i true)) (tokens_of ms i)

-- what each macro whose tokens were made stands for is where it is said to be; of those that are the same anywhere none is opened
pub record MadeFits (source : List ℕ) (ms : List Macro) (opened : List Bool) (made : List Made) (tokens : List Token) : Type 0 where
  pub known : List ℕ
  pub ordered : AreOrdered source ms known
  pub flagged : (i : ℕ) → i < length ms → is_fixed ms made i ≡ is_in i known
  pub closed : (i : ℕ) → is_in i known ≡ true → is_set opened i ≡ false
  pub placed : (i : ℕ) → i < length ms → is_made ms made i ≡ true → IsPlaced source ms tokens i (made_of made i)

-- the macros as they are kept
pub record IsKept (source : List ℕ) (ms : List Macro) (opened : List Bool) (made : List Made) : Type 0 where
  pub opened_len : length opened ≡ length ms
  pub made_len : length made ≡ length ms
  pub apart : AreApart source ms
  pub past : (i : ℕ) → (made_of made i).macros ≤ length ms

-- what is added to the tokens passes the limit, with a token that stands at this place
abbrev pub Passes : Span → List Token → List Token → Stop → Type 0
Passes at ts more NoMemory = Unit {0}
Passes at ts more (At place) = (place ≡ at.start) × (length ts ≤ 2 ^ 20) × (2 ^ 20 < length (ts ++ more))

-- what a token stands for was added
pub record Replaced (source : List ℕ) (ms : List Macro) (opened : List Bool) (tokens : List Token) (t : Token) (opened' : List Bool) (made' : List Made) (tokens' : List Token) : Type 0 where
  pub kept : IsKept source ms opened' made'
  pub fits : MadeFits source ms opened' made' tokens'
  pub unwinds : opened' ≡ opened
  pub told : tokens' ≡ tokens ++ now_replaced source t.at ms opened t
  pub few : length tokens' ≤ 2 ^ 20
