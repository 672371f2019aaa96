-- The tokens of a text, and its first fault.
use Rattle.std.specs.Prelude.{◌≡◌, ◌<◌, ℕ, ◌+◌, ◌-◌, ◌^◌, ◌⊎◌, List, [], ◌++◌, length, drop, if◌then◌else◌, nat_le, Option, Some, None, slice_get}
use Rattle.std.specs.Option.{option_map}
use Rattle.xc_text_place.specs.Place.{IsPosition}
use Rattle.xc_text_place.specs.declared.Pos.{Pos}
use Rattle.xc_lex.specs.declared.token.Token.{Token}
use Rattle.xc_lex.specs.declared.token.TokenKind.TheVariants.{Pragma}
use Rattle.xc_lex.specs.declared.front.Front.TheVariants.{Whole, Hash}
use Rattle.xc_lex.specs.declared.lexer.LexFault.{LexFault}
use Rattle.xc_lex.specs.declared.lexer.LexFault.TheVariants.{NoMemory, At}
use Rattle.xc_lex.specs.Front.{front_of}
use Rattle.xc_lex.specs.Macros.{Macros}
use Rattle.xc_lex.specs.Lines.{Line, line_at}

-- a text has at most as many tokens, once macros are replaced
abbrev pub limit : ℕ
limit = 2 ^ 20

-- the fault of a line behind these tokens, if it has one: the place of the token that passes the limit, or else what the line has no reading for
abbrev pub fault_of : List Token → Line → Option ℕ
fault_of before line =
    if nat_le (length (before ++ line.tokens)) limit then (if line.is_bad then Some line.stop else None)
    else option_map (λ t. t.at.start) (slice_get (before ++ line.tokens) limit)

-- a line begins at `at`, and these macros and tokens stand before it. A line without a fault stops at the text's end or at a line feed, behind which the next one begins
pub data Reached (source : List ℕ) : ℕ → Macros → List Token → Type 0 where
  first : Reached source 0 [] []
  next : {at : ℕ} {ms : Macros} {ts : List Token} → Reached source at ms ts
      → fault_of ts (line_at source ms at) ≡ None
      → (line_at source ms at).stop < length source
      → Reached source ((line_at source ms at).stop + 1) (line_at source ms at).macros (ts ++ (line_at source ms at).tokens)

-- the tokens of the text, whose last line ends where it does
pub record AreTokens (source : List ℕ) (tokens : List Token) : Type 0 where
  pub at : ℕ
  pub macros : Macros
  pub before : List Token
  pub reached : Reached source at macros before
  pub faultless : fault_of before (line_at source macros at) ≡ None
  pub last : (line_at source macros at).stop ≡ length source
  pub tokens_are : tokens ≡ before ++ (line_at source macros at).tokens

-- the place of the first fault of the text
pub record IsFault (source : List ℕ) (place : ℕ) : Type 0 where
  pub at : ℕ
  pub macros : Macros
  pub before : List Token
  pub reached : Reached source at macros before
  pub fault : fault_of before (line_at source macros at) ≡ Some place

abbrev pub FaultFits : List ℕ → LexFault → Type 0
FaultFits source NoMemory = Unit {0}
FaultFits source (At pos) = (place : ℕ) × IsFault source place × IsPosition source place pos

-- a token's text is where the source has a token of its kind: as many of its bytes, or a line from its `#` on
abbrev pub IsSpelled : List ℕ → Token → Type 0
IsSpelled source t =
    (front_of (drop t.text.start source) ≡ Whole t.kind (t.text.end - t.text.start))
    ⊎ ((t.kind ≡ Pragma) × (front_of (drop t.text.start source) ≡ Hash))

-- the text has no other tokens, and no fault
pub record AreOnly (source : List ℕ) (tokens : List Token) : Type 0 where
  pub once : (ts : List Token) → AreTokens source ts → ts ≡ tokens
  pub faultless : (place : ℕ) → IsFault source place → ⊥

-- its first fault is nowhere else, and it has no tokens
pub record IsOnly (source : List ℕ) (pos : Pos) : Type 0 where
  pub once : (place : ℕ) → IsFault source place → IsPosition source place pos
  pub tokenless : (ts : List Token) → AreTokens source ts → ⊥

abbrev pub IsOnlyFault : List ℕ → LexFault → Type 0
IsOnlyFault source NoMemory = Unit {0}
IsOnlyFault source (At pos) = IsOnly source pos
