-- What only private functions and proofs speak of, beside `Steps`.
use Rattle.std.specs.Prelude.{◌≡◌, ◌≤◌, ℕ, ◌^◌, List, [], ◌∷◌, ◌++◌, length, drop, Bool, true, false, Some}
use Rattle.xc_lex.specs.declared.token.Token.{Token}
use Rattle.xc_lex.specs.declared.token.TokenKind.TheVariants.{Pragma}
use Rattle.xc_lex.specs.declared.macros.Macro.{Macro}
use Rattle.xc_lex.specs.declared.macros.Made.{Made}
use Rattle.xc_lex.specs.declared.stop.Stop.{Stop}
use Rattle.xc_lex.specs.declared.stop.Stop.TheVariants.{NoMemory, At}
use Rattle.xc_lex.specs.declared.front.Front.{Front}
use Rattle.xc_lex.specs.declared.lines.Part.{Part}
use Rattle.xc_lex.specs.declared.lines.Part.TheVariants.{Tokens, Rest}
use Rattle.xc_lex.specs.Front.{front_of, rest_front_of}
use Rattle.xc_lex.specs.Macros.{Macros, replaced, expanded}
use Rattle.xc_lex.specs.Lines.{Words, words_at, words_from, Line, good, bad, rest_line, body_line, pragma_at, token_of}
use Rattle.xc_lex.specs.Source.{fault_of}
use Rattle.xc_lex.specs.State.{all_of, MadeFits, Passes}
use Rattle.xc_lex.specs.Steps.{IsIdle}

abbrev pub front_in : Part → List ℕ → Front
front_in Tokens = front_of
front_in Rest = rest_front_of

abbrev pub is_nil : List Token → Bool
is_nil [] = true
is_nil (t ∷ ts) = false

-- words were read from a place up to another, and replaced
pub record SoFar (source : List ℕ) (ms : List Macro) (start : ℕ) (before : List Token) (at : ℕ) (fresh : Bool) (tokens : List Token) : Type 0 where
  pub found : List Token
  pub same : words_at source start ≡ words_from 0 at found (drop at source)
  pub told : tokens ≡ before ++ expanded source (all_of source ms) found
  pub is_fresh : fresh ≡ is_nil found

-- all words were
pub record AllWords (source : List ℕ) (ms : List Macro) (start : ℕ) (before : List Token) (at : ℕ) (front : Front) (fresh : Bool) (tokens : List Token) : Type 0 where
  pub found : List Token
  pub same : words_at source start ≡ record { found = found; stop = at; front = front }
  pub told : tokens ≡ before ++ expanded source (all_of source ms) found
  pub is_fresh : fresh ≡ is_nil found

-- a word passes the limit
pub record TooMany (source : List ℕ) (ms : List Macro) (start : ℕ) (before : List Token) (stop : Stop) : Type 0 where
  pub found : List Token
  pub word : Token
  pub later : List Token
  pub words : (words_at source start).found ≡ found ++ word ∷ later
  pub passes : Passes word.at (before ++ expanded source (all_of source ms) found) (replaced source word.at (length (all_of source ms)) (all_of source ms) word) stop

abbrev pub WordsStop : List ℕ → List Macro → ℕ → List Token → Stop → Type 0
WordsStop source ms start before NoMemory = Unit {0}
WordsStop source ms start before (At place) = TooMany source ms start before (At place)

-- the rest of a line is good or bad
abbrev pub RestEnds : Front → ℕ → ℕ → Type 0
RestEnds front end at = (end ≡ at) × ((ms : Macros) → (ts : List Token) → rest_line front ms ts end ≡ good ms ts at)

abbrev pub RestStops : Front → ℕ → Stop → Type 0
RestStops front end NoMemory = Unit {0}
RestStops front end (At place) = (ms : Macros) → (ts : List Token) → rest_line front ms ts end ≡ bad ms [] place

-- so are a macro's tokens
pub record BodyEnds (words : Words) (body : List Token) (at : ℕ) : Type 0 where
  pub found : words.found ≡ body
  pub ends : (ms : Macros) (name : List ℕ) → body_line words.front ms name words.found words.stop ≡ good (ms ++ (name, body) ∷ []) [] at

abbrev pub BodyStops : Words → Stop → Type 0
BodyStops words NoMemory = Unit {0}
BodyStops words (At place) = (ms : Macros) → (name : List ℕ) → body_line words.front ms name words.found words.stop ≡ bad ms [] place

-- a directive was read, with these tokens. What was made before is forgotten
pub record DirectiveRead (source : List ℕ) (line : Line) (ts : List Token) (at : ℕ) (ms : List Macro) (opened : List Bool) (made : List Made) : Type 0 where
  pub idle : IsIdle source ms opened made
  pub fits : (tokens : List Token) → MadeFits source ms opened made tokens
  pub same : line ≡ good (all_of source ms) ts at

abbrev pub DirectiveStops : Line → Macros → Stop → Type 0
DirectiveStops line ms NoMemory = Unit {0}
DirectiveStops line ms (At place) = line ≡ bad ms [] place

-- a pragma was read, whatever macros are known
pub record PragmaRead (source : List ℕ) (hash start at : ℕ) (before after : List Token) : Type 0 where
  pub same : (ms : Macros) → pragma_at source ms hash start ≡ good ms (token_of Pragma hash at ∷ []) at
  pub told : after ≡ before ++ token_of Pragma hash at ∷ []
  pub few : length after ≤ 2 ^ 20

abbrev pub PragmaStops : List ℕ → ℕ → ℕ → List Token → Stop → Type 0
PragmaStops source hash start before NoMemory = Unit {0}
PragmaStops source hash start before (At place) = (ms : Macros) → fault_of before (pragma_at source ms hash start) ≡ Some place
