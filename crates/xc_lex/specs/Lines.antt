-- The lines of a text: tokens, or one directive (C99 6.10).
use Rattle.std.specs.Prelude.{ℕ, zero, suc, ◌+◌, ◌-◌, List, [], ◌∷◌, ◌++◌, drop, Bool, true, false, if◌then◌else◌, codes, slice_range}
use Rattle.std.specs.Str.{bytes_eq}
use Rattle.xc_lex.specs.declared.token.Token.{Token}
use Rattle.xc_lex.specs.declared.token.TokenKind.{TokenKind}
use Rattle.xc_lex.specs.declared.token.TokenKind.TheVariants.{Name, Pragma}
use Rattle.xc_lex.specs.declared.front.Front.{Front}
use Rattle.xc_lex.specs.declared.front.Front.TheVariants.{End, LineEnd, Blank, Whole, Hash, Bad}
use Rattle.xc_lex.specs.declared.lines.Directive.{Directive}
use Rattle.xc_lex.specs.declared.lines.Directive.TheVariants.{Include, Note, Define, Unknown}
use Rattle.xc_lex.specs.Front.{front_of, rest_front_of}
use Rattle.xc_lex.specs.Macros.{Macros, is_defined, expanded}

-- a token that stands where its bytes do
abbrev pub token_of : TokenKind → ℕ → ℕ → Token
token_of kind start end = record { kind = kind; text = record { start = start; end = end }; at = record { start = start; end = end } }

-- tokens with blanks between them, up to a place where neither stands, and what stands there
pub record Words : Type 0 where
  pub found : List Token
  pub stop : ℕ
  pub front : Front

-- what stands at the front goes before the rest, which `more` reads behind as many further bytes
abbrev pub words_by : Front → ℕ → List Token → (ℕ → List Token → Words) → Words
words_by (Blank n) at found more = more (n - 1) found
words_by (Whole kind n) at found more = more (n - 1) (found ++ token_of kind at (at + n) ∷ [])
words_by front at found more = record { found = found; stop = at; front = front }

-- the words from the bytes on that stand at `at`, behind others; the first `skip` bytes belong to what was read last
abbrev pub words_from : ℕ → ℕ → List Token → List ℕ → Words
words_from skip at found [] = record { found = found; stop = at; front = End }
words_from (suc skip) at found (b ∷ bs) = words_from skip (at + 1) found bs
words_from zero at found (b ∷ bs) = words_by (front_of (b ∷ bs)) at found (λ skip found. words_from skip (at + 1) found bs)

abbrev pub words_at : List ℕ → ℕ → Words
words_at source at = words_from 0 at [] (drop at source)

abbrev pub blanks_by : Front → ℕ → (ℕ → ℕ) → ℕ
blanks_by (Blank n) at more = more (n - 1)
blanks_by front at more = at

-- where the first byte stands that is no blank, by the fronts given
abbrev pub blanks_from : (List ℕ → Front) → ℕ → ℕ → List ℕ → ℕ
blanks_from front skip at [] = at
blanks_from front (suc skip) at (b ∷ bs) = blanks_from front skip (at + 1) bs
blanks_from front zero at (b ∷ bs) = blanks_by (front (b ∷ bs)) at (λ skip. blanks_from front skip (at + 1) bs)

abbrev pub past_blanks : List ℕ → ℕ → ℕ
past_blanks source at = blanks_from front_of 0 at (drop at source)

abbrev pub past_rest : List ℕ → ℕ → ℕ
past_rest source at = blanks_from rest_front_of 0 at (drop at source)

-- what a line is: where it ends, or the fault in it stands; the macros known behind it, and the tokens up to there
pub record Line : Type 0 where
  pub stop : ℕ
  pub is_bad : Bool
  pub macros : Macros
  pub tokens : List Token

abbrev pub good : Macros → List Token → ℕ → Line
good ms ts end = record { stop = end; is_bad = false; macros = ms; tokens = ts }

abbrev pub bad : Macros → List Token → ℕ → Line
bad ms ts place = record { stop = place; is_bad = true; macros = ms; tokens = ts }

-- the rest of an `include` or `pragma` line, up to a place
abbrev pub rest_line : Front → Macros → List Token → ℕ → Line
rest_line Bad ms ts end = bad ms [] end
rest_line front ms ts end = good ms ts end

-- the tokens of a macro
abbrev pub body_line : Front → Macros → List ℕ → List Token → ℕ → Line
body_line End ms name body end = good (ms ++ (name, body) ∷ []) [] end
body_line LineEnd ms name body end = good (ms ++ (name, body) ∷ []) [] end
body_line front ms name body end = bad ms [] end

abbrev pub body_at : List ℕ → Macros → List ℕ → ℕ → Line
body_at source ms name at = let ws = words_at source at in body_line ws.front ms name ws.found ws.stop

-- `define` wants a name that is new; keywords are none. Without one the fault is the `#` at `hash`
abbrev pub define_by : Front → List ℕ → Macros → ℕ → ℕ → Line
define_by (Whole Name n) source ms hash at =
    if is_defined ms (slice_range source at (at + n)) then bad ms [] hash
    else body_at source ms (slice_range source at (at + n)) (at + n)
define_by front source ms hash at = bad ms [] hash

abbrev pub define_at : List ℕ → Macros → ℕ → ℕ → Line
define_at source ms hash at = define_by (front_of (drop (past_blanks source at) source)) source ms hash (past_blanks source at)

abbrev pub include_at : List ℕ → Macros → ℕ → Line
include_at source ms at = rest_line (rest_front_of (drop (past_rest source at) source)) ms [] (past_rest source at)

-- a pragma is one token, from its `#` to the end of its line
abbrev pub pragma_at : List ℕ → Macros → ℕ → ℕ → Line
pragma_at source ms hash at = rest_line (rest_front_of (drop (past_rest source at) source)) ms (token_of Pragma hash (past_rest source at) ∷ []) (past_rest source at)

-- the name of a directive
abbrev pub directive_of : List ℕ → Directive
directive_of name =
    if bytes_eq name (codes "include") then Include
    else if bytes_eq name (codes "pragma") then Note
    else if bytes_eq name (codes "define") then Define
    else Unknown

-- the directive whose name ends at `at`
abbrev pub named : Directive → List ℕ → Macros → ℕ → ℕ → Line
named Include source ms hash at = include_at source ms at
named Note source ms hash at = pragma_at source ms hash at
named Define source ms hash at = define_at source ms hash at
named Unknown source ms hash at = bad ms [] hash

abbrev pub directive_by : Front → List ℕ → Macros → ℕ → ℕ → Line
directive_by (Whole Name n) source ms hash at = named (directive_of (slice_range source at (at + n))) source ms hash (at + n)
directive_by front source ms hash at = bad ms [] hash

abbrev pub directive_at : List ℕ → Macros → ℕ → Line
directive_at source ms hash = directive_by (front_of (drop (past_blanks source (hash + 1)) source)) source ms hash (past_blanks source (hash + 1))

-- `#` is a directive where it is the first of its line, and else a fault
abbrev pub hash_line : List Token → List ℕ → Macros → ℕ → Line
hash_line [] source ms hash = directive_at source ms hash
hash_line (t ∷ ts) source ms hash = bad ms (expanded source ms (t ∷ ts)) hash

abbrev pub line_by : Front → List ℕ → Macros → List Token → ℕ → Line
line_by Hash source ms found stop = hash_line found source ms stop
line_by Bad source ms found stop = bad ms (expanded source ms found) stop
line_by front source ms found stop = good ms (expanded source ms found) stop

-- the line that begins at a place, where these macros are known
abbrev pub line_at : List ℕ → Macros → ℕ → Line
line_at source ms at = let ws = words_at source at in line_by ws.front source ms ws.found ws.stop
