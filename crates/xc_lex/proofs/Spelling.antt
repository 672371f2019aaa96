-- Each token's text is its slice of the source.
use Rattle.std.proofs.Common.{◌≡◌, ℕ, zero, suc, ◌+◌, ◌-◌, ◌<◌, List, [], ◌∷◌, ◌++◌, drop, length, get_or, true, false, inl, inr, if◌then◌else◌, Some, None, slice_range, refl, sym, ap, ◌∙◌, subst, arith}
use Rattle.std.specs.List.{All, flat_map}
use Rattle.std.specs.Option.{option_map_or}
use Rattle.std.specs.Str.{bytes_eq}
use Rattle.xc_text_place.specs.declared.Span.{Span}
use Rattle.xc_lex.specs.declared.token.Token.{Token}
use Rattle.xc_lex.specs.declared.token.TokenKind.{TokenKind}
use Rattle.xc_lex.specs.declared.token.TokenKind.TheVariants.{Name, Keyword, Number, Text, Punctuator, Pragma}
use Rattle.xc_lex.specs.declared.front.Front.{Front}
use Rattle.xc_lex.specs.declared.front.Front.TheVariants.{End, LineEnd, Blank, Whole, Hash, Bad}
use Rattle.xc_lex.specs.declared.lines.Directive.{Directive}
use Rattle.xc_lex.specs.declared.lines.Directive.TheVariants.{Include, Note, Define, Unknown}
use Rattle.xc_lex.specs.Front.{front_of, rest_front_of}
use Rattle.xc_lex.specs.Macros.{Macros, bytes_of, body_of, is_defined, without, replacement, replacement_by, replaced, expanded}
use Rattle.xc_lex.specs.Lines.{Line, Words, token_of, words_by, words_from, words_at, bad, past_blanks, past_rest, rest_line, body_line, body_at, define_by, directive_of, directive_by, named, hash_line, line_by, line_at}
use Rattle.xc_lex.specs.Source.{IsSpelled, Reached, first, next, AreTokens}

abbrev AreSpelled : List ℕ → List Token → Type 0
AreSpelled source [] = Unit {0}
AreSpelled source (t ∷ ts) = IsSpelled source t × AreSpelled source ts

-- so are those of all macros
abbrev BodiesSpelled : List ℕ → Macros → Type 0
BodiesSpelled source [] = Unit {0}
BodiesSpelled source (m ∷ ms) = AreSpelled source m.1 × BodiesSpelled source ms

append_spelled : (source : List ℕ) (ts us : List Token) → AreSpelled source ts → AreSpelled source us → AreSpelled source (ts ++ us)
append_spelled source [] us all more = more
append_spelled source (t ∷ ts) us all more = (all.0, append_spelled source ts us all.1 more)

push_spelled : (source : List ℕ) (ms : Macros) (name : List ℕ) (body : List Token) → BodiesSpelled source ms → AreSpelled source body → BodiesSpelled source (ms ++ (name, body) ∷ [])
push_spelled source [] name body all each = (each, tt)
push_spelled source (m ∷ ms) name body all each = (all.0, push_spelled source ms name body all.1 each)

each_spelled : (source : List ℕ) (ts : List Token) → AreSpelled source ts → (k : ℕ) (d : Token) → k < length ts → IsSpelled source (get_or ts k d)
each_spelled source [] all k d within = absurd (omega arith)
each_spelled source (t ∷ ts) all zero d within = all.0
each_spelled source (t ∷ ts) all (suc k) d within = each_spelled source ts all.1 k d (omega arith)

record LineSpelled (source : List ℕ) (line : Line) : Type 0 where
  tokens : AreSpelled source line.tokens
  macros : BodiesSpelled source line.macros

-- the words of a line, and what stands behind them
record WordsSpelled (source : List ℕ) (ws : Words) : Type 0 where
  found : AreSpelled source ws.found
  here : ws.front ≡ front_of (drop ws.stop source)

drop_next : (at b : ℕ) (bs source : List ℕ) → drop at source ≡ b ∷ bs → drop (at + 1) source ≡ bs
drop_next zero b bs [] h = absurd (cc)
drop_next zero b bs (x ∷ source) h = ap (drop 1) h
drop_next (suc at) b bs [] h = absurd (cc)
drop_next (suc at) b bs (x ∷ source) h = let e : suc at + 1 ≡ suc (at + 1) = omega arith in ap (λ k. drop k (x ∷ source)) e ∙ drop_next at b bs source h

words_by_spelled : (source : List ℕ) (v : Front) (at : ℕ) (found : List Token) (more : ℕ → List Token → Words) → front_of (drop at source) ≡ v → AreSpelled source found
    → ((skip : ℕ) (found : List Token) → AreSpelled source found → WordsSpelled source (more skip found)) → WordsSpelled source (words_by v at found more)
words_by_spelled source (Blank n) at found more here all further = further (n - 1) found all
words_by_spelled source (Whole kind n) at found more here all further =
    let size : at + n - at ≡ n = omega arith in
    further (n - 1) (found ++ token_of kind at (at + n) ∷ []) (append_spelled source found (token_of kind at (at + n) ∷ []) all (inl (here ∙ ap (λ k. Whole kind k) (sym size)), tt))
words_by_spelled source End at found more here all further = record { found = all; here = sym here }
words_by_spelled source LineEnd at found more here all further = record { found = all; here = sym here }
words_by_spelled source Hash at found more here all further = record { found = all; here = sym here }
words_by_spelled source Bad at found more here all further = record { found = all; here = sym here }

words_from_spelled : (source : List ℕ) (skip at : ℕ) (found : List Token) (bs : List ℕ) → drop at source ≡ bs → AreSpelled source found → WordsSpelled source (words_from skip at found bs)
words_from_spelled source skip at found [] here all = record { found = all; here = ap front_of (sym here) }
words_from_spelled source (suc skip) at found (b ∷ bs) here all = words_from_spelled source skip (at + 1) found bs (drop_next at b bs source here) all
words_from_spelled source zero at found (b ∷ bs) here all =
    words_by_spelled source (front_of (b ∷ bs)) at found (λ skip found. words_from skip (at + 1) found bs) (ap front_of here) all (λ skip found all. words_from_spelled source skip (at + 1) found bs (drop_next at b bs source here) all)

-- replacement keeps spellings
body_of_spelled : (source : List ℕ) (ms : Macros) (name : List ℕ) (body : List Token) → BodiesSpelled source ms → body_of ms name ≡ Some body → AreSpelled source body
body_of_spelled source [] name body all h = absurd (cc)
body_of_spelled source (m ∷ ms) name body all h =
    elim (bytes_eq m.0 name) as (λ v. (if v then Some m.1 else body_of ms name) ≡ Some body → AreSpelled source body) [
      | true ↦ λ h. let same : m.1 ≡ body = cc in subst (AreSpelled source) same all.0
      | false ↦ λ h. body_of_spelled source ms name body all.1 h
    ] h

without_spelled : (source : List ℕ) (name : List ℕ) (ms : Macros) → BodiesSpelled source ms → BodiesSpelled source (without name ms)
without_spelled source name [] all = tt
without_spelled source name (m ∷ ms) all =
    elim (bytes_eq m.0 name) as (λ v. BodiesSpelled source (if v then ms else m ∷ without name ms)) [ true ↦ all.1 | false ↦ (all.0, without_spelled source name ms all.1) ]

by_kind : (kind : TokenKind) (source : List ℕ) (ms : Macros) (name : List ℕ) (body : List Token) → BodiesSpelled source ms → replacement_by kind ms name ≡ Some body → AreSpelled source body
by_kind Name source ms name body all h = body_of_spelled source ms name body all h
by_kind Keyword source ms name body all h = absurd (cc)
by_kind Number source ms name body all h = absurd (cc)
by_kind Text source ms name body all h = absurd (cc)
by_kind Punctuator source ms name body all h = absurd (cc)
by_kind Pragma source ms name body all h = absurd (cc)

flat_map_spelled : (source : List ℕ) (f : Token → List Token) (ts : List Token) → AreSpelled source ts → ((t : Token) → IsSpelled source t → AreSpelled source (f t)) → AreSpelled source (flat_map f ts)
flat_map_spelled source f [] all each = tt
flat_map_spelled source f (t ∷ ts) all each = append_spelled source (f t) (flat_map f ts) (each t all.0) (flat_map_spelled source f ts all.1 each)

replaced_spelled : (source : List ℕ) (at : Span) (n : ℕ) (ms : Macros) (t : Token) → BodiesSpelled source ms → IsSpelled source t → AreSpelled source (replaced source at n ms t)
replaced_spelled source at zero ms t all one = (one, tt)
replaced_spelled source at (suc n) ms t all one =
    let ns = without (bytes_of source t.text) ms in
    elim (replacement source ms t) as (λ v. replacement source ms t ≡ v → AreSpelled source (option_map_or (λ body. flat_map (λ u. replaced source at n ns u) body) v (record t { at = at } ∷ []))) [
      | None ↦ λ e. (one, tt)
      | Some body ↦ λ e. flat_map_spelled source (λ u. replaced source at n ns u) body (by_kind t.kind source ms (bytes_of source t.text) body all e) (λ u of_u. replaced_spelled source at n ns u (without_spelled source (bytes_of source t.text) ms all) of_u)
    ] refl

expanded_spelled : (source : List ℕ) (ms : Macros) (ts : List Token) → BodiesSpelled source ms → AreSpelled source ts → AreSpelled source (expanded source ms ts)
expanded_spelled source ms ts all each = flat_map_spelled source _ ts each (λ t one. replaced_spelled source t.at (length ms) ms t all one)

-- directives
rest_spelled : (source : List ℕ) (v : Front) (ms : Macros) (ts : List Token) (end : ℕ) → BodiesSpelled source ms → AreSpelled source ts → LineSpelled source (rest_line v ms ts end)
rest_spelled source Bad ms ts end all each = record { tokens = tt; macros = all }
rest_spelled source End ms ts end all each = record { tokens = each; macros = all }
rest_spelled source LineEnd ms ts end all each = record { tokens = each; macros = all }
rest_spelled source Hash ms ts end all each = record { tokens = each; macros = all }
rest_spelled source (Blank n) ms ts end all each = record { tokens = each; macros = all }
rest_spelled source (Whole kind n) ms ts end all each = record { tokens = each; macros = all }

body_spelled : (source : List ℕ) (v : Front) (ms : Macros) (name : List ℕ) (body : List Token) (end : ℕ) → BodiesSpelled source ms → AreSpelled source body → LineSpelled source (body_line v ms name body end)
body_spelled source End ms name body end all each = record { tokens = tt; macros = push_spelled source ms name body all each }
body_spelled source LineEnd ms name body end all each = record { tokens = tt; macros = push_spelled source ms name body all each }
body_spelled source Bad ms name body end all each = record { tokens = tt; macros = all }
body_spelled source Hash ms name body end all each = record { tokens = tt; macros = all }
body_spelled source (Blank n) ms name body end all each = record { tokens = tt; macros = all }
body_spelled source (Whole kind n) ms name body end all each = record { tokens = tt; macros = all }

define_spelled : (v : Front) (source : List ℕ) (ms : Macros) (hash at : ℕ) → BodiesSpelled source ms → LineSpelled source (define_by v source ms hash at)
define_spelled (Whole Name n) source ms hash at all =
    let ws = words_at source (at + n) in
    elim (is_defined ms (slice_range source at (at + n))) as (λ v. LineSpelled source (if v then bad ms [] hash else body_at source ms (slice_range source at (at + n)) (at + n))) [
      | true ↦ record { tokens = tt; macros = all }
      | false ↦ body_spelled source ws.front ms (slice_range source at (at + n)) ws.found ws.stop all (words_from_spelled source 0 (at + n) [] (drop (at + n) source) refl tt).found
    ]
define_spelled (Whole Keyword n) source ms hash at all = record { tokens = tt; macros = all }
define_spelled (Whole Number n) source ms hash at all = record { tokens = tt; macros = all }
define_spelled (Whole Text n) source ms hash at all = record { tokens = tt; macros = all }
define_spelled (Whole Punctuator n) source ms hash at all = record { tokens = tt; macros = all }
define_spelled (Whole Pragma n) source ms hash at all = record { tokens = tt; macros = all }
define_spelled End source ms hash at all = record { tokens = tt; macros = all }
define_spelled LineEnd source ms hash at all = record { tokens = tt; macros = all }
define_spelled Hash source ms hash at all = record { tokens = tt; macros = all }
define_spelled Bad source ms hash at all = record { tokens = tt; macros = all }
define_spelled (Blank n) source ms hash at all = record { tokens = tt; macros = all }

named_spelled : (d : Directive) (source : List ℕ) (ms : Macros) (hash at : ℕ) → BodiesSpelled source ms → front_of (drop hash source) ≡ Hash → LineSpelled source (named d source ms hash at)
named_spelled Include source ms hash at all here = rest_spelled source (rest_front_of (drop (past_rest source at) source)) ms [] (past_rest source at) all tt
named_spelled Note source ms hash at all here = rest_spelled source (rest_front_of (drop (past_rest source at) source)) ms (token_of Pragma hash (past_rest source at) ∷ []) (past_rest source at) all (inr (refl, here), tt)
named_spelled Define source ms hash at all here = define_spelled (front_of (drop (past_blanks source at) source)) source ms hash (past_blanks source at) all
named_spelled Unknown source ms hash at all here = record { tokens = tt; macros = all }

directive_spelled : (v : Front) (source : List ℕ) (ms : Macros) (hash at : ℕ) → BodiesSpelled source ms → front_of (drop hash source) ≡ Hash → LineSpelled source (directive_by v source ms hash at)
directive_spelled (Whole Name n) source ms hash at all here = named_spelled (directive_of (slice_range source at (at + n))) source ms hash (at + n) all here
directive_spelled (Whole Keyword n) source ms hash at all here = record { tokens = tt; macros = all }
directive_spelled (Whole Number n) source ms hash at all here = record { tokens = tt; macros = all }
directive_spelled (Whole Text n) source ms hash at all here = record { tokens = tt; macros = all }
directive_spelled (Whole Punctuator n) source ms hash at all here = record { tokens = tt; macros = all }
directive_spelled (Whole Pragma n) source ms hash at all here = record { tokens = tt; macros = all }
directive_spelled End source ms hash at all here = record { tokens = tt; macros = all }
directive_spelled LineEnd source ms hash at all here = record { tokens = tt; macros = all }
directive_spelled Hash source ms hash at all here = record { tokens = tt; macros = all }
directive_spelled Bad source ms hash at all here = record { tokens = tt; macros = all }
directive_spelled (Blank n) source ms hash at all here = record { tokens = tt; macros = all }

hash_spelled : (found : List Token) (source : List ℕ) (ms : Macros) (hash : ℕ) → BodiesSpelled source ms → AreSpelled source found → front_of (drop hash source) ≡ Hash → LineSpelled source (hash_line found source ms hash)
hash_spelled [] source ms hash all each here = directive_spelled (front_of (drop (past_blanks source (hash + 1)) source)) source ms hash (past_blanks source (hash + 1)) all here
hash_spelled (t ∷ ts) source ms hash all each here = record { tokens = expanded_spelled source ms (t ∷ ts) all each; macros = all }

line_by_spelled : (v : Front) (source : List ℕ) (ms : Macros) (found : List Token) (stop : ℕ) → BodiesSpelled source ms → AreSpelled source found → v ≡ front_of (drop stop source) → LineSpelled source (line_by v source ms found stop)
line_by_spelled Hash source ms found stop all each here = hash_spelled found source ms stop all each (sym here)
line_by_spelled Bad source ms found stop all each here = record { tokens = expanded_spelled source ms found all each; macros = all }
line_by_spelled End source ms found stop all each here = record { tokens = expanded_spelled source ms found all each; macros = all }
line_by_spelled LineEnd source ms found stop all each here = record { tokens = expanded_spelled source ms found all each; macros = all }
line_by_spelled (Blank n) source ms found stop all each here = record { tokens = expanded_spelled source ms found all each; macros = all }
line_by_spelled (Whole kind n) source ms found stop all each here = record { tokens = expanded_spelled source ms found all each; macros = all }

line_spelled : (source : List ℕ) (ms : Macros) (at : ℕ) → BodiesSpelled source ms → LineSpelled source (line_at source ms at)
line_spelled source ms at all =
    let ws = words_from_spelled source 0 at [] (drop at source) refl tt in
    line_by_spelled (words_at source at).front source ms (words_at source at).found (words_at source at).stop all ws.found ws.here

reached_spelled : (source : List ℕ) (at : ℕ) (ms : Macros) (ts : List Token) → Reached source at ms ts → BodiesSpelled source ms × AreSpelled source ts
reached_spelled source at ms ts first = (tt, tt)
reached_spelled source at ms ts (next {at = at'} {ms = ms'} {ts = ts'} r fine far) =
    let before = reached_spelled source at' ms' ts' r in
    let line = line_spelled source ms' at' before.0 in
    (line.macros, append_spelled source ts' (line_at source ms' at').tokens before.1 line.tokens)

-- each token's text is a token of its kind in the source
pub tokens_spelled : (source : List ℕ) (ts : List Token) → AreTokens source ts → All (IsSpelled source) ts
tokens_spelled source ts h =
    let before = reached_spelled source h.at h.macros h.before h.reached in
    each_spelled source ts (subst (AreSpelled source) (sym h.tokens_are) (append_spelled source h.before (line_at source h.macros h.at).tokens before.1 (line_spelled source h.macros h.at before.0).tokens))
