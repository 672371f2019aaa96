-- What the words of a line add to the tokens.
use Rattle.std.proofs.Common.{◌≡◌, ◌≤◌, ◌<◌, ℕ, zero, suc, ◌+◌, ◌-◌, List, [], ◌∷◌, ◌++◌, length, drop, Bool, true, false, refl, sym, ap, ◌∙◌, subst, append_assoc}
use Rattle.std.proofs.lemmas.Grind.{flat_map-append}
use Rattle.std.proofs.lemmas.List.{append-nil}
use Rattle.xc_lex.specs.declared.token.Token.{Token}
use Rattle.xc_lex.specs.declared.token.TokenKind.{TokenKind}
use Rattle.xc_lex.specs.declared.macros.Macro.{Macro}
use Rattle.xc_lex.specs.declared.macros.Made.{Made}
use Rattle.xc_lex.specs.declared.stop.Stop.{Stop}
use Rattle.xc_lex.specs.declared.stop.Stop.TheVariants.{NoMemory, At}
use Rattle.xc_lex.specs.declared.front.Front.{Front}
use Rattle.xc_lex.specs.declared.front.Front.TheVariants.{End, LineEnd, Blank, Whole, Hash, Bad}
use Rattle.xc_lex.specs.Front.{front_of}
use Rattle.xc_lex.specs.Macros.{replaced, expanded}
use Rattle.xc_lex.specs.Lines.{Words, token_of, words_by, words_from}
use Rattle.xc_lex.specs.State.{entry_of, all_of, visible, shut, MadeFits, now_replaced, Replaced, Passes}
use Rattle.xc_lex.specs.Steps.{IsIdle}
use Rattle.xc_lex.specs.InnerSteps.{is_nil, SoFar, AllWords, TooMany, WordsStop}
use Rattle.xc_lex.proofs.Scanning.{words_blank_at, words_whole_at, words_stop}

pub SoFar-start : (source : List ℕ) (ms : List Macro) (start : ℕ) (before : List Token) → SoFar source ms start before start true before
SoFar-start source ms start before = record { found = []; same = refl; told = sym (append-nil before); is_fresh = refl }

pub SoFar-blank : (source : List ℕ) (ms : List Macro) (start : ℕ) (before : List Token) (at : ℕ) (fresh : Bool) (tokens : List Token) (n : ℕ) → front_of (drop at source) ≡ Blank n → 0 < n → n ≤ length (drop at source)
    → SoFar source ms start before at fresh tokens → SoFar source ms start before (at + n) fresh tokens
SoFar-blank source ms start before at fresh tokens n f some h s = record { found = s.found; same = s.same ∙ words_blank_at source at s.found n f some h; told = s.told; is_fresh = s.is_fresh }

nil_push : (ts : List Token) (t : Token) → false ≡ is_nil (ts ++ t ∷ [])
nil_push [] t = refl
nil_push (u ∷ ts) t = refl

pub SoFar-whole : (source : List ℕ) (ms : List Macro) (start : ℕ) (before : List Token) (at : ℕ) (fresh : Bool) (tokens tokens' : List Token) (kind : TokenKind) (n : ℕ) → front_of (drop at source) ≡ Whole kind n → 0 < n → n ≤ length (drop at source)
    → tokens' ≡ tokens ++ replaced source (token_of kind at (at + n)).at (length (all_of source ms)) (all_of source ms) (token_of kind at (at + n))
    → SoFar source ms start before at fresh tokens → SoFar source ms start before (at + n) false tokens'
SoFar-whole source ms start before at fresh tokens tokens' kind n f some h more s =
    let word = token_of kind at (at + n) in
    let all = all_of source ms in
    let one : expanded source all (word ∷ []) ≡ replaced source word.at (length all) all word = append-nil (replaced source word.at (length all) all word) in
    record {
      found = s.found ++ word ∷ [];
      same = s.same ∙ words_whole_at source at s.found kind n f some h;
      told = more ∙ ap (λ ts. ts ++ replaced source word.at (length all) all word) s.told ∙ append_assoc before (expanded source all s.found) (replaced source word.at (length all) all word)
          ∙ ap (λ ts. before ++ (expanded source all s.found ++ ts)) (sym one) ∙ ap (λ ts. before ++ ts) (sym (flat_map-append (λ t. replaced source t.at (length all) all t) s.found (word ∷ [])));
      is_fresh = nil_push s.found word;
    }

pub SoFar-stop : (source : List ℕ) (ms : List Macro) (start : ℕ) (before : List Token) (at : ℕ) (front : Front) (fresh : Bool) (tokens : List Token) → front ≡ front_of (drop at source) → ((n : ℕ) → front ≡ Blank n → ⊥) → ((kind : TokenKind) (n : ℕ) → front ≡ Whole kind n → ⊥)
    → SoFar source ms start before at fresh tokens → AllWords source ms start before at front fresh tokens
SoFar-stop source ms start before at front fresh tokens f no_blank no_whole s = record {
  found = s.found;
  same = s.same ∙ words_stop at s.found (drop at source) (λ n e. no_blank n (f ∙ e)) (λ kind n e. no_whole kind n (f ∙ e)) ∙ ap (λ v. record { found = s.found; stop = at; front = v }) (sym f);
  told = s.told;
  is_fresh = s.is_fresh;
}

-- the words found stay found
pub record Extends (ws : Words) (found : List Token) : Type 0 where
  pub later : List Token
  pub same : ws.found ≡ found ++ later

extends_by : (v : Front) (at : ℕ) (found : List Token) (more : ℕ → List Token → Words) → ((n : ℕ) (found : List Token) → Extends (more n found) found) → Extends (words_by v at found more) found
extends_by (Blank n) at found more h = h (n - 1) found
extends_by (Whole kind n) at found more h =
    let further = h (n - 1) (found ++ token_of kind at (at + n) ∷ []) in
    record { later = token_of kind at (at + n) ∷ further.later; same = further.same ∙ append_assoc found (token_of kind at (at + n) ∷ []) further.later }
extends_by End at found more h = record { later = []; same = sym (append-nil found) }
extends_by LineEnd at found more h = record { later = []; same = sym (append-nil found) }
extends_by Hash at found more h = record { later = []; same = sym (append-nil found) }
extends_by Bad at found more h = record { later = []; same = sym (append-nil found) }

words_extend : (skip at : ℕ) (found : List Token) (bs : List ℕ) → Extends (words_from skip at found bs) found
words_extend skip at found [] = record { later = []; same = sym (append-nil found) }
words_extend (suc skip) at found (b ∷ bs) = words_extend skip (at + 1) found bs
words_extend zero at found (b ∷ bs) = extends_by (front_of (b ∷ bs)) at found (λ skip found. words_from skip (at + 1) found bs) (λ n found. words_extend n (at + 1) found bs)

-- a word passes the limit
pub SoFar-passes : (source : List ℕ) (ms : List Macro) (start : ℕ) (before : List Token) (at : ℕ) (fresh : Bool) (tokens : List Token) (kind : TokenKind) (n : ℕ) (stop : Stop) → front_of (drop at source) ≡ Whole kind n → 0 < n → n ≤ length (drop at source)
    → Passes (token_of kind at (at + n)).at tokens (replaced source (token_of kind at (at + n)).at (length (all_of source ms)) (all_of source ms) (token_of kind at (at + n))) stop
    → SoFar source ms start before at fresh tokens → TooMany source ms start before stop
SoFar-passes source ms start before at fresh tokens kind n stop f some h passes s =
    let word = token_of kind at (at + n) in
    let all = all_of source ms in
    let further = words_extend 0 (at + n) (s.found ++ word ∷ []) (drop (at + n) source) in
    record {
      found = s.found;
      word = word;
      later = further.later;
      words = ap (λ ws. ws.found) (s.same ∙ words_whole_at source at s.found kind n f some h) ∙ further.same ∙ append_assoc s.found (word ∷ []) further.later;
      passes = subst (λ (ts : List Token). Passes word.at ts (replaced source word.at (length all) all word) stop) s.told passes;
    }

pub stops : (source : List ℕ) (ms : List Macro) (start : ℕ) (before : List Token) (stop : Stop) → TooMany source ms start before stop → WordsStop source ms start before stop
stops source ms start before NoMemory h = tt
stops source ms start before (At place) h = h

visible-shut : (source : List ℕ) (ms : List Macro) → visible source ms (shut ms) ≡ all_of source ms
visible-shut source [] = refl
visible-shut source (m ∷ ms) = ap (λ ns. entry_of source m ∷ ns) (visible-shut source ms)

-- of an idle state
pub now_is_all : (source : List ℕ) (ms : List Macro) (opened : List Bool) (made : List Made) (t : Token) → IsIdle source ms opened made → now_replaced source t.at ms opened t ≡ replaced source t.at (length (all_of source ms)) (all_of source ms) t
now_is_all source ms opened made t idle = ap (λ all. replaced source t.at (length all) all t) (ap (visible source ms) idle.idle ∙ visible-shut source ms)

pub IsIdle-replaced : (source : List ℕ) (ms : List Macro) (opened opened' : List Bool) (made made' : List Made) (tokens tokens' : List Token) (t : Token) → IsIdle source ms opened made → Replaced source ms opened tokens t opened' made' tokens' → IsIdle source ms opened' made'
IsIdle-replaced source ms opened opened' made made' tokens tokens' t idle r = record { kept = r.kept; idle = r.unwinds ∙ idle.idle }

-- a word was replaced
pub SoFar-replaced : (source : List ℕ) (ms ms' : List Macro) (opened opened' : List Bool) (made made' : List Made) (start : ℕ) (before : List Token) (at : ℕ) (fresh : Bool) (tokens tokens' : List Token) (kind : TokenKind) (n : ℕ) (t : Token)
    → ms' ≡ ms → t ≡ token_of kind at (at + n) → front_of (drop at source) ≡ Whole kind n → 0 < n → n ≤ length (drop at source) → IsIdle source ms opened made → Replaced source ms' opened tokens t opened' made' tokens'
    → SoFar source ms start before at fresh tokens → IsIdle source ms opened' made' × MadeFits source ms opened' made' tokens' × SoFar source ms start before (at + n) false tokens'
SoFar-replaced source ms ms' opened opened' made made' start before at fresh tokens tokens' kind n t same word f some h idle r s =
    let there = subst (λ (ns : List Macro). Replaced source ns opened tokens t opened' made' tokens') same r in
    let done = subst (λ (u : Token). Replaced source ms opened tokens u opened' made' tokens') word there in (
      IsIdle-replaced source ms opened opened' made made' tokens tokens' (token_of kind at (at + n)) idle done,
      done.fits,
      SoFar-whole source ms start before at fresh tokens tokens' kind n f some h (done.told ∙ ap (λ ts. tokens ++ ts) (now_is_all source ms opened made (token_of kind at (at + n)) idle)) s,
    )

-- or passes the limit
pub SoFar-refused : (source : List ℕ) (ms ms' : List Macro) (opened : List Bool) (made : List Made) (start : ℕ) (before : List Token) (at : ℕ) (fresh : Bool) (tokens : List Token) (kind : TokenKind) (n : ℕ) (t : Token) (stop : Stop)
    → ms' ≡ ms → t ≡ token_of kind at (at + n) → front_of (drop at source) ≡ Whole kind n → 0 < n → n ≤ length (drop at source) → IsIdle source ms opened made → Passes t.at tokens (now_replaced source t.at ms' opened t) stop
    → SoFar source ms start before at fresh tokens → WordsStop source ms start before stop
SoFar-refused source ms ms' opened made start before at fresh tokens kind n t stop same word f some h idle p s =
    let there = subst (λ (ns : List Macro). Passes t.at tokens (now_replaced source t.at ns opened t) stop) same p in
    let done = subst (λ (u : Token). Passes u.at tokens (now_replaced source u.at ms opened u) stop) word there in
    let all = subst (λ (ts : List Token). Passes (token_of kind at (at + n)).at tokens ts stop) (now_is_all source ms opened made (token_of kind at (at + n)) idle) done in
    stops source ms start before stop (SoFar-passes source ms start before at fresh tokens kind n stop f some h all s)
