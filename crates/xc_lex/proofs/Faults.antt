-- Faults of lines.
use Rattle.std.proofs.Common.{◌≡◌, ◌≤◌, ◌<◌, ◌^◌, ℕ, zero, suc, List, [], ◌∷◌, ◌++◌, length, Bool, true, false, if◌then◌else◌, nat_le, Option, Some, None, refl, sym, ap, ◌∙◌, subst, arith, append_assoc, length-append}
use Rattle.std.proofs.lemmas.List.{append-nil}
use Rattle.std.proofs.lemmas.Grind.{flat_map-append}
use Rattle.std.proofs.lemmas.Bool.{le-leb, leb-true}
use Rattle.std.specs.List.{flat_map, slice_get}
use Rattle.std.specs.Option.{option_map, option_map_or}
use Rattle.xc_text_place.specs.declared.Span.{Span}
use Rattle.xc_lex.specs.declared.token.Token.{Token}
use Rattle.xc_lex.specs.declared.macros.Macro.{Macro}
use Rattle.xc_lex.specs.declared.macros.Made.{Made}
use Rattle.xc_lex.specs.declared.stop.Stop.{Stop}
use Rattle.xc_lex.specs.declared.stop.Stop.TheVariants.{NoMemory, At}
use Rattle.xc_lex.specs.declared.front.Front.{Front}
use Rattle.xc_lex.specs.declared.front.Front.TheVariants.{End, LineEnd, Blank, Whole, Hash, Bad}
use Rattle.xc_lex.specs.Macros.{Macros, bytes_of, without, replacement, replaced, expanded}
use Rattle.xc_lex.specs.Lines.{Line, good, bad, words_at, line_by, line_at, hash_line, directive_at, pragma_at, token_of}
use Rattle.xc_lex.specs.Source.{fault_of}
use Rattle.xc_lex.specs.State.{all_of, MadeFits}
use Rattle.xc_lex.specs.Steps.{IsIdle, LineRead, LineStops}
use Rattle.xc_lex.specs.InnerSteps.{is_nil, AllWords, WordsStop, DirectiveRead, DirectiveStops, PragmaRead}
use Rattle.xc_lex.proofs.Made.{MadeFits-append}
use Rattle.xc_lex.specs.declared.token.TokenKind.TheVariants.{Pragma}

-- by the count of the tokens
fault_by : Bool → List Token → Line → Option ℕ
fault_by few before line = if few then (if line.is_bad then Some line.stop else None) else option_map (λ t. t.at.start) (slice_get (before ++ line.tokens) (2 ^ 20))

pub fault_none : (before : List Token) (line : Line) → length (before ++ line.tokens) ≤ 2 ^ 20 → line.is_bad ≡ false → fault_of before line ≡ None
fault_none before line few fine =
    ap (λ b. if b then (if line.is_bad then Some line.stop else None) else option_map (λ t. t.at.start) (slice_get (before ++ line.tokens) (2 ^ 20))) (le-leb (length (before ++ line.tokens)) (2 ^ 20) few)
    ∙ ap (λ b. if b then Some line.stop else None) fine

pub fault_bad : (before : List Token) (line : Line) → length (before ++ line.tokens) ≤ 2 ^ 20 → line.is_bad ≡ true → fault_of before line ≡ Some line.stop
fault_bad before line few broken =
    ap (λ b. if b then (if line.is_bad then Some line.stop else None) else option_map (λ t. t.at.start) (slice_get (before ++ line.tokens) (2 ^ 20))) (le-leb (length (before ++ line.tokens)) (2 ^ 20) few)
    ∙ ap (λ b. if b then Some line.stop else None) broken

le-false : (a b : ℕ) → b < a → nat_le a b ≡ false
le-false a b h = elim (nat_le a b) as (λ v. nat_le a b ≡ v → v ≡ false) [ true ↦ λ e. let less = leb-true a b e in absurd (omega (arith, less)) | false ↦ λ e. refl ] refl

pub fault_many : (before : List Token) (line : Line) → 2 ^ 20 < length (before ++ line.tokens) → fault_of before line ≡ option_map (λ t. t.at.start) (slice_get (before ++ line.tokens) (2 ^ 20))
fault_many before line many =
    ap (λ b. if b then (if line.is_bad then Some line.stop else None) else option_map (λ t. t.at.start) (slice_get (before ++ line.tokens) (2 ^ 20))) (le-false (length (before ++ line.tokens)) (2 ^ 20) many)

-- each of the tokens stands at a place
abbrev pub AllAt : ℕ → List Token → Type 0
AllAt p [] = Unit {0}
AllAt p (t ∷ ts) = (t.at.start ≡ p) × AllAt p ts

AllAt-append : (p : ℕ) (ts us : List Token) → AllAt p ts → AllAt p us → AllAt p (ts ++ us)
AllAt-append p [] us h k = k
AllAt-append p (t ∷ ts) us h k = (h.0, AllAt-append p ts us h.1 k)

AllAt-flat_map : (p : ℕ) (f : Token → List Token) (ts : List Token) → ((t : Token) → AllAt p (f t)) → AllAt p (flat_map f ts)
AllAt-flat_map p f [] h = tt
AllAt-flat_map p f (t ∷ ts) h = AllAt-append p (f t) (flat_map f ts) (h t) (AllAt-flat_map p f ts h)

pub replaced-at : (source : List ℕ) (at : Span) (n : ℕ) (ms : Macros) (t : Token) → AllAt at.start (replaced source at n ms t)
replaced-at source at zero ms t = (refl, tt)
replaced-at source at (suc n) ms t =
    elim (replacement source ms t) as (λ v. AllAt at.start (option_map_or (λ body. flat_map (λ u. replaced source at n (without (bytes_of source t.text) ms) u) body) v (record t { at = at } ∷ [])))
    [ None ↦ (refl, tt) | Some body ↦ AllAt-flat_map at.start (λ u. replaced source at n (without (bytes_of source t.text) ms) u) body (λ u. replaced-at source at n (without (bytes_of source t.text) ms) u) ]

-- the token that passes the limit is one of those in the middle
pub place_at : (xs ys zs : List Token) (i p : ℕ) → length xs ≤ i → i < length (xs ++ ys) → AllAt p ys → option_map (λ t. t.at.start) (slice_get ((xs ++ ys) ++ zs) i) ≡ Some p
place_at [] [] zs i p low high h = absurd (omega arith)
place_at [] (y ∷ ys) zs zero p low high h = ap Some h.0
place_at [] (y ∷ ys) zs (suc i) p low high h = place_at [] ys zs i p (omega arith) (omega arith) h.1
place_at (x ∷ xs) ys zs zero p low high h = absurd (omega arith)
place_at (x ∷ xs) ys zs (suc i) p low high h = place_at xs ys zs i p (omega arith) (omega arith) h

-- a line that begins with words has their tokens
pub line_tokens : (v : Front) (source : List ℕ) (ms : Macros) (found : List Token) (stop : ℕ) → is_nil found ≡ false → (line_by v source ms found stop).tokens ≡ expanded source ms found
line_tokens v source ms [] stop some = absurd (cc)
line_tokens Hash source ms (t ∷ ts) stop some = refl
line_tokens Bad source ms (t ∷ ts) stop some = refl
line_tokens End source ms (t ∷ ts) stop some = refl
line_tokens LineEnd source ms (t ∷ ts) stop some = refl
line_tokens (Blank n) source ms (t ∷ ts) stop some = refl
line_tokens (Whole kind n) source ms (t ∷ ts) stop some = refl

some_found : (ts : List Token) (t : Token) (us : List Token) → is_nil (ts ++ t ∷ us) ≡ false
some_found [] t us = refl
some_found (x ∷ ts) t us = refl

pub WordsStop-line : (source : List ℕ) (ms : List Macro) (start : ℕ) (before : List Token) (stop : Stop) → WordsStop source ms start before stop → LineStops before (line_at source (all_of source ms) start) stop
WordsStop-line source ms start before NoMemory h = tt
WordsStop-line source ms start before (At place) h =
    let all = all_of source ms in
    let ws = words_at source start in
    let new = replaced source h.word.at (length all) all h.word in
    let old = before ++ expanded source all h.found in
    let some = ap is_nil h.words ∙ some_found h.found h.word h.later in
    let tokens : before ++ (line_at source all start).tokens ≡ (old ++ new) ++ expanded source all h.later =
    ap (λ ts. before ++ ts) (line_tokens ws.front source all ws.found ws.stop some ∙ ap (λ ts. expanded source all ts) h.words ∙ flat_map-append (λ t. replaced source t.at (length all) all t) h.found (h.word ∷ h.later))
    ∙ sym (append_assoc before (expanded source all h.found) (new ++ expanded source all h.later)) ∙ sym (append_assoc old new (expanded source all h.later)) in
    let count = ap length tokens in
    let parts = length-append (old ++ new) (expanded source all h.later) in
    let many : 2 ^ 20 < length (before ++ (line_at source all start).tokens) = omega (arith, count, parts, h.passes.2) in
    fault_many before (line_at source all start) many
    ∙ ap (λ ts. option_map (λ t. t.at.start) (slice_get ts (2 ^ 20))) tokens
    ∙ place_at old new (expanded source all h.later) (2 ^ 20) h.word.at.start h.passes.1 h.passes.2 (replaced-at source h.word.at (length all) all h.word)
    ∙ ap Some (sym h.passes.0)

-- a line was read
pub LineRead-good : (source : List ℕ) (line : Line) (before ts tokens : List Token) (at : ℕ) (ms : List Macro) (opened : List Bool) (made : List Made) → line ≡ good (all_of source ms) ts at → IsIdle source ms opened made → MadeFits source ms opened made tokens → tokens ≡ before ++ ts → length tokens ≤ 2 ^ 20
    → LineRead source line before at ms opened made tokens
LineRead-good source line before ts tokens at ms opened made same idle fits told few =
    let all = ap (λ us. before ++ us) (ap (λ l. l.tokens) same) in
    let count = ap length (told ∙ sym all) in
    record {
      idle = idle;
      fits = fits;
      faultless = fault_none before line (omega (arith, few, count)) (ap (λ l. l.is_bad) same);
      stop = ap (λ l. l.stop) same;
      macros = ap (λ l. l.macros) same;
      told = told ∙ sym all;
      few = few;
    }

pub LineStops-bad : (line : Line) (before ts : List Token) (place : ℕ) (ms : Macros) → line ≡ bad ms ts place → length (before ++ ts) ≤ 2 ^ 20 → fault_of before line ≡ Some place
LineStops-bad line before ts place ms same few =
    let count = ap length (ap (λ us. before ++ us) (ap (λ l. l.tokens) same)) in
    fault_bad before line (omega (arith, few, count)) (ap (λ l. l.is_bad) same) ∙ ap (λ l. Some l.stop) same

pub LineStops-full : (line : Line) (before : List Token) (t : Token) (at : ℕ) (ms : Macros) → line ≡ good ms (t ∷ []) at → length before ≡ 2 ^ 20 → fault_of before line ≡ Some t.at.start
LineStops-full line before t at ms same full =
    let tokens : before ++ line.tokens ≡ (before ++ t ∷ []) ++ [] = ap (λ l. before ++ l.tokens) same ∙ sym (append-nil (before ++ t ∷ [])) in
    let size = length-append before (t ∷ []) in
    let count = ap length (ap (λ l. before ++ l.tokens) same) in
    let many : 2 ^ 20 < length (before ++ line.tokens) = omega (arith, count, size, full) in
    let low : length before ≤ 2 ^ 20 = omega (arith, full) in
    let high : 2 ^ 20 < length (before ++ t ∷ []) = omega (arith, size, full) in
    fault_many before line many ∙ ap (λ ts. option_map (λ t. t.at.start) (slice_get ts (2 ^ 20))) tokens ∙ place_at before (t ∷ []) [] (2 ^ 20) t.at.start low high (refl, tt)

pub DirectiveStops-line : (line : Line) (before : List Token) (ms : Macros) (stop : Stop) → DirectiveStops line ms stop → length before ≤ 2 ^ 20 → LineStops before line stop
DirectiveStops-line line before ms NoMemory h few = tt
DirectiveStops-line line before ms (At place) h few =
    let size = ap length (append-nil before) in
    LineStops-bad line before [] place ms h (omega (arith, few, size))

pub DirectiveRead-line : (source : List ℕ) (line : Line) (before : List Token) (at : ℕ) (ms : List Macro) (opened : List Bool) (made : List Made) → DirectiveRead source line [] at ms opened made → length before ≤ 2 ^ 20 → LineRead source line before at ms opened made before
DirectiveRead-line source line before at ms opened made h few = LineRead-good source line before [] before at ms opened made h.same h.idle (h.fits before) (sym (append-nil before)) few

pub PragmaRead-line : (source : List ℕ) (line : Line) (before after : List Token) (hash start at : ℕ) (ms : List Macro) (opened : List Bool) (made : List Made) → line ≡ pragma_at source (all_of source ms) hash start → IsIdle source ms opened made → MadeFits source ms opened made before → PragmaRead source hash start at before after
    → LineRead source line before at ms opened made after
PragmaRead-line source line before after hash start at ms opened made same idle fits p =
    let more = token_of Pragma hash at ∷ [] in
    LineRead-good source line before more after at ms opened made (same ∙ p.same (all_of source ms)) idle (subst (λ (ts : List Token). MadeFits source ms opened made ts) (sym p.told) (MadeFits-append source ms opened made before more fits)) p.told p.few

-- the end of a line of words
pub line_good : (v : Front) (source : List ℕ) (ms : Macros) (found : List Token) (stop : ℕ) → (v ≡ Hash → ⊥) → (v ≡ Bad → ⊥) → line_by v source ms found stop ≡ good ms (expanded source ms found) stop
line_good Hash source ms found stop no_hash no_bad = absurd (no_hash refl)
line_good Bad source ms found stop no_hash no_bad = absurd (no_bad refl)
line_good End source ms found stop no_hash no_bad = refl
line_good LineEnd source ms found stop no_hash no_bad = refl
line_good (Blank n) source ms found stop no_hash no_bad = refl
line_good (Whole kind n) source ms found stop no_hash no_bad = refl

pub line_words : (source : List ℕ) (ms : List Macro) (start : ℕ) (before : List Token) (at : ℕ) (front : Front) (fresh : Bool) (tokens : List Token) (w : AllWords source ms start before at front fresh tokens) → line_at source (all_of source ms) start ≡ line_by front source (all_of source ms) w.found at
line_words source ms start before at front fresh tokens w = ap (λ ws. line_by ws.front source (all_of source ms) ws.found ws.stop) w.same

found_none : (found : List Token) → true ≡ is_nil found → found ≡ []
found_none [] h = refl
found_none (t ∷ ts) h = absurd (cc)

-- `#` comes first
pub hash_first : (source : List ℕ) (ms : List Macro) (start : ℕ) (before : List Token) (at : ℕ) (tokens : List Token) (w : AllWords source ms start before at Hash true tokens) → (line_at source (all_of source ms) start ≡ directive_at source (all_of source ms) at) × (tokens ≡ before)
hash_first source ms start before at tokens w =
    let none = found_none w.found w.is_fresh in (
      line_words source ms start before at Hash true tokens w ∙ ap (λ ts. hash_line ts source (all_of source ms) at) none,
      w.told ∙ ap (λ ts. before ++ expanded source (all_of source ms) ts) none ∙ append-nil before,
    )

hash_later_by : (found : List Token) (source : List ℕ) (ms : Macros) (at : ℕ) → false ≡ is_nil found → hash_line found source ms at ≡ bad ms (expanded source ms found) at
hash_later_by [] source ms at h = absurd (cc)
hash_later_by (t ∷ ts) source ms at h = refl

-- or later in its line
pub hash_later : (source : List ℕ) (ms : List Macro) (start : ℕ) (before : List Token) (at : ℕ) (tokens : List Token) → AllWords source ms start before at Hash false tokens → length tokens ≤ 2 ^ 20 → fault_of before (line_at source (all_of source ms) start) ≡ Some at
hash_later source ms start before at tokens w few =
    let count = ap length w.told in
    LineStops-bad (line_at source (all_of source ms) start) before (expanded source (all_of source ms) w.found) at (all_of source ms)
    (line_words source ms start before at Hash false tokens w ∙ hash_later_by w.found source (all_of source ms) at w.is_fresh) (omega (arith, few, count))

pub bad_later : (source : List ℕ) (ms : List Macro) (start : ℕ) (before : List Token) (at : ℕ) (fresh : Bool) (tokens : List Token) → AllWords source ms start before at Bad fresh tokens → length tokens ≤ 2 ^ 20 → fault_of before (line_at source (all_of source ms) start) ≡ Some at
bad_later source ms start before at fresh tokens w few =
    let count = ap length w.told in
    LineStops-bad (line_at source (all_of source ms) start) before (expanded source (all_of source ms) w.found) at (all_of source ms)
    (line_words source ms start before at Bad fresh tokens w) (omega (arith, few, count))

pub words_read : (source : List ℕ) (ms : List Macro) (opened : List Bool) (made : List Made) (start : ℕ) (before : List Token) (at : ℕ) (front : Front) (fresh : Bool) (tokens : List Token) → AllWords source ms start before at front fresh tokens → (front ≡ Hash → ⊥) → (front ≡ Bad → ⊥) → IsIdle source ms opened made → MadeFits source ms opened made tokens → length tokens ≤ 2 ^ 20
    → LineRead source (line_at source (all_of source ms) start) before at ms opened made tokens
words_read source ms opened made start before at front fresh tokens w no_hash no_bad idle fits few =
    LineRead-good source (line_at source (all_of source ms) start) before (expanded source (all_of source ms) w.found) tokens at ms opened made
    (line_words source ms start before at front fresh tokens w ∙ line_good front source (all_of source ms) w.found at no_hash no_bad) idle fits w.told few
