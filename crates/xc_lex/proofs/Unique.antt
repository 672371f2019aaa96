-- A text has one list of tokens or one first fault.
use Rattle.std.proofs.Common.{◌≡◌, ◌<◌, ℕ, zero, suc, ◌+◌, ◌-◌, List, [], ◌++◌, length, if◌then◌else◌, nat_lt, is_some, Option, Some, None, refl, sym, ap, ◌∙◌, subst, arith}
use Rattle.std.proofs.lemmas.Bool.{lt-ltb, le-ltb}
use Rattle.xc_text_place.specs.declared.Pos.{Pos}
use Rattle.xc_text_place.specs.Place.{IsPosition}
use Rattle.xc_lex.specs.declared.token.Token.{Token}
use Rattle.xc_lex.specs.Macros.{Macros}
use Rattle.xc_lex.specs.Lines.{Line, line_at}
use Rattle.xc_lex.specs.Source.{Reached, first, next, AreTokens, IsFault, fault_of, AreOnly, IsOnly}

-- where a line begins, with what stands before it
record State : Type 0 where
  at : ℕ
  ms : Macros
  ts : List Token

abbrev line_in : List ℕ → State → Line
line_in source s = line_at source s.ms s.at

abbrev step : List ℕ → State → Option State
step source s =
    if is_some (fault_of s.ts (line_in source s)) then None
    else if nat_lt (line_in source s).stop (length source) then Some (record { at = (line_in source s).stop + 1; ms = (line_in source s).macros; ts = s.ts ++ (line_in source s).tokens })
    else None

abbrev stepped : List ℕ → Option State → Option State
stepped source None = None
stepped source (Some s) = step source s

abbrev after : List ℕ → ℕ → Option State
after source zero = Some (record { at = 0; ms = []; ts = [] })
after source (suc k) = stepped source (after source k)

Reached-after : (source : List ℕ) (at : ℕ) (ms : Macros) (ts : List Token) → Reached source at ms ts → (k : ℕ) × (after source k ≡ Some (record { at = at; ms = ms; ts = ts }))
Reached-after source at ms ts first = (0, refl)
Reached-after source at ms ts (next {at = at'} {ms = ms'} {ts = ts'} r fine far) =
    let before = Reached-after source at' ms' ts' r in
    let s : State = record { at = at'; ms = ms'; ts = ts' } in
    let one : step source s ≡ Some (record { at = (line_in source s).stop + 1; ms = (line_in source s).macros; ts = ts' ++ (line_in source s).tokens }) =
    ap (λ o. if is_some o then None else if nat_lt (line_in source s).stop (length source) then Some (record { at = (line_in source s).stop + 1; ms = (line_in source s).macros; ts = ts' ++ (line_in source s).tokens }) else None) fine
    ∙ ap (λ b. if b then Some (record { at = (line_in source s).stop + 1; ms = (line_in source s).macros; ts = ts' ++ (line_in source s).tokens }) else None) (lt-ltb (line_in source s).stop (length source) far) in
    (suc before.0, ap (stepped source) before.1 ∙ one)

stays : (source : List ℕ) (k : ℕ) (s : State) → after source k ≡ Some s → step source s ≡ None → (j : ℕ) → after source (j + suc k) ≡ None
stays source k s here ends zero = let e : 0 + suc k ≡ suc k = omega arith in ap (after source) e ∙ ap (stepped source) here ∙ ends
stays source k s here ends (suc j) = let e : suc j + suc k ≡ suc (j + suc k) = omega arith in ap (after source) e ∙ ap (stepped source) (stays source k s here ends j)

later : (source : List ℕ) (k l : ℕ) (s t : State) → after source k ≡ Some s → step source s ≡ None → after source l ≡ Some t → k < l → ⊥
later source k l s t here ends there less =
    let e : l ≡ (l - suc k) + suc k = omega (arith, less) in
    let none = ap (after source) e ∙ stays source k s here ends (l - suc k) in
    cc

one_end : (source : List ℕ) (k l : ℕ) (s t : State) → after source k ≡ Some s → step source s ≡ None → after source l ≡ Some t → step source t ≡ None → s ≡ t
one_end source k l s t here ends there stops =
    let low : k < l → ⊥ = later source k l s t here ends there in
    let high : l < k → ⊥ = later source l k t s there stops here in
    let same : k ≡ l = omega (arith, low, high) in
    let both : Some s ≡ Some t = sym here ∙ ap (after source) same ∙ there in
    cc

last : (source : List ℕ) (s : State) → fault_of s.ts (line_in source s) ≡ None → (line_in source s).stop ≡ length source → step source s ≡ None
last source s fine end =
    ap (λ o. if is_some o then None else if nat_lt (line_in source s).stop (length source) then Some (record { at = (line_in source s).stop + 1; ms = (line_in source s).macros; ts = s.ts ++ (line_in source s).tokens }) else None) fine
    ∙ ap (λ b. if b then Some (record { at = (line_in source s).stop + 1; ms = (line_in source s).macros; ts = s.ts ++ (line_in source s).tokens }) else None) (le-ltb (line_in source s).stop (length source) (omega (arith, end)))

faulty : (source : List ℕ) (s : State) (place : ℕ) → fault_of s.ts (line_in source s) ≡ Some place → step source s ≡ None
faulty source s place h =
    ap (λ o. if is_some o then None else if nat_lt (line_in source s).stop (length source) then Some (record { at = (line_in source s).stop + 1; ms = (line_in source s).macros; ts = s.ts ++ (line_in source s).tokens }) else None) h

-- the tokens are determined
pub tokens_once : (source : List ℕ) (ts us : List Token) → AreTokens source ts → AreTokens source us → ts ≡ us
tokens_once source ts us a b =
    let s : State = record { at = a.at; ms = a.macros; ts = a.before } in
    let t : State = record { at = b.at; ms = b.macros; ts = b.before } in
    let k = Reached-after source a.at a.macros a.before a.reached in
    let l = Reached-after source b.at b.macros b.before b.reached in
    let same : s ≡ t = one_end source k.0 l.0 s t k.1 (last source s a.faultless a.last) l.1 (last source t b.faultless b.last) in
    a.tokens_are ∙ ap (λ v. v.ts ++ (line_in source v).tokens) same ∙ sym b.tokens_are

-- so is the fault
pub fault_once : (source : List ℕ) (p q : ℕ) → IsFault source p → IsFault source q → p ≡ q
fault_once source p q a b =
    let s : State = record { at = a.at; ms = a.macros; ts = a.before } in
    let t : State = record { at = b.at; ms = b.macros; ts = b.before } in
    let k = Reached-after source a.at a.macros a.before a.reached in
    let l = Reached-after source b.at b.macros b.before b.reached in
    let same : s ≡ t = one_end source k.0 l.0 s t k.1 (faulty source s p a.fault) l.1 (faulty source t q b.fault) in
    let both : Some p ≡ Some q = sym a.fault ∙ ap (λ v. fault_of v.ts (line_in source v)) same ∙ b.fault in
    cc

-- and a text with a fault has no tokens
pub no_tokens : (source : List ℕ) (ts : List Token) (p : ℕ) → AreTokens source ts → IsFault source p → ⊥
no_tokens source ts p a b =
    let s : State = record { at = a.at; ms = a.macros; ts = a.before } in
    let t : State = record { at = b.at; ms = b.macros; ts = b.before } in
    let k = Reached-after source a.at a.macros a.before a.reached in
    let l = Reached-after source b.at b.macros b.before b.reached in
    let same : s ≡ t = one_end source k.0 l.0 s t k.1 (last source s a.faultless a.last) l.1 (faulty source t p b.fault) in
    let both : None ≡ Some p = sym a.faultless ∙ ap (λ v. fault_of v.ts (line_in source v)) same ∙ b.fault in
    cc

-- so the answer is the only one
pub tokens_only : (source : List ℕ) (ts : List Token) → AreTokens source ts → AreOnly source ts
tokens_only source ts h = record { once = λ us k. tokens_once source us ts k h; faultless = λ place k. no_tokens source ts place h k }

pub fault_only : (source : List ℕ) (pos : Pos) (place : ℕ) → IsFault source place → IsPosition source place pos → IsOnly source pos
fault_only source pos place h at = record {
  once = λ p k. subst (λ (n : ℕ). IsPosition source n pos) (fault_once source place p h k) at;
  tokenless = λ ts k. no_tokens source ts place k h;
}
