-- The macros whose tokens were made.
use Rattle.std.proofs.Common.{◌≡◌, ◌≤◌, ◌<◌, ℕ, zero, suc, ◌+◌, ◌-◌, List, [], ◌∷◌, ◌++◌, length, map, take, drop, Bool, true, false, ◌==◌, ◌||◌, ◌&&◌, ◌⊎◌, inl, inr, refl, sym, ap, ◌∙◌, subst, arith, append_assoc, get_or, length-append, length-drop}
use Rattle.std.proofs.Math.ListN.{set, length-set}
use Rattle.std.proofs.Math.Seq.{drop-append_seam}
use Rattle.std.specs.List.{flat_map, slice_range}
use Rattle.std.proofs.lemmas.List.{take-append-le, drop-append-le, take_rest, take_more, get_or-drop, get_or_append_left, map-append}
use Rattle.std.proofs.lemmas.Bool.{eqb-true, eq-eqb}
use Rattle.xc_text_place.specs.declared.Span.{Span}
use Rattle.xc_lex.specs.declared.token.Token.{Token}
use Rattle.xc_lex.specs.declared.macros.Macro.{Macro}
use Rattle.xc_lex.specs.declared.macros.Frame.{Frame}
use Rattle.xc_lex.specs.declared.macros.Made.{Made}
use Rattle.xc_lex.specs.State.{tokens_of, is_set, is_in, shut, made_of, is_made, is_fixed, Names, AreOf, moved, now_replaced, visible, IsPlaced, MadeFits}
use Rattle.xc_lex.specs.InnerState.{IsSettled, AllSettled, IsMadeBy}
use Rattle.xc_lex.proofs.Lookups.{is_set-set, set_back}
use Rattle.xc_lex.proofs.Expansion.{different, closed-closed, closed-opened, replaced-same, body-same, flat_map-moved, replaced-moved, now_replaced_once}

is_set-shut : (ms : List Macro) (i : ℕ) → is_set (shut ms) i ≡ false
is_set-shut [] zero = refl
is_set-shut [] (suc i) = refl
is_set-shut (m ∷ ms) zero = refl
is_set-shut (m ∷ ms) (suc i) = is_set-shut ms i

length-shut : (ms : List Macro) → length (shut ms) ≡ length ms
length-shut [] = refl
length-shut (m ∷ ms) = ap suc (length-shut ms)

made_of-set : (made : List Made) (i : ℕ) (m : Made) → i < length made → made_of (set made i m) i ≡ m
made_of-set [] i m h = absurd (omega arith)
made_of-set (x ∷ made) zero m h = refl
made_of-set (x ∷ made) (suc i) m h = made_of-set made i m (omega arith)

made_of-set_other : (made : List Made) (i j : ℕ) (m : Made) → (j ≡ i → ⊥) → made_of (set made i m) j ≡ made_of made j
made_of-set_other [] i j m ne = refl
made_of-set_other (x ∷ made) zero zero m ne = absurd (ne refl)
made_of-set_other (x ∷ made) zero (suc j) m ne = refl
made_of-set_other (x ∷ made) (suc i) zero m ne = refl
made_of-set_other (x ∷ made) (suc i) (suc j) m ne = made_of-set_other made i j m (λ e. ne (ap suc e))

-- a range, and one more token
range_more : (xs : List Token) (a b : ℕ) (d : Token) → a ≤ b → b < length xs → slice_range xs a (b + 1) ≡ slice_range xs a b ++ get_or xs b d ∷ []
range_more xs a b d h k =
    let size = length-drop a xs in
    let e : b + 1 - a ≡ (b - a) + 1 = omega (arith, h) in
    let f : a + (b - a) ≡ b = omega (arith, h) in
    ap (λ n. take n (drop a xs)) e ∙ take_more (drop a xs) (b - a) d (omega (arith, size, h, k)) ∙ ap (λ t. slice_range xs a b ++ t ∷ []) (get_or-drop a xs (b - a) d ∙ ap (λ n. get_or xs n d) f)

pub copied_more : (at : Span) (old tokens : List Token) (from i : ℕ) (d t : Token) → tokens ≡ old ++ map (moved at) (slice_range old from i) → from ≤ i → i < length old → t ≡ get_or tokens i d → tokens ++ moved at t ∷ [] ≡ old ++ map (moved at) (slice_range old from (i + 1))
copied_more at old tokens from i d t same after within read =
    let known : t ≡ get_or old i d = read ∙ ap (λ ts. get_or ts i d) same ∙ get_or_append_left old (map (moved at) (slice_range old from i)) d i within in
    let one = range_more old from i d after within in
    ap (λ ts. ts ++ moved at t ∷ []) same ∙ append_assoc old (map (moved at) (slice_range old from i)) (moved at t ∷ [])
    ∙ ap (λ u. old ++ (map (moved at) (slice_range old from i) ++ moved at u ∷ [])) known
    ∙ ap (λ ts. old ++ ts) (sym (ap (map (moved at)) one ∙ map-append (moved at) (slice_range old from i) (get_or old i d ∷ [])))

-- more tokens leave a range as it is
range_append : (tokens more : List Token) (from to : ℕ) → from ≤ to → to ≤ length tokens → slice_range (tokens ++ more) from to ≡ slice_range tokens from to
range_append tokens more from to h k =
    let size = length-drop from tokens in
    ap (λ ts. take (to - from) ts) (drop-append-le from tokens more (omega (arith, h, k))) ∙ take-append-le (to - from) (drop from tokens) more (omega (arith, size, k))

pub MadeFits-append : (source : List ℕ) (ms : List Macro) (opened : List Bool) (made : List Made) (tokens more : List Token) → MadeFits source ms opened made tokens → MadeFits source ms opened made (tokens ++ more)
MadeFits-append source ms opened made tokens more h =
    let size = length-append tokens more in
    record {
      known = h.known;
      ordered = h.ordered;
      flagged = h.flagged;
      closed = h.closed;
      placed = λ i below on. let p = h.placed i below on in record {
        ordered = p.ordered;
        within = omega (arith, p.within, size);
        same = λ at. ap (map (moved at)) (range_append tokens more (made_of made i).from (made_of made i).to p.ordered p.within) ∙ p.same at;
      };
    }

-- a macro is closed
pub MadeFits-close : (source : List ℕ) (ms : List Macro) (opened : List Bool) (made : List Made) (tokens : List Token) (n : ℕ) → n < length opened → MadeFits source ms opened made tokens → MadeFits source ms (set opened n false) made tokens
MadeFits-close source ms opened made tokens n within h = record {
  known = h.known;
  ordered = h.ordered;
  flagged = h.flagged;
  closed = closed-closed n h.known opened within h.closed;
  placed = h.placed;
}

-- a macro that is not the same anywhere is opened
pub MadeFits-open : (source : List ℕ) (ms : List Macro) (opened : List Bool) (made : List Made) (tokens : List Token) (n : ℕ) → n < length ms → is_fixed ms made n ≡ false → MadeFits source ms opened made tokens → MadeFits source ms (set opened n true) made tokens
MadeFits-open source ms opened made tokens n within off h = record {
  known = h.known;
  ordered = h.ordered;
  flagged = h.flagged;
  closed = closed-opened n h.known opened (sym (h.flagged n within) ∙ off) h.closed;
  placed = h.placed;
}

settled_of : (source : List ℕ) (ms : List Macro) (made : List Made) (known : List ℕ) → ((i : ℕ) → i < length ms → is_fixed ms made i ≡ is_in i known) → (ts : List Token) → AllSettled source ms made ts → AreOf source ms known ts
unfolding IsSettled
settled_of source ms made known flagged [] h = tt
settled_of source ms made known flagged (t ∷ ts) (inl none, h) = (inl none, settled_of source ms made known flagged ts h)
settled_of source ms made known flagged (t ∷ ts) (inr one, h) = (inr (one.0, one.1, sym (flagged one.0 one.1.within) ∙ one.2), settled_of source ms made known flagged ts h)

-- what a macro that is left stands for is what was made, if it would be the same where it alone is opened
placed_by : (source : List ℕ) (ms : List Macro) (opened : List Bool) (tokens : List Token) (f : Frame) (anywhere : Bool) → IsMadeBy source ms opened tokens f
    → ((at : Span) → flat_map (now_replaced source at ms opened) (tokens_of ms f.number) ≡ flat_map (now_replaced source at ms (set (shut ms) f.number true)) (tokens_of ms f.number))
    → IsPlaced source ms tokens f.number (record { from = f.from; to = length tokens; macros = length ms; anywhere = anywhere })
placed_by source ms opened tokens f anywhere by alone =
    let body = tokens_of ms f.number in
    let size = ap length by.same in
    let parts = length-append by.before (flat_map (now_replaced source by.at ms opened) body) in
    let start : drop f.from tokens ≡ flat_map (now_replaced source by.at ms opened) body =
    ap (λ ts. drop f.from ts) by.same ∙ ap (λ k. drop k (by.before ++ flat_map (now_replaced source by.at ms opened) body)) (sym by.size) ∙ drop-append_seam by.before (flat_map (now_replaced source by.at ms opened) body) in
    record {
      ordered = omega (arith, size, parts, by.size);
      within = omega arith;
      same = λ at.
          ap (map (moved at)) (take_rest tokens f.from ∙ start)
          ∙ flat_map-moved at (now_replaced source by.at ms opened) (now_replaced source at ms opened) body (λ u. replaced-moved source by.at at (length (visible source ms opened)) (visible source ms opened) u)
          ∙ alone at;
    }

-- a further range
placed-set : (source : List ℕ) (ms : List Macro) (made : List Made) (tokens : List Token) (n : ℕ) (one : Made) → n < length made → ((i : ℕ) → i < length ms → is_made ms made i ≡ true → IsPlaced source ms tokens i (made_of made i)) → IsPlaced source ms tokens n one
    → (i : ℕ) → i < length ms → is_made ms (set made n one) i ≡ true → IsPlaced source ms tokens i (made_of (set made n one) i)
placed-set source ms made tokens n one within placed this i =
    elim (n == i) as (λ v. (n == i) ≡ v → i < length ms → is_made ms (set made n one) i ≡ true → IsPlaced source ms tokens i (made_of (set made n one) i)) [
      | true ↦ λ e below on. subst (λ (k : ℕ). IsPlaced source ms tokens k (made_of (set made n one) k)) (eqb-true n i e) (subst (λ (m : Made). IsPlaced source ms tokens n m) (sym (made_of-set made n one within)) this)
      | false ↦ λ e below on.
          let old = made_of-set_other made n i one (λ same. different n i e (sym same)) in
          subst (λ (m : Made). IsPlaced source ms tokens i m) (sym old) (placed i below (sym (ap (λ m. m.macros == length ms) old) ∙ on))
    ] refl

-- a macro's tokens were made, and are the same anywhere
MadeFits-mark : (source : List ℕ) (ms : List Macro) (opened : List Bool) (made : List Made) (tokens : List Token) (f : Frame) → length opened ≡ length ms → f.number < length made → f.number < length ms → is_fixed ms made f.number ≡ false → AllSettled source ms made (tokens_of ms f.number)
    → MadeFits source ms opened made tokens → IsMadeBy source ms opened tokens f → MadeFits source ms (set opened f.number false) (set made f.number (record { from = f.from; to = length tokens; macros = length ms; anywhere = true })) tokens
MadeFits-mark source ms opened made tokens f level within inside off settled h by =
    let n = f.number in
    let one : Made = record { from = f.from; to = length tokens; macros = length ms; anywhere = true } in
    let room : n < length opened = omega (arith, level, inside) in
    let out = sym (h.flagged n inside) ∙ off in
    let names = settled_of source ms made h.known h.flagged (tokens_of ms n) settled in
    let this = placed_by source ms opened tokens f true by (λ at. body-same source at ms h.known opened (set (shut ms) n true) (tokens_of ms n) h.ordered h.closed (closed-opened n h.known (shut ms) out (λ j _. is_set-shut ms j)) level (simp length-set (length-shut ms)) names) in
    record {
      known = n ∷ h.known;
      ordered = (out, names, h.ordered);
      flagged = λ i below. elim (n == i) as (λ v. (n == i) ≡ v → is_fixed ms (set made n one) i ≡ (v || is_in i h.known)) [
        | true ↦ λ e. subst (λ (k : ℕ). is_fixed ms (set made n one) k ≡ true) (eqb-true n i e) (ap (λ m. m.macros == length ms && m.anywhere) (made_of-set made n one within) ∙ ap (λ b. b && true) (eq-eqb (length ms) (length ms) refl))
        | false ↦ λ e. ap (λ m. m.macros == length ms && m.anywhere) (made_of-set_other made n i one (λ same. different n i e (sym same))) ∙ h.flagged i below
      ] refl;
      closed = λ i. elim (n == i) as (λ v. (n == i) ≡ v → (v || is_in i h.known) ≡ true → is_set (set opened n false) i ≡ false) [
        | true ↦ λ e m. subst (λ (k : ℕ). is_set (set opened n false) k ≡ false) (eqb-true n i e) (is_set-set opened n false room)
        | false ↦ λ e m. closed-closed n h.known opened room h.closed i m
      ] refl;
      placed = placed-set source ms made tokens n one within h.placed this;
    }

-- or are what it stands for in the text itself
MadeFits-note : (source : List ℕ) (ms : List Macro) (opened : List Bool) (made : List Made) (tokens : List Token) (f : Frame) → length opened ≡ length ms → f.number < length made → f.number < length ms → is_fixed ms made f.number ≡ false → set opened f.number false ≡ shut ms
    → MadeFits source ms opened made tokens → IsMadeBy source ms opened tokens f → MadeFits source ms (set opened f.number false) (set made f.number (record { from = f.from; to = length tokens; macros = length ms; anywhere = false })) tokens
MadeFits-note source ms opened made tokens f level within inside off last h by =
    let n = f.number in
    let one : Made = record { from = f.from; to = length tokens; macros = length ms; anywhere = false } in
    let room : n < length opened = omega (arith, level, inside) in
    let alone : opened ≡ set (shut ms) n true = sym (set_back opened n true false by.is_open room) ∙ ap (λ os. set os n true) last in
    let this = placed_by source ms opened tokens f false by (λ at. ap (λ os. flat_map (now_replaced source at ms os) (tokens_of ms n)) alone) in
    record {
      known = h.known;
      ordered = h.ordered;
      flagged = λ i below. elim (n == i) as (λ v. (n == i) ≡ v → is_fixed ms (set made n one) i ≡ is_in i h.known) [
        | true ↦ λ e. subst (λ (k : ℕ). is_fixed ms (set made n one) k ≡ is_in k h.known) (eqb-true n i e) (ap (λ m. m.macros == length ms && m.anywhere) (made_of-set made n one within) ∙ ap (λ b. b && false) (eq-eqb (length ms) (length ms) refl) ∙ sym off ∙ h.flagged n inside)
        | false ↦ λ e. ap (λ m. m.macros == length ms && m.anywhere) (made_of-set_other made n i one (λ same. different n i e (sym same))) ∙ h.flagged i below
      ] refl;
      closed = closed-closed n h.known opened room h.closed;
      placed = placed-set source ms made tokens n one within h.placed this;
    }

-- a macro that is left, whose tokens were not made before
pub MadeFits-left : (source : List ℕ) (ms : List Macro) (opened : List Bool) (made : List Made) (tokens : List Token) (f : Frame) (anywhere in_text : Bool) → length opened ≡ length ms → f.number < length made → f.number < length ms → is_made ms made f.number ≡ false
    → (anywhere ≡ true → AllSettled source ms made (tokens_of ms f.number)) → (in_text ≡ true → set opened f.number false ≡ shut ms) → (anywhere ≡ true) ⊎ ((anywhere ≡ false) × (in_text ≡ true))
    → MadeFits source ms opened made tokens → IsMadeBy source ms opened tokens f → MadeFits source ms (set opened f.number false) (set made f.number (record { from = f.from; to = length tokens; macros = length ms; anywhere = anywhere })) tokens
MadeFits-left source ms opened made tokens f anywhere in_text level within inside off settled last (inl same) h by =
    subst (λ (b : Bool). MadeFits source ms (set opened f.number false) (set made f.number (record { from = f.from; to = length tokens; macros = length ms; anywhere = b })) tokens) (sym same)
    (MadeFits-mark source ms opened made tokens f level within inside (ap (λ b. b && (made_of made f.number).anywhere) off) (settled same) h by)
MadeFits-left source ms opened made tokens f anywhere in_text level within inside off settled last (inr both) h by =
    subst (λ (b : Bool). MadeFits source ms (set opened f.number false) (set made f.number (record { from = f.from; to = length tokens; macros = length ms; anywhere = b })) tokens) (sym both.0)
    (MadeFits-note source ms opened made tokens f level within inside (ap (λ b. b && (made_of made f.number).anywhere) off) (last both.1) h by)

-- none were
pub MadeFits-none : (source : List ℕ) (ms : List Macro) (opened : List Bool) (made : List Made) (tokens : List Token) → ((i : ℕ) → i < length ms → is_made ms made i ≡ false) → MadeFits source ms opened made tokens
MadeFits-none source ms opened made tokens none = record {
  known = [];
  ordered = tt;
  flagged = λ i below. ap (λ b. b && (made_of made i).anywhere) (none i below);
  closed = λ i h. absurd (cc);
  placed = λ i below on. let off = none i below in absurd (cc);
}

-- what was made, at another place
pub made_again : (source : List ℕ) (at : Span) (ms : List Macro) (opened : List Bool) (made : List Made) (tokens : List Token) (t : Token) (i : ℕ) → length opened ≡ length ms → MadeFits source ms opened made tokens → Names source ms t i → is_made ms made i ≡ true → (is_fixed ms made i ≡ true) ⊎ (opened ≡ shut ms)
    → map (moved at) (slice_range tokens (made_of made i).from (made_of made i).to) ≡ now_replaced source at ms opened t
made_again source at ms opened made tokens t i level h names on why =
    (h.placed i names.within on).same at ∙ sym (now_replaced_once source at ms (shut ms) t i names (is_set-shut ms i) (length-shut ms)) ∙ here why
  where
    here : (is_fixed ms made i ≡ true) ⊎ (opened ≡ shut ms) → now_replaced source at ms (shut ms) t ≡ now_replaced source at ms opened t
    here (inl fixed) = replaced-same source at ms h.known (shut ms) opened t i h.ordered (λ j _. is_set-shut ms j) h.closed (length-shut ms) level names (sym (h.flagged i names.within) ∙ fixed)
    here (inr none) = ap (λ os. now_replaced source at ms os t) (sym none)
