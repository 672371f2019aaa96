-- One step of the frames.
use Rattle.std.proofs.Common.{◌≡◌, ◌≤◌, ◌<◌, ◌^◌, ℕ, zero, suc, ◌+◌, List, [], ◌∷◌, ◌++◌, length, drop, sum_by, Bool, true, false, None, refl, sym, ap, ◌∙◌, subst, arith, get_or, append_assoc, length-append}
use Rattle.std.proofs.Math.ListN.{set, length-set}
use Rattle.std.specs.List.{flat_map}
use Rattle.std.proofs.lemmas.List.Sums.{sum_by-cons}
use Rattle.std.proofs.lemmas.List.{append-nil}
use Rattle.xc_text_place.specs.declared.Span.{Span}
use Rattle.xc_lex.specs.declared.token.Token.{Token}
use Rattle.xc_lex.specs.declared.macros.Macro.{Macro}
use Rattle.xc_lex.specs.declared.macros.Frame.{Frame}
use Rattle.xc_lex.specs.declared.macros.Made.{Made}
use Rattle.xc_lex.specs.Macros.{replacement}
use Rattle.xc_lex.specs.State.{tokens_of, is_set, Names, moved, MadeFits, IsKept, now_replaced, visible, is_fixed}
use Rattle.xc_lex.specs.InnerState.{IsMadeBy, AreSpans, now_cost, pending, frames_cost, unwound, Entered}
use Rattle.xc_lex.proofs.Lookups.{set_back, is_set-set}
use Rattle.xc_lex.proofs.Expansion.{replaced-kept, two-le-cost, now_replaced_once, now_cost_once}
use Rattle.xc_lex.proofs.Made.{MadeFits-open, MadeFits-append}

pub pending_next : (source : List ℕ) (at : Span) (ms : List Macro) (opened : List Bool) (f : Frame) (fs : List Frame) (t : Token) → drop f.next (tokens_of ms f.number) ≡ t ∷ drop (f.next + 1) (tokens_of ms f.number)
    → pending source at ms opened (f ∷ fs) ≡ now_replaced source at ms opened t ++ pending source at ms opened (record f { next = f.next + 1 } ∷ fs)
pending_next source at ms opened f fs t h =
    ap (λ ts. flat_map (now_replaced source at ms opened) ts ++ pending source at ms (set opened f.number false) fs) h ∙ append_assoc (now_replaced source at ms opened t) (flat_map (now_replaced source at ms opened) (drop (f.next + 1) (tokens_of ms f.number))) (pending source at ms (set opened f.number false) fs)

pub pending_done : (source : List ℕ) (at : Span) (ms : List Macro) (opened : List Bool) (f : Frame) (fs : List Frame) → drop f.next (tokens_of ms f.number) ≡ []
    → pending source at ms opened (f ∷ fs) ≡ pending source at ms (set opened f.number false) fs
pending_done source at ms opened f fs h = ap (λ ts. flat_map (now_replaced source at ms opened) ts ++ pending source at ms (set opened f.number false) fs) h

pub cost_next : (source : List ℕ) (ms : List Macro) (opened : List Bool) (f : Frame) (fs : List Frame) (t : Token) → drop f.next (tokens_of ms f.number) ≡ t ∷ drop (f.next + 1) (tokens_of ms f.number)
    → frames_cost source ms opened (f ∷ fs) ≡ now_cost source ms opened t + frames_cost source ms opened (record f { next = f.next + 1 } ∷ fs)
cost_next source ms opened f fs t h =
    let step : sum_by (now_cost source ms opened) (drop f.next (tokens_of ms f.number)) ≡ now_cost source ms opened t + sum_by (now_cost source ms opened) (drop (f.next + 1) (tokens_of ms f.number)) =
    ap (λ ts. sum_by (now_cost source ms opened) ts) h ∙ sum_by-cons (now_cost source ms opened) t (drop (f.next + 1) (tokens_of ms f.number)) in
    omega (arith, step)

pub cost_done : (source : List ℕ) (ms : List Macro) (opened : List Bool) (f : Frame) (fs : List Frame) → frames_cost source ms (set opened f.number false) fs < frames_cost source ms opened (f ∷ fs)
cost_done source ms opened f fs = omega arith

-- what the frames make
pub spans_next : (source : List ℕ) (at : Span) (ms : List Macro) (opened : List Bool) (tokens : List Token) (f : Frame) (fs : List Frame) (t : Token) → drop f.next (tokens_of ms f.number) ≡ t ∷ drop (f.next + 1) (tokens_of ms f.number)
    → AreSpans source at ms opened tokens (f ∷ fs) → AreSpans source at ms opened (tokens ++ now_replaced source at ms opened t) (record f { next = f.next + 1 } ∷ fs)
spans_next source at ms opened tokens f fs t h spans =
    let rest = flat_map (now_replaced source at ms opened) (drop (f.next + 1) (tokens_of ms f.number)) in
    let all : tokens ++ flat_map (now_replaced source at ms opened) (drop f.next (tokens_of ms f.number)) ≡ (tokens ++ now_replaced source at ms opened t) ++ rest =
    ap (λ ts. tokens ++ flat_map (now_replaced source at ms opened) ts) h ∙ sym (append_assoc tokens (now_replaced source at ms opened t) rest) in
    let made = subst (λ (ts : List Token). IsMadeBy source ms opened ts f) all spans.0 in
    (record { is_open = made.is_open; at = made.at; before = made.before; size = made.size; same = made.same }, subst (λ (ts : List Token). AreSpans source at ms (set opened f.number false) ts fs) all spans.1)

pub spans_done : (source : List ℕ) (at : Span) (ms : List Macro) (opened : List Bool) (tokens : List Token) (f : Frame) (fs : List Frame) → drop f.next (tokens_of ms f.number) ≡ []
    → AreSpans source at ms opened tokens (f ∷ fs) → IsMadeBy source ms opened tokens f × AreSpans source at ms (set opened f.number false) tokens fs
spans_done source at ms opened tokens f fs h spans =
    let all : tokens ++ flat_map (now_replaced source at ms opened) (drop f.next (tokens_of ms f.number)) ≡ tokens = ap (λ ts. tokens ++ flat_map (now_replaced source at ms opened) ts) h ∙ append-nil tokens in
    (subst (λ (ts : List Token). IsMadeBy source ms opened ts f) all spans.0, subst (λ (ts : List Token). AreSpans source at ms (set opened f.number false) ts fs) all spans.1)

-- a token's own tokens were added
pub Entered-added : (source : List ℕ) (at : Span) (ms : List Macro) (opened : List Bool) (made : List Made) (frames : List Frame) (tokens more : List Token) (t : Token) → IsKept source ms opened made → MadeFits source ms opened made tokens → more ≡ now_replaced source at ms opened t → length (tokens ++ more) ≤ 2 ^ 20
    → Entered source at ms opened frames tokens t opened made frames (tokens ++ more)
Entered-added source at ms opened made frames tokens more t kept fits same few =
    let least = two-le-cost source (length (visible source ms opened)) (visible source ms opened) t in
    record {
      kept = kept;
      fits = MadeFits-append source ms opened made tokens more fits;
      within = λ w. w;
      unwinds = refl;
      spans = λ spans. subst (λ (ts : List Token). AreSpans source at ms opened (tokens ++ ts) frames) (sym same) spans;
      told = append_assoc tokens more (pending source at ms opened frames) ∙ ap (λ ts. tokens ++ (ts ++ pending source at ms opened frames)) same;
      cheaper = omega (arith, least);
      few = few;
    }

-- a token is kept
pub Entered-keep : (source : List ℕ) (at : Span) (ms : List Macro) (opened : List Bool) (made : List Made) (frames : List Frame) (tokens : List Token) (t : Token) → IsKept source ms opened made → MadeFits source ms opened made tokens → replacement source (visible source ms opened) t ≡ None → length tokens < 2 ^ 20
    → Entered source at ms opened frames tokens t opened made frames (tokens ++ moved at t ∷ [])
Entered-keep source at ms opened made frames tokens t kept fits h few =
    Entered-added source at ms opened made frames tokens (moved at t ∷ []) t kept fits (sym (replaced-kept source at (length (visible source ms opened)) (visible source ms opened) t h)) (simp length-append (omega arith))

-- a token stands for those of a macro
pub Entered-enter : (source : List ℕ) (at : Span) (ms : List Macro) (opened : List Bool) (made : List Made) (frames : List Frame) (tokens : List Token) (t : Token) (i from : ℕ) → IsKept source ms opened made → MadeFits source ms opened made tokens → Names source ms t i → is_set opened i ≡ false → is_fixed ms made i ≡ false → length tokens ≡ from → length tokens ≤ 2 ^ 20
    → Entered source at ms opened frames tokens t (set opened i true) made (record { number = i; next = 0; from = from } ∷ frames) tokens
Entered-enter source at ms opened made frames tokens t i from kept fits names shut off size few =
    let room : i < length opened = omega (arith, names.within, kept.opened_len) in
    let back = set_back opened i false true shut room in
    let same = now_replaced_once source at ms opened t i names shut kept.opened_len in
    let price = now_cost_once source ms opened t i names shut kept.opened_len in
    let left = ap (λ os. frames_cost source ms os frames) back in
    record {
      kept = record { opened_len = simp length-set kept.opened_len; made_len = kept.made_len; apart = kept.apart; past = kept.past };
      fits = MadeFits-open source ms opened made tokens i names.within off fits;
      within = λ w. (names.within, w);
      unwinds = ap (λ os. unwound os frames) back;
      spans = λ spans. (
        record { is_open = is_set-set opened i true room; at = at; before = tokens; size = size; same = refl },
        subst (λ (os : List Bool). AreSpans source at ms os (tokens ++ flat_map (now_replaced source at ms (set opened i true)) (tokens_of ms i)) frames) (sym back) (subst (λ (ts : List Token). AreSpans source at ms opened (tokens ++ ts) frames) same spans),
      );
      told = ap (λ ts. tokens ++ (ts ++ pending source at ms (set (set opened i true) i false) frames)) (sym same) ∙ ap (λ os. tokens ++ (now_replaced source at ms opened t ++ pending source at ms os frames)) back;
      cheaper = omega (arith, price, left);
      few = few;
    }

-- a macro's tokens, read by number
pub tokens_of_read : (ms : List Macro) (i : ℕ) (d : Macro) → i < length ms → (get_or ms i d).body.items ≡ tokens_of ms i
tokens_of_read [] i d h = absurd (omega arith)
tokens_of_read (m ∷ ms) zero d h = refl
tokens_of_read (m ∷ ms) (suc i) d h = tokens_of_read ms i d (omega arith)
