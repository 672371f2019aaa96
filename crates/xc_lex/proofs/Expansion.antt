-- One step of the expansion.
use Rattle.std.proofs.Common.{◌≡◌, ◌≤◌, ◌<◌, ℕ, zero, suc, ◌+◌, List, [], ◌∷◌, length, sum_by, Bool, true, false, ◌==◌, ◌||◌, ◌++◌, inl, inr, map, Some, None, refl, sym, ap, ◌∙◌, subst, arith}
use Rattle.std.proofs.Math.ListN.{set, length-set}
use Rattle.std.specs.List.{flat_map}
use Rattle.std.specs.Option.{option_map_or}
use Rattle.std.proofs.lemmas.List.{map-append}
use Rattle.std.proofs.lemmas.Bool.{eqb-true, eq-eqb}
use Rattle.xc_text_place.specs.declared.Span.{Span}
use Rattle.xc_lex.specs.declared.token.Token.{Token}
use Rattle.xc_lex.specs.declared.token.TokenKind.TheVariants.{Name}
use Rattle.xc_lex.specs.declared.macros.Macro.{Macro}
use Rattle.xc_lex.specs.Macros.{Macros, bytes_of, body_of, without, replacement, replacement_by, replaced}
use Rattle.xc_lex.specs.State.{visible, index_of, Names, NamesNone, tokens_of, is_set, is_in, AreOf, AreOrdered, moved, now_replaced}
use Rattle.xc_lex.specs.InnerState.{cost, now_cost}
use Rattle.xc_lex.proofs.Lookups.{body_of-closed, visible-open, length-visible-open, is_set-set, is_set-set_other}

pub replaced-kept : (source : List ℕ) (at : Span) (n : ℕ) (ms : Macros) (t : Token) → replacement source ms t ≡ None → replaced source at n ms t ≡ moved at t ∷ []
replaced-kept source at zero ms t h = refl
replaced-kept source at (suc n) ms t h = rw h refl

pub replaced_once : (source : List ℕ) (at : Span) (n : ℕ) (ms ns : Macros) (t : Token) (body : List Token) → replacement source ms t ≡ Some body → without (bytes_of source t.text) ms ≡ ns
    → replaced source at (suc n) ms t ≡ flat_map (replaced source at n ns) body
replaced_once source at n ms ns t body h w = rw (h, w) refl

pub cost_once : (source : List ℕ) (n : ℕ) (ms ns : Macros) (t : Token) (body : List Token) → replacement source ms t ≡ Some body → without (bytes_of source t.text) ms ≡ ns
    → cost source (suc n) ms t ≡ 2 + sum_by (cost source n ns) body
cost_once source n ms ns t body h w = rw (h, w) refl

pub two-le-cost : (source : List ℕ) (n : ℕ) (ms : Macros) (t : Token) → 2 ≤ cost source n ms t
two-le-cost source zero ms t = omega arith
two-le-cost source (suc n) ms t = omega arith

pub replacement_name : (source : List ℕ) (ms : Macros) (t : Token) → t.kind ≡ Name → replacement source ms t ≡ body_of ms (bytes_of source t.text)
replacement_name source ms t k = ap (λ k. replacement_by k ms (bytes_of source t.text)) k

-- to replace a token is to open its macro
record Opens (source : List ℕ) (ms : List Macro) (opened : List Bool) (t : Token) (i : ℕ) : Type 0 where
  body : replacement source (visible source ms opened) t ≡ Some (tokens_of ms i)
  rest : without (bytes_of source t.text) (visible source ms opened) ≡ visible source ms (set opened i true)
  fuel : suc (length (visible source ms (set opened i true))) ≡ length (visible source ms opened)

opens : (source : List ℕ) (ms : List Macro) (opened : List Bool) (t : Token) (i : ℕ) → Names source ms t i → is_set opened i ≡ false → length opened ≡ length ms → Opens source ms opened t i
opens source ms opened t i names shut level =
    let name = bytes_of source t.text in
    let j : index_of source ms name ≡ i = sym names.index in
    let within : index_of source ms name < length ms = omega (arith, names.within, j) in
    let room : index_of source ms name < length opened = omega (arith, within, level) in
    let closed : is_set opened (index_of source ms name) ≡ false = subst (λ (k : ℕ). is_set opened k ≡ false) names.index shut in
    let there : Opens source ms opened t (index_of source ms name) = record {
      body = replacement_name source _ t names.kind ∙ body_of-closed source ms opened name within closed;
      rest = sym (visible-open source ms opened name within room closed);
      fuel = length-visible-open source ms opened (index_of source ms name) within room closed;
    } in
    subst (λ (k : ℕ). Opens source ms opened t k) j there

pub now_replaced_once : (source : List ℕ) (at : Span) (ms : List Macro) (opened : List Bool) (t : Token) (i : ℕ) → Names source ms t i → is_set opened i ≡ false → length opened ≡ length ms
    → now_replaced source at ms opened t ≡ flat_map (now_replaced source at ms (set opened i true)) (tokens_of ms i)
now_replaced_once source at ms opened t i names shut level =
    let o = opens source ms opened t i names shut level in
    ap (λ n. replaced source at n (visible source ms opened) t) (sym o.fuel) ∙ replaced_once source at (length (visible source ms (set opened i true))) (visible source ms opened) _ t _ o.body o.rest

pub now_cost_once : (source : List ℕ) (ms : List Macro) (opened : List Bool) (t : Token) (i : ℕ) → Names source ms t i → is_set opened i ≡ false → length opened ≡ length ms
    → now_cost source ms opened t ≡ 2 + sum_by (now_cost source ms (set opened i true)) (tokens_of ms i)
now_cost_once source ms opened t i names shut level =
    let o = opens source ms opened t i names shut level in
    ap (λ n. cost source n (visible source ms opened) t) (sym o.fuel) ∙ cost_once source (length (visible source ms (set opened i true))) (visible source ms opened) _ t _ o.body o.rest

-- what is not among some numbers differs from each of them
pub differs : (i j : ℕ) (known : List ℕ) → is_in i known ≡ false → is_in j known ≡ true → j ≡ i → ⊥
differs i j known h k e = let same : is_in i known ≡ true = subst (λ (n : ℕ). is_in n known ≡ true) e k in cc

pub or_right : (a b : Bool) → b ≡ true → (a || b) ≡ true
or_right true b h = refl
or_right false b h = h

-- tokens that stand for the same, each of them
pub flat_map-same : (source : List ℕ) (ms : List Macro) (known : List ℕ) (f g : Token → List Token) (ts : List Token) → AreOf source ms known ts → ((u : Token) → NamesNone source ms u → f u ≡ g u) → ((u : Token) (i : ℕ) → Names source ms u i → is_in i known ≡ true → f u ≡ g u)
    → flat_map f ts ≡ flat_map g ts
flat_map-same source ms known f g [] names plain named = refl
flat_map-same source ms known f g (t ∷ ts) (inl none, names) plain named = ap (λ us. us ++ flat_map f ts) (plain t none) ∙ ap (λ us. g t ++ us) (flat_map-same source ms known f g ts names plain named)
flat_map-same source ms known f g (t ∷ ts) (inr one, names) plain named = ap (λ us. us ++ flat_map f ts) (named t one.0 one.1 one.2) ∙ ap (λ us. g t ++ us) (flat_map-same source ms known f g ts names plain named)

plain-same : (source : List ℕ) (at : Span) (ms : List Macro) (opened opened' : List Bool) (u : Token) → NamesNone source ms u → now_replaced source at ms opened u ≡ now_replaced source at ms opened' u
plain-same source at ms opened opened' u none =
    replaced-kept source at (length (visible source ms opened)) (visible source ms opened) u (none opened) ∙ sym (replaced-kept source at (length (visible source ms opened')) (visible source ms opened') u (none opened'))

-- flags that leave each of some macros closed
abbrev pub AreClosed : List ℕ → List Bool → Type 0
AreClosed known opened = (j : ℕ) → is_in j known ≡ true → is_set opened j ≡ false

closed-behind : (i : ℕ) (known : List ℕ) (opened : List Bool) → AreClosed (i ∷ known) opened → AreClosed known opened
closed-behind i known opened closed j h = closed j (or_right (i == j) (is_in j known) h)

pub different : (i n : ℕ) → (i == n) ≡ false → i ≡ n → ⊥
different i n e same = let yes : (i == n) ≡ true = eq-eqb i n same in cc

pub closed-closed : (n : ℕ) (known : List ℕ) (opened : List Bool) → n < length opened → AreClosed known opened → AreClosed known (set opened n false)
closed-closed n known opened within closed i member = elim (i == n) as (λ v. (i == n) ≡ v → is_set (set opened n false) i ≡ false) [
  | true ↦ λ e. subst (λ (k : ℕ). is_set (set opened n false) k ≡ false) (sym (eqb-true i n e)) (is_set-set opened n false within)
  | false ↦ λ e. is_set-set_other opened n i false (different i n e) ∙ closed i member
] refl

pub closed-opened : (i : ℕ) (known : List ℕ) (opened : List Bool) → is_in i known ≡ false → AreClosed known opened → AreClosed known (set opened i true)
closed-opened i known opened out closed j h = is_set-set_other opened i j true (differs i j known out h) ∙ closed j h

-- macros none of which is in its own expansion stand for the same, whatever others are opened
pub replaced-same : (source : List ℕ) (at : Span) (ms : List Macro) (known : List ℕ) (opened opened' : List Bool) (t : Token) (n : ℕ) → AreOrdered source ms known → AreClosed known opened → AreClosed known opened' → length opened ≡ length ms → length opened' ≡ length ms
    → Names source ms t n → is_in n known ≡ true → now_replaced source at ms opened t ≡ now_replaced source at ms opened' t
replaced-same source at ms [] opened opened' t n ordered closed closed' level level' names member = absurd (cc)
replaced-same source at ms (i ∷ known) opened opened' t n ordered closed closed' level level' names member =
    elim (i == n) as (λ v. (i == n) ≡ v → (v || is_in n known) ≡ true → now_replaced source at ms opened t ≡ now_replaced source at ms opened' t) [
      | true ↦ λ e m.
          let same : i ≡ n = eqb-true i n e in
          let named : Names source ms t i = subst (λ (k : ℕ). Names source ms t k) (sym same) names in
          let here : is_in i (i ∷ known) ≡ true = subst (λ (k : ℕ). is_in k (i ∷ known) ≡ true) (sym same) member in
          let left = closed-opened i known opened ordered.0 (closed-behind i known opened closed) in
          let left' = closed-opened i known opened' ordered.0 (closed-behind i known opened' closed') in
          let kept : length (set opened i true) ≡ length ms = simp length-set level in
          let kept' : length (set opened' i true) ≡ length ms = simp length-set level' in
          now_replaced_once source at ms opened t i named (closed i here) level
          ∙ flat_map-same source ms known _ _ (tokens_of ms i) ordered.1 (plain-same source at ms (set opened i true) (set opened' i true)) (λ u k of_u h. replaced-same source at ms known (set opened i true) (set opened' i true) u k ordered.2 left left' kept kept' of_u h)
          ∙ sym (now_replaced_once source at ms opened' t i named (closed' i here) level')
      | false ↦ λ e m. replaced-same source at ms known opened opened' t n ordered.2 (closed-behind i known opened closed) (closed-behind i known opened' closed') level level' names m
    ] refl member

-- so do tokens that name them alone
pub body-same : (source : List ℕ) (at : Span) (ms : List Macro) (known : List ℕ) (opened opened' : List Bool) (ts : List Token) → AreOrdered source ms known → AreClosed known opened → AreClosed known opened' → length opened ≡ length ms → length opened' ≡ length ms
    → AreOf source ms known ts → flat_map (now_replaced source at ms opened) ts ≡ flat_map (now_replaced source at ms opened') ts
body-same source at ms known opened opened' ts ordered closed closed' level level' names =
    flat_map-same source ms known _ _ ts names (plain-same source at ms opened opened') (λ u k of_u h. replaced-same source at ms known opened opened' u k ordered closed closed' level level' of_u h)

-- what a token stands for, at another place
pub flat_map-moved : (at : Span) (f g : Token → List Token) (ts : List Token) → ((u : Token) → map (moved at) (f u) ≡ g u) → map (moved at) (flat_map f ts) ≡ flat_map g ts
flat_map-moved at f g [] same = refl
flat_map-moved at f g (t ∷ ts) same = map-append (moved at) (f t) (flat_map f ts) ∙ ap (λ us. us ++ map (moved at) (flat_map f ts)) (same t) ∙ ap (λ us. g t ++ us) (flat_map-moved at f g ts same)

pub replaced-moved : (source : List ℕ) (at at' : Span) (n : ℕ) (ms : Macros) (t : Token) → map (moved at') (replaced source at n ms t) ≡ replaced source at' n ms t
replaced-moved source at at' zero ms t = refl
replaced-moved source at at' (suc n) ms t =
    let ns = without (bytes_of source t.text) ms in
    elim (replacement source ms t) as (λ v. map (moved at') (option_map_or (λ body. flat_map (λ u. replaced source at n ns u) body) v (record t { at = at } ∷ [])) ≡ option_map_or (λ body. flat_map (λ u. replaced source at' n ns u) body) v (record t { at = at' } ∷ []))
    [ None ↦ refl | Some body ↦ flat_map-moved at' (λ u. replaced source at n ns u) (λ u. replaced source at' n ns u) body (λ u. replaced-moved source at at' n ns u) ]
