-- The place that a `future` statement waits for.
use Rattle.std.proofs.Common.{◌≡◌, ℕ, ◌+◌, List, [], ◌∷◌, ◌++◌, true, false, refl, subst}
use Rattle.std.specs.Prelude.{IsTrue, is_some, Option, Some, None, option_to_list, slice_range}
use Rattle.std.proofs.lemmas.List.{append-nil}
use Rattle.xc_text_place.specs.declared.Span.{Span}
use Rattle.xc_lex.specs.declared.token.Token.{Token}
use Rattle.xc_tree.proofs.Lists.{and_left, and_right}
use Rattle.xc_raw.specs.declared.tree.Raw.{Raw, out-Raw}
use Rattle.xc_raw.specs.declared.word.Word.{Word}
use Rattle.xc_raw.specs.declared.word.Word.TheVariants as word
use Rattle.xc_raw.specs.declared.word.Access.{Access}
use Rattle.xc_raw.specs.declared.word.Access.TheVariants as access
use Rattle.xc_raw.specs.declared.rule.Rule.{Rule}
use Rattle.xc_raw.specs.declared.rule.Rule.TheVariants as rule
use Rattle.xc_type_rule.specs.declared.found.Found.{Found}
use Rattle.xc_type_rule.specs.Values.{rvalue, rvalue_faults}
use Rattle.xc_raw_parts.specs.Words.{word_in}
use Rattle.xc_raw_parts.specs.declared.places.PlaceStep.{PlaceStep}
use Rattle.xc_raw_parts.specs.declared.places.PlaceStep.TheVariants as place
use Rattle.xc_raw_parts.specs.Places.{member_of, members_from, steps_around, place_steps}
use Rattle.xc_type_scopes.specs.declared.env.Env.{Env}
use Rattle.xc_type_scopes.specs.Judge.{Judge, and_then}
use Rattle.xc_type_expressions.specs.declared.text.Text.{Text}
use Rattle.xc_type_expressions.specs.Roles.{value}
use Rattle.xc_type_expressions.specs.Places.{name_of, named, indexed, dotted, arrowed}
use Rattle.xc_type_expressions.specs.Judged.{judged}
use Rattle.xc_type_statement_parts.specs.Futures as futures
use Rattle.xc_welltyped_claims.specs.Lists.{Each}
use Rattle.xc_welltyped_claims.specs.Env.{Good}
use Rattle.xc_welltyped_claims.specs.Judges.{Clean, Given, Gives}
use Rattle.xc_welltyped_claims.specs.Found.{Fine}
use Rattle.xc_welltyped_claims.specs.Shaped.{rule_in, is_expr, is_place, all_of, is_token, level_ok, Shaped, IsLexed, Spoken}
use Rattle.xc_welltyped_claims.proofs.Lists.{each_both}
use Rattle.xc_welltyped_claims.proofs.Env.{fine_behind, stays_then}
use Rattle.xc_welltyped_claims.proofs.Judges.{given_self, clean_first, clean_second}
use Rattle.xc_welltyped_claims.proofs.Nodes.{parts_shaped, level_shaped}
use Rattle.xc_welltyped_claims.proofs.Strings.{spoken_of}
use Rattle.xc_welltyped_statements.proofs.Passing.{passing_reached}
use Rattle.xc_welltyped_statements.proofs.Simple.{Valued}

-- assumed of names, members and elements
pub record PlacesFine (t : Text) : Type 0 where
  pub named_fine : (span : Span) (name : ℕ) → Gives (Fine t) (named span (Some name))
  pub as_value_fine : (at inner : Span) (f : Found) (e : Env) → Good e → Fine t e f → rvalue_faults inner f.known ≡ [] → Fine t e (rvalue e.structs.sizes at f)
  pub indexed_fine : (span at : Span) (a i : Found) (e : Env) → Good e → Fine t e a → Fine t e i → Clean (indexed span at a i) e → Given e (indexed span at a i e).env (Fine t (indexed span at a i e).env (indexed span at a i e).part)
  pub dotted_fine : (span at : Span) (name : Option ℕ) (f : Found) (e : Env) → Good e → Fine t e f → Clean (dotted span at name f) e → Given e (dotted span at name f e).env (Fine t (dotted span at name f e).env (dotted span at name f e).part)
  pub arrowed_fine : (span at : Span) (name : Option ℕ) (f : Found) (e : Env) → Good e → Fine t e f → Clean (arrowed span at name f) e → Given e (arrowed span at name f e).env (Fine t (arrowed span at name f e).env (arrowed span at name f e).part)

-- members between indices
abbrev IsMember : PlaceStep → Type 0
IsMember (place.Member k n) = Unit {0}
IsMember place.Index = ⊥

step_is : (n : ℕ) (w : Word) → Each IsMember (option_to_list (member_of n w))
step_is n (word.Access a) = (tt, tt)
step_is n w = tt

members_are : (source : List ℕ) (n : ℕ) (ts : List Token) → Each IsMember (members_from source n ts)
members_are source n [] = tt
members_are source n (t ∷ ts) = each_both IsMember (option_to_list (member_of n (word_in source t))) (members_from source (n + 1) ts) (step_is n (word_in source t)) (members_are source (n + 1) ts)

place_parts : (t : Text) (n : Raw) (r : Rule) (ps : List Raw) → IsTrue (is_place r) → IsTrue (level_ok t n r ps) → IsTrue (all_of is_expr ps) × IsTrue (is_some (name_of t (out-Raw n).first)) × (is_token r ps ≡ false)
unfolding level_ok
place_parts t n rule.Place ps h k = (and_left (all_of is_expr ps) _ k, and_right (all_of is_expr ps) _ k, refl)
place_parts t n r ps h k = absurd (let no : false ≡ true = h in cc)

module _ (t : Text) (valued : Valued t) (places : PlacesFine t) where
  abbrev Reaches : List PlaceStep → List Raw → Type 0
  Reaches ss is = (at : Span) (a : Found) (e : Env) → Good e → Fine t e a → Clean (futures.reached t at a ss is) e →
      Given e (futures.reached t at a ss is e).env (Fine t (futures.reached t at a ss is e).env (futures.reached t at a ss is e).part × Each (Spoken t) is)

  end : Reaches [] []
  unfolding futures.reached
  end at a e g f c = given_self e _ g (f, tt)

  member_fine : (span at : Span) (a : Found) (k : Access) (n : ℕ) (e : Env) → Good e → Fine t e a → Clean (futures.member t span at a k n) e → Given e (futures.member t span at a k n e).env (Fine t (futures.member t span at a k n e).env (futures.member t span at a k n e).part)
  unfolding futures.member
  member_fine span at a access.Dot n e g f c = places.dotted_fine span (futures.spot_of t n) (name_of t n) a e g f c
  member_fine span at a access.Arrow n e g f c =
      let k : Found → Judge Found = arrowed span (futures.spot_of t n) (name_of t n) in
      let v = clean_first (futures.as_value at a) k e c (λ x f h. h) in
      let w = clean_second (futures.as_value at a) k e c in
      places.arrowed_fine span (futures.spot_of t n) (name_of t n) (rvalue e.structs.sizes at a) e g (places.as_value_fine at at a e g f v.faultless) w

  element_fine : (span at : Span) (a : Found) (i : Raw) (e : Env) → Good e → Fine t e a → Shaped t i → IsTrue (is_expr (rule_in i)) → Clean (futures.element t span at a i) e →
      Given e (futures.element t span at a i e).env (Fine t (futures.element t span at a i e).env (futures.element t span at a i e).part × Spoken t i)
  unfolding futures.element
  element_fine span at a i e g f h x c =
      let j = value (judged t i) in
      let k : Found → Judge Found = λ v. indexed span at a v in
      let m = valued i h x e g (clean_first j k e c (λ v f h. h)) in
      let e1 = (j e).env in
      let d = places.indexed_fine span at a (j e).part e1 m.good (fine_behind t e e1 m.stays a f) m.holds.0 (clean_second j k e c) in
      record { good = d.good; stays = stays_then e e1 _ m.stays d.stays; holds = (d.holds, m.holds.1) }

  walk : (ms : List PlaceStep) → Each IsMember ms → (ss : List PlaceStep) (is : List Raw) → Reaches ss is → Reaches (ms ++ ss) is
  unfolding futures.reached
  walk [] h ss is rest = rest
  walk (place.Index ∷ ms) h ss is rest = absurd h.0
  walk (place.Member access.Dot n ∷ ms) h ss is rest = λ at a e g f c.
      let span = futures.up_to at (futures.spot_of t n) in
      let j = futures.member t span at a access.Dot n in
      let k : Found → Judge Found = λ b. futures.reached t span b (ms ++ ss) is in
      let m = member_fine span at a access.Dot n e g f (clean_first j k e c (λ b. passing_reached t span b (ms ++ ss) is)) in
      let d = walk ms h.1 ss is rest span (j e).part (j e).env m.good m.holds (clean_second j k e c) in
      record { good = d.good; stays = stays_then e (j e).env _ m.stays d.stays; holds = d.holds }
  walk (place.Member access.Arrow n ∷ ms) h ss is rest = λ at a e g f c.
      let span = futures.up_to at (futures.spot_of t n) in
      let j = futures.member t span at a access.Arrow n in
      let k : Found → Judge Found = λ b. futures.reached t span b (ms ++ ss) is in
      let m = member_fine span at a access.Arrow n e g f (clean_first j k e c (λ b. passing_reached t span b (ms ++ ss) is)) in
      let d = walk ms h.1 ss is rest span (j e).part (j e).env m.good m.holds (clean_second j k e c) in
      record { good = d.good; stays = stays_then e (j e).env _ m.stays d.stays; holds = d.holds }

  index_step : (i : Raw) (is : List Raw) (ss : List PlaceStep) → Shaped t i → IsTrue (is_expr (rule_in i)) → Reaches ss is → Reaches (place.Index ∷ ss) (i ∷ is)
  unfolding futures.reached
  index_step i is ss h x rest at a e g f c =
      let span = futures.up_to at (futures.spot_of t (out-Raw i).end) in
      let j = futures.element t span at a i in
      let k : Found → Judge Found = λ b. futures.reached t span b ss is in
      let m = element_fine span at a i e g f h x (clean_first j k e c (λ b. passing_reached t span b ss is)) in
      let d = rest span (j e).part (j e).env m.good m.holds.0 (clean_second j k e c) in
      record { good = d.good; stays = stays_then e (j e).env _ m.stays d.stays; holds = (d.holds.0, (m.holds.1, d.holds.1)) }

  around : (from end' : ℕ) (is : List Raw) → Each (Shaped t) is → IsTrue (all_of is_expr is) → Reaches (steps_around t.source.now t.tokens.now from end' is) is
  unfolding steps_around
  around from end' [] h x =
      let ms = members_from t.source.now from (slice_range t.tokens.now from end') in
      subst (λ l. Reaches l []) (append-nil ms) (walk ms (members_are t.source.now from (slice_range t.tokens.now from end')) [] [] end)
  around from end' (i ∷ is) h x =
      let ts = slice_range t.tokens.now from (out-Raw i).first in
      walk (members_from t.source.now from ts) (members_are t.source.now from ts) _ (i ∷ is)
      (index_step i is _ h.0 (and_left _ _ x) (around (out-Raw i).end end' is h.1 (and_right (is_expr (rule_in i)) _ x)))

  pub placed_fine : IsLexed t → (p : Raw) → Shaped t p → IsTrue (is_place (rule_in p)) → Gives (λ e f. Fine t e f × Spoken t p) (futures.placed t p)
  unfolding futures.placed
  placed_fine lexed p h x = by (name_of t (out-Raw p).first) refl l.1
    where
      l : IsTrue (all_of is_expr (out-Raw p).parts) × IsTrue (is_some (name_of t (out-Raw p).first)) × (is_token (rule_in p) (out-Raw p).parts ≡ false)
      l = place_parts t p (rule_in p) (out-Raw p).parts x (level_shaped t p h)

      steps : List PlaceStep
      steps = place_steps t.source.now t.tokens.now p

      at : Span
      at = futures.spot_of t (out-Raw p).first

      by : (o : Option ℕ) → name_of t (out-Raw p).first ≡ o → IsTrue (is_some o) → Gives (λ e f. Fine t e f × Spoken t p) (and_then (named at o) (λ a. futures.reached t at a steps (out-Raw p).parts))
      by None e h = absurd (let no : false ≡ true = h in cc)
      by (Some name) same k = λ e g c.
          let j = named at (Some name) in
          let k2 : Found → Judge Found = λ a. futures.reached t at a steps (out-Raw p).parts in
          let m = places.named_fine at name e g (clean_first j k2 e c (λ b. passing_reached t at b steps (out-Raw p).parts)) in
          let d = around (out-Raw p).first (out-Raw p).end (out-Raw p).parts (parts_shaped t p h) l.0 at (j e).part (j e).env m.good m.holds (clean_second j k2 e c) in
          record { good = d.good; stays = stays_then e (j e).env _ m.stays d.stays; holds = (d.holds.0, spoken_of t lexed p h l.2 d.holds.1) }
