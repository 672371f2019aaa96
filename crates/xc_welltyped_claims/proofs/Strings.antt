-- String literals of a node are those of its parts.
use Rattle.std.proofs.Common.{◌≡◌, ℕ, zero, suc, ◌-◌, ◌<◌, ◌≤◌, List, [], ◌∷◌, map, take, drop, Bool, true, false, refl, subst, arith, ◌⊎◌, inl, inr}
use Rattle.std.specs.Prelude.{IsTrue, ◌||◌, not, is_some, Option, Some, None, option_map, slice_get, slice_range, unwrap_or}
use Rattle.std.proofs.lemmas.Bool.{cases_order}
use Rattle.xc_lex.specs.declared.token.Token.{Token}
use Rattle.xc_raw.specs.declared.tree.Raw.{Raw, out-Raw}
use Rattle.xc_raw.specs.declared.word.Word.TheVariants as word
use Rattle.xc_raw.specs.declared.word.Literal.TheVariants as literal
use Rattle.xc_tree.specs.Lists.{every}
use Rattle.xc_tree.proofs.Lists.{and_left, and_right}
use Rattle.xc_raw_parts.specs.Words.{word_in}
use Rattle.xc_type_literals.specs.declared.texts.Literal.{Literal}
use Rattle.xc_type_expressions.specs.declared.text.Text.{Text}
use Rattle.xc_welltyped_claims.specs.Lists.{Each}
use Rattle.xc_welltyped_claims.specs.Shaped.{rule_in, literal_in, is_string, lacks_strings, lacks_around, is_token, Shaped, IsLexed, Spoken}
use Rattle.xc_welltyped_claims.proofs.Nodes.{strings_shaped}

-- tokens of a stretch
get_first : {A : Type 0} (n k : ℕ) (xs : List A) (x : A) → k < n → slice_get xs k ≡ Some x → slice_get (take n xs) k ≡ Some x
get_first zero k xs x lt e = absurd (omega (arith, lt))
get_first (suc n) k [] x lt e = e
get_first (suc n) zero (y ∷ xs) x lt e = e
get_first (suc n) (suc k) (y ∷ xs) x lt e = get_first n k xs x (omega (arith, lt)) e

get_rest : {A : Type 0} (n k : ℕ) (xs : List A) (x : A) → n ≤ k → slice_get xs k ≡ Some x → slice_get (drop n xs) (k - n) ≡ Some x
get_rest zero k xs x le e = subst (λ m. slice_get xs m ≡ Some x) (let same : k ≡ k - 0 = omega arith in same) e
get_rest (suc n) k [] x le e = absurd cc
get_rest (suc n) zero (y ∷ xs) x le e = absurd (omega (arith, le))
get_rest (suc n) (suc k) (y ∷ xs) x le e =
    subst (λ m. slice_get (drop n xs) m ≡ Some x) (let same : k - n ≡ suc k - suc n = omega arith in same) (get_rest n k xs x (omega (arith, le)) e)

get_between : {A : Type 0} (xs : List A) (from to k : ℕ) (x : A) → from ≤ k → k < to → slice_get xs k ≡ Some x → slice_get (slice_range xs from to) (k - from) ≡ Some x
get_between xs from to k x le lt e = get_first (to - from) (k - from) (drop from xs) x (omega (arith, le, lt)) (get_rest from k xs x le e)

passes_at : (p : Token → Bool) (xs : List Token) (k : ℕ) (x : Token) → slice_get xs k ≡ Some x → IsTrue (every (map p xs)) → IsTrue (p x)
passes_at p [] k x e h = absurd cc
passes_at p (y ∷ xs) zero x e h = let same : y ≡ x = cc in subst (λ z. IsTrue (p z)) same (and_left (p y) _ h)
passes_at p (y ∷ xs) (suc k) x e h = passes_at p xs k x e (and_right (p y) _ h)

module _ (t : Text) (lexed : IsLexed t) where
  abbrev source : List ℕ
  source = t.source.now

  abbrev tokens : List Token
  tokens = t.tokens.now

  -- a token that is a string literal
  token_of : (o : Option Token) → unwrap_or (option_map (word_in source) o) word.Foreign ≡ word.Literal literal.Text → (x : Token) × (o ≡ Some x) × (word_in source x ≡ word.Literal literal.Text)
  token_of None e = absurd cc
  token_of (Some x) e = (x, refl, e)

  none_between : (from to token : ℕ) (l : Literal) → from ≤ token → token < to → literal_in t token ≡ Some l → IsTrue (lacks_strings source (slice_range tokens from to)) → ⊥
  none_between from to token l le lt e h =
      let x = token_of (slice_get tokens token) (lexed.literals token l e).word in
      let p : IsTrue (not (is_string (word_in source x.0))) = passes_at (λ x. not (is_string (word_in source x))) (slice_range tokens from to) (token - from) x.0 (get_between tokens from to token x.0 le lt x.1) h in
      let q : IsTrue (not (is_string (word.Literal literal.Text))) = subst (λ w. IsTrue (not (is_string w))) x.2 p in cc

  around : (from end : ℕ) (ps : List Raw) → IsTrue (lacks_around source tokens from end ps) → Each (Spoken t) ps → (token : ℕ) (l : Literal) → from ≤ token → token < end → literal_in t token ≡ Some l → IsTrue (is_some l.takes)
  unfolding lacks_around
  around from end [] h s token l le lt e = absurd (none_between from end token l le lt e h)
  around from end (p ∷ ps) h s token l le lt e = before (λ low. around (out-Raw p).end end ps (and_right (lacks_strings source (slice_range tokens from (out-Raw p).first)) _ h) s.1 token l low lt e) (cases_order token (out-Raw p).first)
    where
      within : ((out-Raw p).end ≤ token → IsTrue (is_some l.takes)) → (out-Raw p).first ≤ token → (token ≡ (out-Raw p).end) ⊎ ((token < (out-Raw p).end) ⊎ ((out-Raw p).end < token)) → IsTrue (is_some l.takes)
      within later low (inl same) = later (omega (arith, same))
      within later low (inr (inl lower)) = s.0 token l low lower e
      within later low (inr (inr upper)) = later (omega (arith, upper))

      before : ((out-Raw p).end ≤ token → IsTrue (is_some l.takes)) → (token ≡ (out-Raw p).first) ⊎ ((token < (out-Raw p).first) ⊎ ((out-Raw p).first < token)) → IsTrue (is_some l.takes)
      before later (inr (inl lower)) = absurd (none_between from (out-Raw p).first token l le lower e (and_left (lacks_strings source (slice_range tokens from (out-Raw p).first)) _ h))
      before later (inl same) = within later (omega (arith, same)) (cases_order token (out-Raw p).end)
      before later (inr (inr upper)) = within later (omega (arith, upper)) (cases_order token (out-Raw p).end)

  unless_token : (b c : Bool) → b ≡ false → IsTrue (b || c) → IsTrue c
  unless_token true c e h = absurd cc
  unless_token false c e h = h

  -- a node but one of a single token
  pub spoken_of : (node : Raw) → Shaped t node → is_token (rule_in node) (out-Raw node).parts ≡ false → Each (Spoken t) (out-Raw node).parts → Spoken t node
  spoken_of node h e s = around (out-Raw node).first (out-Raw node).end (out-Raw node).parts
      (unless_token (is_token (rule_in node) (out-Raw node).parts) _ e (strings_shaped t node h)) s
