-- Sets of texts, as lists of spellings.
use Rattle.std.proofs.Common.{◌≡◌, ℕ, suc, ◌+◌, ◌^◌, ◌<◌, ◌≤◌, List, [], ◌∷◌, ◌++◌, length, length-append, map, Bool, true, false, cond, position, refl, ap, sym, ◌∙◌, arith, if◌then◌else◌}
use Rattle.std.specs.Prelude.{◌||◌, fold, Some, None, nat_lt}
use Rattle.std.specs.List.{list_any, position_or_len}
use Rattle.std.specs.Str.{bytes_eq}
use Rattle.std.proofs.lemmas.List.{map-append}
use Rattle.indexmap.specs.IndexSet.{insert_key}
use Rattle.xc_lex.specs.declared.token.Token.{Token}
use Rattle.xc_type_names.specs.Numbered.{name_at, text_of, with_token, spellings, reserved}

module _ {K : Type 0} (items : K → List ℕ) where
  any_items : (p : List ℕ → Bool) (ks : List K) → list_any (λ k. p (items k)) ks ≡ list_any p (map items ks)
  any_items p [] = refl
  any_items p (k ∷ ks) = ap (λ b. p (items k) || b) (any_items p ks)

  pub insert_items : (eq : K → K → Bool) → ((a b : K) → eq a b ≡ bytes_eq (items a) (items b)) → (ks : List K) (k : K) →
      map items (insert_key eq ks k) ≡ insert_key bytes_eq (map items ks) (items k)
  insert_items eq is ks k = by (list_any (eq k) ks) refl
    where
      same : (ks : List K) → list_any (eq k) ks ≡ list_any (bytes_eq (items k)) (map items ks)
      same [] = refl
      same (x ∷ xs) = (λ i. is k x i || same xs i)

      by : (b : Bool) → list_any (eq k) ks ≡ b → map items (insert_key eq ks k) ≡ insert_key bytes_eq (map items ks) (items k)
      by true e = ap (λ c. map items (if c then ks else ks ++ k ∷ [])) e ∙ ap (λ c. if c then map items ks else map items ks ++ items k ∷ []) (sym e ∙ same ks)
      by false e = ap (λ c. map items (if c then ks else ks ++ k ∷ [])) e ∙ map-append items ks (k ∷ []) ∙ ap (λ c. if c then map items ks else map items ks ++ items k ∷ []) (sym e ∙ same ks)

  place_items : (p : List ℕ → Bool) (ks : List K) → position_or_len (λ k. p (items k)) ks ≡ position_or_len p (map items ks)
  place_items p [] = refl
  place_items p (k ∷ ks) = by (p (items k)) refl (place_items p ks)
    where
      by : (b : Bool) → p (items k) ≡ b → position_or_len (λ k. p (items k)) ks ≡ position_or_len p (map items ks) →
          position_or_len (λ k. p (items k)) (k ∷ ks) ≡ position_or_len p (map items (k ∷ ks))
      by true e rest = grind (arith, e)
      by false e rest = grind (arith, e, rest)

  length_items : (ks : List K) → length (map items ks) ≡ length ks
  length_items [] = refl
  length_items (k ∷ ks) = ap suc (length_items ks)

  pub position_items : (p : List ℕ → Bool) (ks : List K) → position (λ k. p (items k)) ks ≡ position p (map items ks)
  position_items p ks = (λ i. cond (nat_lt (place_items p ks i) (sym (length_items ks) i)) (Some (place_items p ks i)) None)

-- the reserved names and at most one for each token
known_most : (source : List ℕ) (ks : List (List ℕ)) (ts : List Token) → length (fold (with_token source) ks ts) ≤ length ks + length ts
known_most source ks [] = omega arith
known_most source ks (t ∷ ts) = omega (arith, known_most source (with_token source ks t) ts, one (name_at t.kind))
  where
    inserted : (s : List ℕ) (b : Bool) → list_any (bytes_eq s) ks ≡ b → length (insert_key bytes_eq ks s) ≤ length ks + 1
    inserted s true e = rw e (omega arith)
    inserted s false e = rw e (omega (arith, length-append ks (s ∷ [])))

    one : (b : Bool) → length (if b then insert_key bytes_eq ks (text_of source t) else ks) ≤ length ks + 1
    one true = inserted (text_of source t) _ refl
    one false = omega arith

spellings_most : (source : List ℕ) (ts : List Token) → length (spellings source ts) ≤ length ts + 9
unfolding reserved
spellings_most source ts = omega (arith, known_most source (map (λ p. p.0) reserved) ts)

-- a set with the spellings of a text has a number for each
pub few : {K : Type 0} (items : K → List ℕ) (ks : List K) (source : List ℕ) (ts : List Token) → map items ks ≡ spellings source ts → length ts ≤ 2 ^ 20 → length ks < 2 ^ 32
few items ks source ts is limit = omega (arith, length_items items ks, ap length is, spellings_most source ts)
