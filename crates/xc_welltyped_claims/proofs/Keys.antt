-- Sets of what tokens are known by, each once, in the order in which they come first.
use Rattle.std.proofs.Common.{◌≡◌, ℕ, zero, suc, ◌+◌, ◌<◌, List, [], ◌∷◌, ◌++◌, length, Bool, true, false, cond, position, refl, sym, ap, ◌∙◌, subst, arith, if◌then◌else◌, ◌⊎◌, inl, inr}
use Rattle.std.specs.Prelude.{◌||◌, not, Some, None, fold, get_or, slice_get}
use Rattle.std.specs.List.{list_any, position_or_len}
use Rattle.std.proofs.lemmas.Bool.{lt-ltb}
use Rattle.std.proofs.lemmas.Option.{slice_get-get_or}
use Rattle.std.proofs.lemmas.List.Folds.{list_any-append}
use Rattle.std.proofs.lemmas.List.Quantifiers.{position-Some}
use mathlib.Core.Logic.{⊎_elim}
use Rattle.indexmap.specs.IndexSet.{insert_key}
use Rattle.xc_lex.specs.declared.token.Token.{Token}

-- places ----------------------------------------------------------------------------

module _ {K : Type 0} (p : K → Bool) where
  pub any_at : (ks : List K) (n : ℕ) (k : K) → slice_get ks n ≡ Some k → p k ≡ true → list_any p ks ≡ true
  any_at [] n k e h = absurd cc
  any_at (x ∷ ks) zero k e h = let same : x ≡ k = cc in ap (λ y. p y || list_any p ks) same ∙ ap (λ b. b || list_any p ks) h
  any_at (x ∷ ks) (suc n) k e h = by (p x) (any_at ks n k e h)
    where
      by : (b : Bool) → list_any p ks ≡ true → (b || list_any p ks) ≡ true
      by true i = refl
      by false i = i

  below : (ks : List K) → list_any p ks ≡ true → position_or_len p ks < length ks
  below [] h = absurd cc
  below (x ∷ ks) h = by (p x) refl (below ks)
    where
      by : (b : Bool) → p x ≡ b → (list_any p ks ≡ true → position_or_len p ks < length ks) → cond (not (p x)) (1 + position_or_len p ks) 0 < length (x ∷ ks)
      by true e f = let none : cond (not (p x)) (1 + position_or_len p ks) 0 ≡ 0 = ap (λ b. cond (not b) (1 + position_or_len p ks) 0) e in omega (arith, none)
      by false e f =
          let more : cond (not (p x)) (1 + position_or_len p ks) 0 ≡ 1 + position_or_len p ks = ap (λ b. cond (not b) (1 + position_or_len p ks) 0) e in
          let less : position_or_len p ks < length ks = f (ap (λ b. b || list_any p ks) (sym e) ∙ h) in
          omega (arith, more, less)

  pub place_is : (ks : List K) → list_any p ks ≡ true → (n : ℕ) × (position p ks ≡ Some n)
  place_is ks h = (position_or_len p ks, ap (λ b. cond b (Some (position_or_len p ks)) None) (lt-ltb (position_or_len p ks) (length ks) (below ks h)))

  -- what stands at a place that was found
  pub place_holds : K → (ks : List K) (n : ℕ) → position p ks ≡ Some n → (k : K) × (slice_get ks n ≡ Some k) × (p k ≡ true)
  place_holds d ks n e = let h = position-Some p ks n d e in (get_or ks n d, slice_get-get_or ks n d h.0, h.1)

-- sets --------------------------------------------------------------------------------

module _ {K : Type 0} (eq : K → K → Bool) where
  pub insert_keeps : (p : K → Bool) (ks : List K) (k : K) → list_any p ks ≡ true → list_any p (insert_key eq ks k) ≡ true
  insert_keeps p ks k h = by (list_any (eq k) ks) refl
    where
      by : (b : Bool) → list_any (eq k) ks ≡ b → list_any p (if list_any (eq k) ks then ks else ks ++ k ∷ []) ≡ true
      by true e = ap (λ c. list_any p (if c then ks else ks ++ k ∷ [])) e ∙ h
      by false e = ap (λ c. list_any p (if c then ks else ks ++ k ∷ [])) e ∙ list_any-append p ks (k ∷ []) ∙ ap (λ c. c || list_any p (k ∷ [])) h

  inserted : (ks : List K) (k : K) → eq k k ≡ true → list_any (eq k) (insert_key eq ks k) ≡ true
  inserted ks k r = by (list_any (eq k) ks) refl
    where
      by : (b : Bool) → list_any (eq k) ks ≡ b → list_any (eq k) (if list_any (eq k) ks then ks else ks ++ k ∷ []) ≡ true
      by true e = ap (λ c. list_any (eq k) (if c then ks else ks ++ k ∷ [])) e ∙ e
      by false e = ap (λ c. list_any (eq k) (if c then ks else ks ++ k ∷ [])) e ∙ list_any-append (eq k) ks (k ∷ []) ∙ ap (λ c. c || (eq k k || false)) e ∙ ap (λ c. c || false) r

  -- a key has one place
  abbrev pub Unique : List K → Type 0
  Unique ks = (i j : ℕ) (a b : K) → slice_get ks i ≡ Some a → slice_get ks j ≡ Some b → eq a b ≡ true → i ≡ j

  get_end : (ks : List K) (k : K) (n : ℕ) (a : K) → slice_get (ks ++ k ∷ []) n ≡ Some a → (slice_get ks n ≡ Some a) ⊎ ((n ≡ length ks) × (k ≡ a))
  get_end [] k zero a e = inr (refl, cc)
  get_end [] k (suc n) a e = absurd cc
  get_end (x ∷ ks) k zero a e = inl e
  get_end (x ∷ ks) k (suc n) a e = by (get_end ks k n a e)
    where
      by : (slice_get ks n ≡ Some a) ⊎ ((n ≡ length ks) × (k ≡ a)) → (slice_get ks n ≡ Some a) ⊎ ((suc n ≡ suc (length ks)) × (k ≡ a))
      by (inl h) = inl h
      by (inr h) = inr (ap suc h.0, h.1)

  module _ (back : (a b : K) → eq a b ≡ true → eq b a ≡ true) where
    unique_more : (ks : List K) (k : K) → list_any (eq k) ks ≡ false → Unique ks → Unique (ks ++ k ∷ [])
    unique_more ks k none u i j a b x y e = by (get_end ks k i a x) (get_end ks k j b y)
      where
        clash : (n : ℕ) (c : K) → slice_get ks n ≡ Some c → eq k c ≡ true → ⊥
        clash n c at same = let both : true ≡ false = sym (any_at (eq k) ks n c at same) ∙ none in cc both

        by : (slice_get ks i ≡ Some a) ⊎ ((i ≡ length ks) × (k ≡ a)) → (slice_get ks j ≡ Some b) ⊎ ((j ≡ length ks) × (k ≡ b)) → i ≡ j
        by (inl h) (inl g) = u i j a b h g e
        by (inl h) (inr g) = absurd (clash i a h (back a k (ap (eq a) g.1 ∙ e)))
        by (inr h) (inl g) = absurd (clash j b g (ap (λ c. eq c b) h.1 ∙ e))
        by (inr h) (inr g) = h.0 ∙ sym g.0

    insert_unique : (ks : List K) (k : K) → Unique ks → Unique (insert_key eq ks k)
    insert_unique ks k u = by (list_any (eq k) ks) refl
      where
        by : (b : Bool) → list_any (eq k) ks ≡ b → Unique (if list_any (eq k) ks then ks else ks ++ k ∷ [])
        by true e = subst (λ c. Unique (if c then ks else ks ++ k ∷ [])) (sym e) u
        by false e = subst (λ c. Unique (if c then ks else ks ++ k ∷ [])) (sym e) (unique_more ks k e u)

  -- sets of tokens ------------------------------------------------------------------------

  module _ (is : Token → Bool) (key : Token → K) where
    abbrev pub with : List K → Token → List K
    with ks t = if is t then insert_key eq ks (key t) else ks

    with_keeps : (p : K → Bool) (ks : List K) (t : Token) → list_any p ks ≡ true → list_any p (with ks t) ≡ true
    with_keeps p ks t h = by (is t)
      where
        by : (b : Bool) → list_any p (if b then insert_key eq ks (key t) else ks) ≡ true
        by true = insert_keeps p ks (key t) h
        by false = h

    all_keep : (p : K → Bool) (ts : List Token) (ks : List K) → list_any p ks ≡ true → list_any p (fold with ks ts) ≡ true
    all_keep p [] ks h = h
    all_keep p (t ∷ ts) ks h = all_keep p ts (with ks t) (with_keeps p ks t h)

    with_has : (ks : List K) (t : Token) → is t ≡ true → eq (key t) (key t) ≡ true → list_any (eq (key t)) (with ks t) ≡ true
    with_has ks t i r = ap (λ b. list_any (eq (key t)) (if b then insert_key eq ks (key t) else ks)) i ∙ inserted ks (key t) r

    -- a token's key is there
    pub has_key : (ts : List Token) (ks : List K) (n : ℕ) (t : Token) → slice_get ts n ≡ Some t → is t ≡ true → eq (key t) (key t) ≡ true → list_any (eq (key t)) (fold with ks ts) ≡ true
    has_key [] ks n t e i r = absurd cc
    has_key (x ∷ ts) ks zero t e i r =
        let same : x ≡ t = cc in
        all_keep (eq (key t)) ts (with ks x) (subst (λ y. list_any (eq (key t)) (with ks y) ≡ true) (sym same) (with_has ks t i r))
    has_key (x ∷ ts) ks (suc n) t e i r = has_key ts (with ks x) n t e i r

    -- a key is a token's
    pub record IsKey (ts : List Token) (k : K) : Type 0 where
      pub number : ℕ
      pub token : Token
      pub at : slice_get ts number ≡ Some token
      pub passes : is token ≡ true
      pub key_is : key token ≡ k

    later : (x : Token) (ts : List Token) (k : K) → IsKey ts k → IsKey (x ∷ ts) k
    later x ts k h = record { number = suc h.number; token = h.token; at = h.at; passes = h.passes; key_is = h.key_is }

    insert_is : (x : Token) (ts : List Token) (ks : List K) (n : ℕ) (k : K) → is x ≡ true → slice_get (insert_key eq ks (key x)) n ≡ Some k → (slice_get ks n ≡ Some k) ⊎ IsKey (x ∷ ts) k
    insert_is x ts ks n k i e = by (list_any (eq (key x)) ks) refl
      where
        one : (slice_get ks n ≡ Some k) ⊎ ((n ≡ length ks) × (key x ≡ k)) → (slice_get ks n ≡ Some k) ⊎ IsKey (x ∷ ts) k
        one (inl h) = inl h
        one (inr h) = inr (record { number = 0; token = x; at = refl; passes = i; key_is = h.1 })

        by : (b : Bool) → list_any (eq (key x)) ks ≡ b → (slice_get ks n ≡ Some k) ⊎ IsKey (x ∷ ts) k
        by true f = inl (subst (λ c. slice_get (if c then ks else ks ++ key x ∷ []) n ≡ Some k) f e)
        by false f = one (get_end ks (key x) n k (subst (λ c. slice_get (if c then ks else ks ++ key x ∷ []) n ≡ Some k) f e))

    with_is : (x : Token) (ts : List Token) (ks : List K) (n : ℕ) (k : K) → slice_get (with ks x) n ≡ Some k → (slice_get ks n ≡ Some k) ⊎ IsKey (x ∷ ts) k
    with_is x ts ks n k e = by (is x) refl
      where
        by : (b : Bool) → is x ≡ b → (slice_get ks n ≡ Some k) ⊎ IsKey (x ∷ ts) k
        by true i = insert_is x ts ks n k i (subst (λ b. slice_get (if b then insert_key eq ks (key x) else ks) n ≡ Some k) i e)
        by false i = inl (subst (λ b. slice_get (if b then insert_key eq ks (key x) else ks) n ≡ Some k) i e)

    all_are : (ts : List Token) (ks : List K) (n : ℕ) (k : K) → slice_get (fold with ks ts) n ≡ Some k → (slice_get ks n ≡ Some k) ⊎ IsKey ts k
    all_are [] ks n k e = inl e
    all_are (x ∷ ts) ks n k e = ⊎_elim (λ h. with_is x ts ks n k h) (λ h. inr (later x ts k h)) (all_are ts (with ks x) n k e)

    pub is_key : (ts : List Token) (n : ℕ) (k : K) → slice_get (fold with [] ts) n ≡ Some k → IsKey ts k
    is_key ts n k e = by (all_are ts [] n k e)
      where
        by : (slice_get {X = K} [] n ≡ Some k) ⊎ IsKey ts k → IsKey ts k
        by (inl h) = absurd cc
        by (inr h) = h

    module _ (back : (a b : K) → eq a b ≡ true → eq b a ≡ true) where
      with_unique : (ks : List K) (t : Token) → Unique ks → Unique (with ks t)
      with_unique ks t u = by (is t)
        where
          by : (b : Bool) → Unique (if b then insert_key eq ks (key t) else ks)
          by true = insert_unique back ks (key t) u
          by false = u

      all_unique : (ts : List Token) (ks : List K) → Unique ks → Unique (fold with ks ts)
      all_unique [] ks u = u
      all_unique (t ∷ ts) ks u = all_unique ts (with ks t) (with_unique ks t u)

      pub are_unique : (ts : List Token) → Unique (fold with [] ts)
      are_unique ts = all_unique ts [] (λ i j a b x y e. absurd cc)
