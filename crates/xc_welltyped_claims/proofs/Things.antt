-- What scopes name, as they are entered, left and added to.
use Rattle.std.proofs.Common.{◌≡◌, ℕ, zero, suc, ◌+◌, ◌-◌, List, [], ◌∷◌, ◌++◌, length, take, Bool, true, false, refl, sym, ap, ◌∙◌, subst, arith}
use Rattle.std.specs.Prelude.{nat_eq, Option, Some, None, if◌then◌else◌}
use Rattle.indexmap.specs.IndexMap.{insert_entry}
use Rattle.xc_type_names.specs.Scoped.{in_one, or_else, found_from, found_in, entered, left, declared_in}
use Rattle.xc_welltyped_claims.specs.Lists.{Each}
use Rattle.xc_welltyped_claims.specs.Things.{InScopes}
use Rattle.xc_welltyped_claims.proofs.Lists.{each_both}

module _ {T : Type 0} where
  module _ (P : T → Type 0) where
    abbrev One : List (ℕ × T) → Type 0
    One es = Each (λ e. P e.1) es

    -- found
    one_at : (b : Bool) (e : ℕ × T) (o : Option T) (x : T) → (if b then Some e.1 else o) ≡ Some x → P e.1 → (o ≡ Some x → P x) → P x
    one_at true e o x is p f = let same : e.1 ≡ x = cc in subst P same p
    one_at false e o x is p f = f is

    in_scope : (name : ℕ) (es : List (ℕ × T)) (x : T) → in_one name es ≡ Some x → One es → P x
    in_scope name [] x is p = absurd cc
    in_scope name (e ∷ es) x is p = one_at (nat_eq name e.0) e (in_one name es) x is p.0 (λ h. in_scope name es x h p.1)

    either : (a b : Option T) (x : T) → or_else a b ≡ Some x → (a ≡ Some x → P x) → (b ≡ Some x → P x) → P x
    either None b x is f g = g is
    either (Some y) b x is f g = f is

    from_was : (was : Option T) (name : ℕ) (ss : List (List (ℕ × T))) (x : T) → found_from was name ss ≡ Some x → ((y : T) → was ≡ Some y → P y) → InScopes P ss → P x
    from_was was name [] x is f p = f x is
    from_was was name (s ∷ ss) x is f p = from_was (or_else (in_one name s) was) name ss x is (λ y e. either (in_one name s) was y e (λ h. in_scope name s y h p.0) (λ h. f y h)) p.1

    pub in_found : (name : ℕ) (ss : List (List (ℕ × T))) (x : T) → found_in name ss ≡ Some x → InScopes P ss → P x
    in_found name ss x is p = from_was None name ss x is (λ y e. absurd (let no : None ≡ Some y = e in cc)) p

    -- declared
    inserted_at : (b : Bool) (e : ℕ × T) (x : T) (es more : List (ℕ × T)) → P e.1 → P x → One es → One more → One (if b then (e.0, x) ∷ es else e ∷ more)
    inserted_at true e x es more p q h k = (q, h)
    inserted_at false e x es more p q h k = (p, k)

    inserted : (name : ℕ) (x : T) (es : List (ℕ × T)) → One es → P x → One (insert_entry nat_eq es name x)
    inserted name x [] h p = (p, tt)
    inserted name x (e ∷ es) h p = inserted_at (nat_eq name e.0) e x es (insert_entry nat_eq es name x) h.0 p h.1 (inserted name x es h.1 p)

    pub in_declared : (name : ℕ) (x : T) (ss : List (List (ℕ × T))) → InScopes P ss → P x → InScopes P (declared_in name x ss)
    in_declared name x [] h p = tt
    in_declared name x (s ∷ []) h p = (inserted name x s h.0 p, tt)
    in_declared name x (s ∷ t ∷ ss) h p = (h.0, in_declared name x (t ∷ ss) h.1 p)

    -- entered and left
    pub in_entered : (ss : List (List (ℕ × T))) → InScopes P ss → InScopes P (entered ss)
    in_entered ss h = each_both One ss ([] ∷ []) h (tt, tt)

    in_taken : (n : ℕ) (ss : List (List (ℕ × T))) → InScopes P ss → InScopes P (take n ss)
    in_taken zero ss h = tt
    in_taken (suc n) [] h = tt
    in_taken (suc n) (s ∷ ss) h = (h.0, in_taken n ss h.1)

    pub in_left : (ss : List (List (ℕ × T))) → InScopes P ss → InScopes P (left ss)
    in_left ss h = in_taken (length ss - 1) ss h

  -- the other scopes stay
  pub length_declared : (name : ℕ) (x : T) (ss : List (List (ℕ × T))) → length (declared_in name x ss) ≡ length ss
  length_declared name x [] = refl
  length_declared name x (s ∷ []) = refl
  length_declared name x (s ∷ t ∷ ss) = ap suc (length_declared name x (t ∷ ss))

  taken_declared : (name : ℕ) (x : T) (s : List (ℕ × T)) (ss : List (List (ℕ × T))) → take (length ss) (declared_in name x (s ∷ ss)) ≡ take (length ss) (s ∷ ss)
  taken_declared name x s [] = refl
  taken_declared name x s (t ∷ ss) = ap (λ l. s ∷ l) (taken_declared name x t ss)

  pub left_declared : (name : ℕ) (x : T) (ss : List (List (ℕ × T))) → left (declared_in name x ss) ≡ left ss
  left_declared name x [] = refl
  left_declared name x (s ∷ ss) =
      let few : length (declared_in name x (s ∷ ss)) - 1 ≡ length ss = ap (λ n. n - 1) (length_declared name x (s ∷ ss)) ∙ (let one : suc (length ss) - 1 ≡ length ss = omega arith in one) in
      let same : length (s ∷ ss) - 1 ≡ length ss = omega arith in
      ap (λ n. take n (declared_in name x (s ∷ ss))) few ∙ taken_declared name x s ss ∙ ap (λ n. take n (s ∷ ss)) (sym same)

  -- a scope that was entered is left
  taken_all : (ss : List (List (ℕ × T))) (t : List (ℕ × T)) → take (length ss) (ss ++ t ∷ []) ≡ ss
  taken_all [] t = refl
  taken_all (s ∷ ss) t = ap (λ l. s ∷ l) (taken_all ss t)

  length_entered : (ss : List (List (ℕ × T))) → length (entered ss) ≡ length ss + 1
  length_entered [] = omega arith
  length_entered (s ∷ ss) = let more = length_entered ss in omega (arith, more)

  pub left_entered : (ss : List (List (ℕ × T))) → left (entered ss) ≡ ss
  left_entered ss =
      let few : length (entered ss) - 1 ≡ length ss = (let more = length_entered ss in omega (arith, more)) in
      ap (λ n. take n (entered ss)) few ∙ taken_all ss []
