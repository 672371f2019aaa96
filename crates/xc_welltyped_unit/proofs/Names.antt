-- One scope, with one more name.
use Rattle.std.proofs.Common.{◌≡◌, ℕ, List, [], ◌∷◌, length, Bool, true, false, refl, sym, ap, ◌∙◌, subst, arith, ◌⊎◌, inl, inr}
use Rattle.std.specs.Prelude.{nat_eq, cond, Option, Some, None, if◌then◌else◌}
use Rattle.std.proofs.lemmas.Bool.{eqb-true, eq-eqb}
use Rattle.indexmap.specs.IndexMap.{insert_entry}
use Rattle.xc_type_names.specs.Scoped.{in_one, or_else, found_in, declared_in}

module _ {T : Type 0} where
  -- in one scope
  in_same : (name : ℕ) (x : T) (es : List (ℕ × T)) → in_one name (insert_entry nat_eq es name x) ≡ Some x
  in_same name x [] = ap (λ b. cond b (Some x) None) (eq-eqb name name refl)
  in_same name x (e ∷ es) = by (in_same name x es) (nat_eq name e.0) refl
    where
      by : in_one name (insert_entry nat_eq es name x) ≡ Some x → (b : Bool) → nat_eq name e.0 ≡ b → in_one name (if b then (e.0, x) ∷ es else e ∷ insert_entry nat_eq es name x) ≡ Some x
      by more true p = ap (λ b. cond b (Some x) (in_one name es)) p
      by more false p = ap (λ b. cond b (Some e.1) (in_one name (insert_entry nat_eq es name x))) p ∙ more

  in_other : (name : ℕ) (x : T) (y : ℕ) → nat_eq y name ≡ false → (es : List (ℕ × T)) → in_one y (insert_entry nat_eq es name x) ≡ in_one y es
  in_other name x y apart [] = ap (λ b. cond b (Some x) None) apart
  in_other name x y apart (e ∷ es) = by (in_other name x y apart es) (nat_eq name e.0) refl
    where
      by : in_one y (insert_entry nat_eq es name x) ≡ in_one y es → (b : Bool) → nat_eq name e.0 ≡ b → in_one y (if b then (e.0, x) ∷ es else e ∷ insert_entry nat_eq es name x) ≡ in_one y (e ∷ es)
      by more true p =
          let same : name ≡ e.0 = eqb-true name e.0 p in
          let not_here : nat_eq y e.0 ≡ false = subst (λ n. nat_eq y n ≡ false) same apart in
          ap (λ b. cond b (Some x) (in_one y es)) not_here ∙ sym (ap (λ b. cond b (Some e.1) (in_one y es)) not_here)
      by more false p = ap (λ o. cond (nat_eq y e.0) (Some e.1) o) more

  or_none : (o : Option T) → or_else o None ≡ o
  or_none None = refl
  or_none (Some x) = refl

  pub found_one : (name : ℕ) (es : List (ℕ × T)) → found_in name (es ∷ []) ≡ in_one name es
  found_one name es = or_none (in_one name es)

  -- where there is one scope
  pub found_same : (name : ℕ) (x : T) (ss : List (List (ℕ × T))) → length ss ≡ 1 → found_in name (declared_in name x ss) ≡ Some x
  found_same name x [] e = absurd (omega (arith, e))
  found_same name x (s ∷ []) e = found_one name (insert_entry nat_eq s name x) ∙ in_same name x s
  found_same name x (s ∷ t ∷ ss) e = absurd (omega (arith, e))

  pub found_other : (name : ℕ) (x : T) (y : ℕ) → nat_eq y name ≡ false → (ss : List (List (ℕ × T))) → length ss ≡ 1 → found_in y (declared_in name x ss) ≡ found_in y ss
  found_other name x y apart [] e = absurd (omega (arith, e))
  found_other name x y apart (s ∷ []) e = found_one y (insert_entry nat_eq s name x) ∙ in_other name x y apart s ∙ sym (found_one y s)
  found_other name x y apart (s ∷ t ∷ ss) e = absurd (omega (arith, e))

  -- what is found is the new one, or was found before
  pub found_either : (name : ℕ) (x : T) (y : ℕ) (z : T) (ss : List (List (ℕ × T))) → length ss ≡ 1 → found_in y (declared_in name x ss) ≡ Some z → ((y ≡ name) × (x ≡ z)) ⊎ ((nat_eq y name ≡ false) × (found_in y ss ≡ Some z))
  found_either name x y z ss e h = by (nat_eq y name) refl
    where
      by : (b : Bool) → nat_eq y name ≡ b → ((y ≡ name) × (x ≡ z)) ⊎ ((nat_eq y name ≡ false) × (found_in y ss ≡ Some z))
      by true p =
          let same : y ≡ name = eqb-true y name p in
          let here : Some x ≡ Some z = sym (found_same name x ss e) ∙ subst (λ n. found_in n (declared_in name x ss) ≡ Some z) same h in
          inl (same, (let q : x ≡ z = cc in q))
      by false p = inr (p, sym (found_other name x y p ss e) ∙ h)
