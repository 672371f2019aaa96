-- Names that have numbers.
use Rattle.std.proofs.Common.{◌≡◌, ℕ, List, [], ◌∷◌, Bool, true, false, cond, Option, Some, IsSome, refl, sym, subst, rules}
use Rattle.std.specs.Map.{lookup}
use Rattle.std.specs.Str.{bytes_eq}
use Rattle.std.proofs.lemmas.Slice.Eq.{bytes_eq-Decides}

-- what is found has a key
pub record Stored {K : Type 0} (items : K → List ℕ) (q : List ℕ) : Type 0 where
  pub key : K
  pub same : items key ≡ q

stored : {K X : Type 0} (items : K → List ℕ) (q : List ℕ) (es : List (K × X)) → IsSome (lookup (λ x. bytes_eq q (items x)) es) → Stored items q
stored items q [] h = absurd (cc)
stored items q (e ∷ es) h =
    elim (bytes_eq q (items e.0)) as (λ v. bytes_eq q (items e.0) ≡ v → IsSome (cond v (Some e.1) (lookup (λ x. bytes_eq q (items x)) es)) → Stored items q)
    [ true ↦ λ f h. record { key = e.0; same = sym ((bytes_eq-Decides q (items e.0)).0 f) } | false ↦ λ f h. stored items q es h ] refl h

-- a name keeps a number when another, or itself, is given one
pub others : {K X : Type 0} (items : K → List ℕ) (old new : List (K × X)) (key : K) (v : X) → ((k : K) → lookup (λ x. bytes_eq (items k) (items x)) new ≡ cond (bytes_eq (items key) (items k)) (Some v) (lookup (λ x. bytes_eq (items k) (items x)) old))
    → (q : List ℕ) → IsSome (lookup (λ x. bytes_eq q (items x)) old) → IsSome (lookup (λ x. bytes_eq q (items x)) new)
others {K = K} {X = X} items old new key v updates q h =
    let s = stored items q old h in
    let before : IsSome (lookup (λ x. bytes_eq (items s.key) (items x)) old) = subst (λ (r : List ℕ). IsSome (lookup (λ x. bytes_eq r (items x)) old)) (sym s.same) h in
    let some : (b : Bool) → IsSome (cond b (Some v) (lookup (λ x. bytes_eq (items s.key) (items x)) old)) =
    λ b. elim b as (λ w. IsSome (cond w (Some v) (lookup (λ x. bytes_eq (items s.key) (items x)) old))) [ true ↦ search rules | false ↦ before ] in
    let after : IsSome (lookup (λ x. bytes_eq (items s.key) (items x)) new) = subst (λ (o : Option X). IsSome o) (sym (updates s.key)) (some (bytes_eq (items key) (items s.key))) in
    subst (λ (r : List ℕ). IsSome (lookup (λ x. bytes_eq r (items x)) new)) s.same after
