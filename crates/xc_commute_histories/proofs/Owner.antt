-- The actions of one owner are gathered.
use Rattle.std.specs.Prelude.{Option, Some, None}
use Rattle.std.proofs.Common.{◌≡◌, ◌≢◌, ℕ, List, [], ◌∷◌, ◌++◌, refl, ap, sym, ◌∙◌, inl, inr}
use Rattle.std.proofs.lemmas.Bool.Decides.{eqb_tells}
use Rattle.xc_commute_histories.specs.History.{after, hist, Apart, Each, of_owner, of_others, Is}
use Rattle.xc_commute_histories.proofs.Exchange.{hist-append, exchange, past, Apart-sym}

pub Each-append : {A : Type 0} (P : A → Type 0) (xs ys : List A) → Each P xs → Each P ys → Each P (xs ++ ys)
Each-append P [] ys p q = q
Each-append P (x ∷ xs) ys p q = (p.0, Each-append P xs ys p.1 q)

pub Each-weaker : {A : Type 0} (P Q : A → Type 0) → ((x : A) → P x → Q x) → (xs : List A) → Each P xs → Each Q xs
Each-weaker P Q f [] p = tt
Each-weaker P Q f (x ∷ xs) p = (f x p.0, Each-weaker P Q f xs p.1)

pub Each-of : {A : Type 0} (who : A → ℕ) (i : ℕ) (P : A → Type 0) (xs : List A) → Each P xs → Each (λ x. P x × (who x ≡ i)) (of_owner who i xs)
Each-of who i P [] p = tt
Each-of who i P (x ∷ xs) p =
    elim (eqb_tells (who x) i) as (λ _. Each (λ x. P x × (who x ≡ i)) (of_owner who i (x ∷ xs))) [
      | inl h ↦ rw h.0 ((p.0, h.1), Each-of who i P xs p.1)
      | inr h ↦ rw h.0 (Each-of who i P xs p.1)
    ]

pub Each-others : {A : Type 0} (who : A → ℕ) (i : ℕ) (P : A → Type 0) (xs : List A) → Each P xs → Each (λ x. P x × (who x ≢ i)) (of_others who i xs)
Each-others who i P [] p = tt
Each-others who i P (x ∷ xs) p =
    elim (eqb_tells (who x) i) as (λ _. Each (λ x. P x × (who x ≢ i)) (of_others who i (x ∷ xs))) [
      | inl h ↦ rw h.0 (Each-others who i P xs p.1)
      | inr h ↦ rw h.0 ((p.0, h.1), Each-others who i P xs p.1)
    ]

-- an action goes first among those of the others
lifted : {A M : Type 0} (step : A → M → Option M) (x : A) (others : List A) → Each (λ y. Apart step x y) others → (o : Option M) → after (λ k. hist step (x ∷ others) k) o ≡ after (λ k. hist step others k) (after (step x) o)
lifted step x others e None = refl
lifted step x others e (Some k) = past step x others e k ∙ hist-append step others (x ∷ []) k

-- The actions of owner i, each of which is apart from those of the others, can go first: they stand last in the list.
module _ {A M : Type 0} (step : A → M → Option M) (who : A → ℕ) (P : A → Type 0) (i : ℕ)
    (ok : (a b : A) → P a → P b → who a ≡ i → who b ≢ i → Apart step a b) where
  pub gather_first : (xs : List A) → Each P xs → (m : M) → hist step xs m ≡ hist step (of_others who i xs ++ of_owner who i xs) m
  gather_first [] p m = refl
  gather_first (x ∷ xs) p m =
      let again : hist step (x ∷ xs) m ≡ hist step (x ∷ (of_others who i xs ++ of_owner who i xs)) m = ap (after (step x)) (gather_first xs p.1 m) in
      elim (eqb_tells (who x) i) as (λ _. hist step (x ∷ xs) m ≡ hist step (of_others who i (x ∷ xs) ++ of_owner who i (x ∷ xs)) m) [
        | inl h ↦ rw h.0 (again ∙ (hist-append step (x ∷ of_others who i xs) (of_owner who i xs) m ∙ lifted step x (of_others who i xs) (Each-weaker (λ y. P y × (who y ≢ i)) (λ y. Apart step x y) (λ y q. ok x y p.0 q.0 h.1 q.1) (of_others who i xs) (Each-others who i P xs p.1)) (hist step (of_owner who i xs) m) ∙ sym (hist-append step (of_others who i xs) (x ∷ of_owner who i xs) m)))
        | inr h ↦ rw h.0 again
      ]

pub Each-product : {A : Type 0} (Q R : A → Type 0) (S : A → A → Type 0) → ((y x : A) → Q y → R x → S y x) → (ys xs : List A) → Each Q ys → Each R xs → Each (λ y. Each (λ x. S y x) xs) ys
Each-product Q R S f [] xs q r = tt
Each-product Q R S f (y ∷ ys) xs q r = (Each-weaker R (λ x. S y x) (λ x s. f y x q.0 s) xs r, Each-product Q R S f ys xs q.1 r)

-- where the later part can be, so can the earlier
pub Is-before : {A M : Type 0} (step : A → M → Option M) (ys : List A) (o : Option M) → Is (after (λ k. hist step ys k) o) → Is o
Is-before step ys None d = absurd (none_some d.0 d.1) where
  none_some : {M : Type 0} (k : M) → None ≡ Some k → ⊥
  none_some k e = cc
Is-before step ys (Some k) d = (k, refl)

pub Is-along : {M : Type 0} (o p : Option M) → o ≡ p → Is o → Is p
Is-along o p e d = (d.0, sym e ∙ d.1)

-- the owner's actions alone, and the owner's actions last
module _ {A M : Type 0} (step : A → M → Option M) (who : A → ℕ) (P : A → Type 0) (i : ℕ)
    (ok : (a b : A) → P a → P b → who a ≡ i → who b ≢ i → Apart step a b) where
  pub Is-owner : (xs : List A) → Each P xs → (m : M) → Is (hist step xs m) → Is (hist step (of_owner who i xs) m)
  Is-owner xs p m d = Is-before step (of_others who i xs) (hist step (of_owner who i xs) m) (Is-along (hist step xs m) _ (gather_first step who P i ok xs p m ∙ hist-append step (of_others who i xs) (of_owner who i xs) m) d)

  pub gather_last : (xs : List A) → Each P xs → (m : M) → hist step xs m ≡ hist step (of_owner who i xs ++ of_others who i xs) m
  gather_last xs p m = gather_first step who P i ok xs p m ∙ exchange step (of_others who i xs) (of_owner who i xs) (Each-product (λ y. P y × (who y ≢ i)) (λ x. P x × (who x ≡ i)) (λ y x. Apart step y x) (λ y x q r. Apart-sym step x y (ok x y r.0 q.0 r.1 q.1)) (of_others who i xs) (of_owner who i xs) (Each-others who i P xs p) (Each-of who i P xs p)) m
