-- Steps that change one place each, and steps that change nothing.
use Rattle.std.specs.Prelude.{Option, Some, None}
use Rattle.std.specs.Option.{option_map}
use Rattle.std.proofs.Common.{◌≡◌, ◌≢◌, sym, ◌∙◌, ◌⊎◌, inl, inr, refl, ap}
use Rattle.xc_commute_histories.specs.History.{after, Apart, Both, Is}

-- a step that looks at one place of a store, where it finds a V, and puts a W there, or is not possible
abbrev pub at_place : {M K V W : Type 0} → (M → K → V) → (M → K → W → M) → K → (V → Option W) → M → Option M
at_place get put k f m = option_map (put m k) (f (get m k))

module _ {M K V W : Type 0} (get : M → K → V) (put : M → K → W → M)
    (other : (m : M) (k : K) (w : W) (l : K) → k ≢ l → get (put m k w) l ≡ get m l)
    (turned : (m : M) (k l : K) (w x : W) → k ≢ l → put (put m k w) l x ≡ put (put m l x) k w) where
  module _ (k l : K) (f g : V → Option W) (ne : k ≢ l) where
    back : l ≢ k
    back e = ne (sym e)

    by_values : (m : M) (x y : Option W) → f (get m k) ≡ x → g (get m l) ≡ y → after (at_place get put l g) (option_map (put m k) x) ≡ after (at_place get put k f) (option_map (put m l) y)
    by_values m None None e h = refl
    by_values m None (Some y) e h = rw (other m l y k back) (rw e refl)
    by_values m (Some x) None e h = rw (other m k x l ne) (rw h refl)
    by_values m (Some x) (Some y) e h = rw (other m k x l ne) (rw (other m l y k back) (rw e (rw h (ap Some (turned m k l x y ne)))))

    -- different places commute
    pub different : (m : M) → after (at_place get put l g) (at_place get put k f m) ≡ after (at_place get put k f) (at_place get put l g m)
    different m = by_values m (f (get m k)) (g (get m l)) refl refl

    both_values : (m : M) (x y : Option W) → f (get m k) ≡ x → g (get m l) ≡ y → Is (option_map (put m k) x) → Is (option_map (put m l) y) → Is (after (at_place get put l g) (option_map (put m k) x))
    both_values m None y e h a b = absurd (let z : None ≡ Some a.0 = a.1 in cc)
    both_values m (Some x) None e h a b = absurd (let z : None ≡ Some b.0 = b.1 in cc)
    both_values m (Some x) (Some y) e h a b = rw (other m k x l ne) (rw h (put (put m k x) l y, refl))

    -- where each can be, the one can be after the other
    pub different_both : (m : M) → Is (at_place get put k f m) → Is (at_place get put l g m) → Is (after (at_place get put l g) (at_place get put k f m))
    different_both m = both_values m (f (get m k)) (g (get m l)) refl refl

-- what can be leaves the memory as it is
abbrev pub KeepsAll : {A M : Type 0} → (A → M → Option M) → A → Type 0
KeepsAll {A} {M} step x = (m : M) → (step x m ≡ None) ⊎ (step x m ≡ Some m)

-- two such steps commute
module _ {A M : Type 0} (step : A → M → Option M) (x y : A) (kx : KeepsAll step x) (ky : KeepsAll step y) where
  pick : (k : M) → (step x k ≡ None) ⊎ (step x k ≡ Some k) → (step y k ≡ None) ⊎ (step y k ≡ Some k) → after (step x) (step y k) ≡ after (step y) (step x k)
  pick k (inl a) (inl b) = rw a (rw b refl)
  pick k (inl a) (inr b) = rw a (rw b a)
  pick k (inr a) (inl b) = rw b (rw a (sym b))
  pick k (inr a) (inr b) = rw a (rw b a)

  pick_both : (k : M) → (step y k ≡ None) ⊎ (step y k ≡ Some k) → Is (step x k) → Is (step y k) → Is (after (step x) (step y k))
  pick_both k (inl b) dx dy = absurd (let z : None ≡ Some dy.0 = sym b ∙ dy.1 in cc)
  pick_both k (inr b) dx dy = rw b dx

  pub reads_commute : Apart step x y × Both step x y
  reads_commute = (λ k. pick k (kx k) (ky k), λ k dx dy. pick_both k (ky k) dx dy)
