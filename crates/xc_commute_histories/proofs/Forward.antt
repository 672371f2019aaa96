-- Lists of actions in the order of time.
use Rattle.std.specs.Prelude.{Option, Some, None, slice_get, swap}
use Rattle.std.proofs.Common.{◌≡◌, ◌≢◌, ℕ, suc, zero, ◌<◌, List, [], ◌∷◌, ◌++◌, refl, ap, sym, ◌∙◌, arith, inl, inr, length, reverse}
use Rattle.std.proofs.lemmas.Bool.Decides.{eqb_tells}
use Rattle.std.proofs.lemmas.List.{reverse-append}
use Rattle.std.proofs.lemmas.List.Edits.{swap_is}
use Rattle.xc_commute_histories.specs.History.{after, hist, play, Apart, Each, of_owner, of_others}
use Rattle.xc_commute_histories.proofs.Exchange.{hist-append}
use Rattle.xc_commute_histories.proofs.Owner.{Each-of, Each-weaker}

-- in the order of time and newest first
pub play_is : {A M : Type 0} (step : A → M → Option M) (xs : List A) (m : M) → play step xs m ≡ hist step (reverse xs) m
play_is step [] m = refl
play_is step (x ∷ xs) m = through step xs (λ k. play_is step xs k) (step x m) ∙ sym (hist-append step (reverse xs) (x ∷ []) m) ∙ ap (λ l. hist step l m) (sym (reverse-append (x ∷ []) xs)) where
  through : {A M : Type 0} (step : A → M → Option M) (xs : List A) → ((m : M) → play step xs m ≡ hist step (reverse xs) m) → (o : Option M) → after (λ k. play step xs k) o ≡ after (λ k. hist step (reverse xs) k) o
  through step xs e None = refl
  through step xs e (Some k) = e k

pub play-append : {A M : Type 0} (step : A → M → Option M) (xs ys : List A) (m : M) → play step (xs ++ ys) m ≡ after (λ k. play step ys k) (play step xs m)
play-append step [] ys m = refl
play-append step (x ∷ xs) ys m = through step xs ys (λ k. play-append step xs ys k) (step x m) where
  through : {A M : Type 0} (step : A → M → Option M) (xs ys : List A) → ((m : M) → play step (xs ++ ys) m ≡ after (λ k. play step ys k) (play step xs m)) → (o : Option M) → after (λ k. play step (xs ++ ys) k) o ≡ after (λ k. play step ys k) (after (λ k. play step xs k) o)
  through step xs ys e None = refl
  through step xs ys e (Some k) = e k

-- equal from each memory, so equal from what may be none
pub at_each : {M : Type 0} (f g : M → Option M) → ((m : M) → f m ≡ g m) → (o : Option M) → after f o ≡ after g o
at_each f g e None = refl
at_each f g e (Some k) = e k

over_two : {M : Type 0} (f g : M → Option M) (o : Option M) → after (λ k. after g (f k)) o ≡ after g (after f o)
over_two f g None = refl
over_two f g (Some k) = refl

pub play_two : {A M : Type 0} (step : A → M → Option M) (a b : A) (xs : List A) → Apart step a b → (m : M) → play step (b ∷ a ∷ xs) m ≡ play step (a ∷ b ∷ xs) m
play_two step a b xs e m =
    over_two (step a) (λ k. play step xs k) (step b m)
    ∙ ap (after (λ k. play step xs k)) (e m)
    ∙ sym (over_two (step b) (λ k. play step xs k) (step a m))

pub play_past : {A M : Type 0} (step : A → M → Option M) (x : A) (ys zs : List A) → Each (λ y. Apart step x y) ys → (m : M) → play step (x ∷ (ys ++ zs)) m ≡ play step (ys ++ (x ∷ zs)) m
play_past step x [] zs e m = refl
play_past step x (y ∷ ys) zs e m =
    sym (play_two step x y (ys ++ zs) e.0 m) ∙ at_each (λ k. play step (x ∷ (ys ++ zs)) k) (λ k. play step (ys ++ (x ∷ zs)) k) (λ k. play_past step x ys zs e.1 k) (step y m)

-- each action of owner i is apart from every action of another that stands before it
abbrev pub GoesFirst : {A M : Type 0} → (A → M → Option M) → (A → ℕ) → ℕ → List A → Type 0
GoesFirst step who i [] = Unit {0}
GoesFirst step who i (x ∷ xs) = (who x ≢ i → Each (λ y. who y ≡ i → Apart step x y) xs) × GoesFirst step who i xs

pub play_gathered : {A M : Type 0} (step : A → M → Option M) (who : A → ℕ) (i : ℕ) (xs : List A) → GoesFirst step who i xs → (m : M) → play step (of_owner who i xs ++ of_others who i xs) m ≡ play step xs m
play_gathered step who i [] g m = refl
play_gathered step who i (x ∷ xs) g m =
    let again : after (λ k. play step (of_owner who i xs ++ of_others who i xs) k) (step x m) ≡ after (λ k. play step xs k) (step x m) = at_each (λ k. play step (of_owner who i xs ++ of_others who i xs) k) (λ k. play step xs k) (λ k. play_gathered step who i xs g.1 k) (step x m) in
    elim (eqb_tells (who x) i) as (λ _. play step (of_owner who i (x ∷ xs) ++ of_others who i (x ∷ xs)) m ≡ play step (x ∷ xs) m) [
      | inl h ↦ rw h.0 again
      | inr h ↦ rw h.0 (sym (play_past step x (of_owner who i xs) (of_others who i xs) (Each-weaker (λ y. (who y ≡ i → Apart step x y) × (who y ≡ i)) (λ y. Apart step x y) (λ y o. o.0 o.1) (of_owner who i xs) (Each-of who i (λ y. who y ≡ i → Apart step x y) xs (g.0 h.1))) m) ∙ again)
    ]

-- an element and the next in each other's place, by recursion
abbrev pub swap_next : {X : Type 0} → List X → ℕ → List X
swap_next [] k = []
swap_next (x ∷ []) k = x ∷ []
swap_next (x ∷ (y ∷ xs)) zero = y ∷ x ∷ xs
swap_next (x ∷ (y ∷ xs)) (suc k) = x ∷ swap_next (y ∷ xs) k

pub swap_is_next : {X : Type 0} (xs : List X) (k : ℕ) → suc k < length xs → swap xs k (suc k) ≡ swap_next xs k
swap_is_next [] k l = refl
swap_is_next (x ∷ []) k l = absurd (omega arith)
swap_is_next (x ∷ (y ∷ xs)) zero l = refl
swap_is_next (x ∷ (y ∷ xs)) (suc k) l =
    let l' : suc k < length (y ∷ xs) = omega arith in
    ap (λ z. x ∷ z) (swap_is (y ∷ xs) k (suc k) x (omega arith) l' ∙ swap_is_next (y ∷ xs) k l')

pub play_swapped : {A M : Type 0} (step : A → M → Option M) (xs : List A) (k : ℕ) → ((a b : A) → slice_get xs k ≡ Some a → slice_get xs (suc k) ≡ Some b → Apart step a b) → (m : M) → play step (swap_next xs k) m ≡ play step xs m
play_swapped step [] k e m = refl
play_swapped step (x ∷ []) k e m = refl
play_swapped step (x ∷ (y ∷ xs)) zero e m = play_two step x y xs (e x y refl refl) m
play_swapped step (x ∷ (y ∷ xs)) (suc k) e m = at_each (λ j. play step (swap_next (y ∷ xs) k) j) (λ j. play step (y ∷ xs) j) (λ j. play_swapped step (y ∷ xs) k e j) (step x m)
