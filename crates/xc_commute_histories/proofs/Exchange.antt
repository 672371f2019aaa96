-- Two histories that can be exchanged.
use Rattle.std.specs.Prelude.{Option, Some, None}
use Rattle.std.proofs.Common.{◌≡◌, List, [], ◌∷◌, ◌++◌, refl, ap, sym, ◌∙◌, append_assoc, append-nil}
use Rattle.xc_commute_histories.specs.History.{after, hist, Apart, Both, Each, Is}

pub hist-append : {A M : Type 0} (step : A → M → Option M) (ys xs : List A) (m : M) → hist step (ys ++ xs) m ≡ after (λ k. hist step ys k) (hist step xs m)
hist-append step [] xs m = after_some (hist step xs m) where
  after_some : {M : Type 0} (o : Option M) → o ≡ after (λ k. Some k) o
  after_some None = refl
  after_some (Some k) = refl
hist-append step (y ∷ ys) xs m = ap (after (step y)) (hist-append step ys xs m) ∙ through step ys y (hist step xs m) where
  through : {A M : Type 0} (step : A → M → Option M) (ys : List A) (y : A) (o : Option M) → after (step y) (after (λ k. hist step ys k) o) ≡ after (λ k. hist step (y ∷ ys) k) o
  through step ys y None = refl
  through step ys y (Some k) = refl

pub apart_after : {A M : Type 0} (step : A → M → Option M) (a b : A) → Apart step a b → (o : Option M) → after (step a) (after (step b) o) ≡ after (step b) (after (step a) o)
apart_after step a b e None = refl
apart_after step a b e (Some m) = e m

pub Apart-sym : {A M : Type 0} (step : A → M → Option M) (a b : A) → Apart step a b → Apart step b a
Apart-sym step a b e = λ m. sym (e m)

-- an action goes to the front of a history that it is apart from
pub past : {A M : Type 0} (step : A → M → Option M) (a : A) (xs : List A) → Each (λ x. Apart step a x) xs → (m : M) → hist step (a ∷ xs) m ≡ hist step (xs ++ a ∷ []) m
past step a [] e m = refl
past step a (x ∷ xs) e m = apart_after step a x e.0 (hist step xs m) ∙ ap (after (step x)) (past step a xs e.1 m)

pub exchange : {A M : Type 0} (step : A → M → Option M) (ys xs : List A) → Each (λ y. Each (λ x. Apart step y x) xs) ys → (m : M) → hist step (ys ++ xs) m ≡ hist step (xs ++ ys) m
exchange step [] xs e m = ap (λ l. hist step l m) (sym (append-nil xs))
exchange step (y ∷ ys) xs e m =
    ap (after (step y)) (exchange step ys xs e.1 m)
    ∙ ap (after (step y)) (hist-append step xs ys m)
    ∙ shift_one step y xs e.0 (hist step ys m)
    ∙ sym (hist-append step (xs ++ y ∷ []) ys m)
    ∙ ap (λ l. hist step l m) (append_assoc xs (y ∷ []) ys) where
      shift_one : {A M : Type 0} (step : A → M → Option M) (y : A) (xs : List A) → Each (λ x. Apart step y x) xs → (o : Option M) → after (step y) (after (λ k. hist step xs k) o) ≡ after (λ k. hist step (xs ++ y ∷ []) k) o
      shift_one step y xs e None = refl
      shift_one step y xs e (Some k) = past step y xs e k

-- what can be alone can be after what is apart from it
module _ {A M : Type 0} (step : A → M → Option M) where
  pub first_of_two : (x : A) (o : Option M) → Is (after (step x) o) → Is o
  first_of_two x None d = absurd (let e : None ≡ Some d.0 = d.1 in cc)
  first_of_two x (Some k) d = (k, refl)

  at_some : (a x : A) → Both step a x → (o : Option M) → Is (after (step x) o) → Is (after (step a) o) → Is (after (step a) (after (step x) o))
  at_some a x b None p q = p
  at_some a x b (Some k) p q = b k q p

  pub one_after : (a : A) (xs : List A) → Each (λ x. Apart step a x × Both step a x) xs → (m : M) → Is (step a m) → Is (hist step xs m) → Is (hist step (a ∷ xs) m)
  one_after a [] e m d h = d
  one_after a (x ∷ xs) e m d h =
      let hx : Is (hist step xs m) = first_of_two x (hist step xs m) h in
      let ha : Is (after (step a) (hist step xs m)) = one_after a xs e.1 m d hx in
      at_some a x e.0.1 (hist step xs m) h ha

  weaken : (y : A) (xs : List A) → Each (λ x. Apart step y x × Both step y x) xs → Each (λ x. Apart step y x) xs
  weaken y [] e = tt
  weaken y (x ∷ xs) e = (e.0.0, weaken y xs e.1)

  pub commuting : (ys xs : List A) → Each (λ y. Each (λ x. Apart step y x × Both step y x) xs) ys → Each (λ y. Each (λ x. Apart step y x) xs) ys
  commuting [] xs e = tt
  commuting (y ∷ ys) xs e = (weaken y xs e.0, commuting ys xs e.1)

  last_one : (y : A) (ys xs : List A) → Each (λ x. Apart step y x × Both step y x) xs → (m : M) → (o : Option M) → Is (after (step y) o) → hist step ys m ≡ o → Is (hist step (ys ++ xs) m) → hist step (ys ++ xs) m ≡ hist step (xs ++ ys) m → Is (after (step y) (hist step (ys ++ xs) m))
  last_one y ys xs e m None d is both eq = absurd (let e : None ≡ Some d.0 = d.1 in cc)
  last_one y ys xs e m (Some k) d is both eq =
      let whole : hist step (ys ++ xs) m ≡ hist step xs k = eq ∙ hist-append step xs ys m ∙ ap (after (λ l. hist step xs l)) is in
      rw whole (one_after y xs e k d (whole_is whole both)) where
        whole_is : {M : Type 0} → {o p : Option M} → o ≡ p → Is o → Is p
        whole_is e d = (d.0, sym e ∙ d.1)

  pub all_after : (ys xs : List A) → Each (λ y. Each (λ x. Apart step y x × Both step y x) xs) ys → (m : M) → Is (hist step ys m) → Is (hist step xs m) → Is (hist step (ys ++ xs) m)
  all_after [] xs e m dy dx = dx
  all_after (y ∷ ys) xs e m dy dx =
      let dys : Is (hist step ys m) = first_of_two y (hist step ys m) dy in
      let both : Is (hist step (ys ++ xs) m) = all_after ys xs e.1 m dys dx in
      let eq : hist step (ys ++ xs) m ≡ hist step (xs ++ ys) m = exchange step ys xs (commuting ys xs e.1) m in
      last_one y ys xs e.0 m (hist step ys m) dy refl both eq
