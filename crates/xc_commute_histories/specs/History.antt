-- Histories: lists of actions, the newest first, and when two actions can be exchanged.
use Rattle.std.specs.Prelude.{◌≡◌, ℕ, Option, Some, None, List, [], ◌∷◌, ◌++◌, not, nat_eq, filter}

-- what a step does after one that may have failed
abbrev pub after : {M : Type 0} → (M → Option M) → Option M → Option M
after f None = None
after f (Some m) = f m

-- the memory after a history, its newest action first; none where an action cannot be
abbrev pub hist : {A M : Type 0} → (A → M → Option M) → List A → M → Option M
hist step [] m = Some m
hist step (a ∷ h) m = after (step a) (hist step h m)

-- the order of the two does not matter, in any memory
abbrev pub Apart : {A M : Type 0} → (A → M → Option M) → A → A → Type 0
Apart {A} {M} step a b = (m : M) → after (step a) (step b m) ≡ after (step b) (step a m)

-- it holds of each element
abbrev pub Each : {A : Type 0} → (A → Type 0) → List A → Type 0
Each P [] = Unit {0}
Each P (x ∷ xs) = P x × Each P xs

-- the actions of an owner, in their order
abbrev pub of_owner : {A : Type 0} → (A → ℕ) → ℕ → List A → List A
of_owner who i xs = filter (λ x. nat_eq (who x) i) xs

-- the actions of the others, in their order
abbrev pub of_others : {A : Type 0} → (A → ℕ) → ℕ → List A → List A
of_others who i xs = filter (λ x. not (nat_eq (who x) i)) xs

-- the actions of an owner, and then those of the others
abbrev pub gathered : {A : Type 0} → (A → ℕ) → ℕ → List A → List A
gathered who i xs = of_owner who i xs ++ of_others who i xs

-- there is a memory: the action or the history is possible
abbrev pub Is : {M : Type 0} → Option M → Type 0
Is {M} o = (k : M) × (o ≡ Some k)

-- where each of the two can be, the one can be after the other
abbrev pub Both : {A M : Type 0} → (A → M → Option M) → A → A → Type 0
Both {A} {M} step a b = (m : M) → Is (step a m) → Is (step b m) → Is (after (step a) (step b m))

-- the newest action is a trap
abbrev pub TrapsLast : {A : Type 0} → (A → Type 0) → List A → Type 0
TrapsLast Traps [] = ⊥
TrapsLast Traps (e ∷ h) = Traps e

-- the memory after a list of actions in the order of time
abbrev pub play : {A M : Type 0} → (A → M → Option M) → List A → M → Option M
play step [] m = Some m
play step (x ∷ xs) m = after (λ k. play step xs k) (step x m)
