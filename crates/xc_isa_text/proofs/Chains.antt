-- Lists in which each element may follow the one before it.
use Rattle.std.proofs.Common.{◌≡◌, zero, suc, ◌-◌, Bool, true, List, [], ◌∷◌, ◌++◌, length, Option, Some, None, refl, sym, ap, subst, ◌∙◌, map, arith}
use Rattle.std.proofs.lemmas.Option.{same_Some}
use Rattle.std.specs.Prelude.{slice_get}
use Rattle.std.specs.List.{AllByRecursion, flat_map}
use Rattle.xc_isa.specs.Texts.{EachWithNext}
use Rattle.xc_isa_text.specs.InnerReadings.{last_of, may_follow}

last_get : {X : Type 0} (x : X) (xs : List X) → last_of (Some x) xs ≡ slice_get (x ∷ xs) (length xs)
last_get x [] = refl
last_get x (y ∷ xs) = last_get y xs

pub last_is : {X : Type 0} (xs : List X) (x : X) → Some x ≡ slice_get xs (length xs - 1) → last_of None xs ≡ Some x
last_is [] x h = absurd cc
last_is (y ∷ xs) x h = last_get y xs ∙ sym (h ∙ ap (slice_get (y ∷ xs)) (omega arith))

pub last_push : {X : Type 0} (before : Option X) (xs : List X) (x : X) → last_of before (xs ++ x ∷ []) ≡ Some x
last_push before [] x = refl
last_push before (y ∷ xs) x = last_push (Some y) xs x

-- each element may follow the one before it, and the first one what is before
abbrev pub Chain : {X : Type 0} → (X → X → Bool) → Option X → List X → Type 0
Chain test before [] = Unit {0}
Chain test before (x ∷ xs) = (may_follow test before x ≡ true) × Chain test (Some x) xs

pub chain_push : {X : Type 0} (test : X → X → Bool) (before : Option X) (xs : List X) (x : X) → Chain test before xs → may_follow test (last_of before xs) x ≡ true → Chain test before (xs ++ x ∷ [])
chain_push test before [] x h k = (k, tt)
chain_push test before (y ∷ xs) x h k = (h.0, chain_push test (Some y) xs x h.1 k)

pub all_push : {X : Type 0} (P : X → Type 0) (xs : List X) (x : X) → AllByRecursion P xs → P x → AllByRecursion P (xs ++ x ∷ [])
all_push P [] x h p = (p, tt)
all_push P (y ∷ xs) x h p = (h.0, all_push P xs x h.1 p)

pub all_append : {X : Type 0} (P : X → Type 0) (xs ys : List X) → AllByRecursion P xs → AllByRecursion P ys → AllByRecursion P (xs ++ ys)
all_append P [] ys h k = k
all_append P (x ∷ xs) ys h k = (h.0, all_append P xs ys h.1 k)

pub all_map : {X Y : Type 0} (f : X → Y) (P : X → Type 0) (Q : Y → Type 0) → ((x : X) → P x → Q (f x)) → (xs : List X) → AllByRecursion P xs → AllByRecursion Q (map f xs)
all_map f P Q to [] h = tt
all_map f P Q to (x ∷ xs) h = (to x h.0, all_map f P Q to xs h.1)

pub all_same : {X : Type 0} (P Q : X → Type 0) → ((x : X) → P x → Q x) → (xs : List X) → AllByRecursion P xs → AllByRecursion Q xs
all_same P Q to [] h = tt
all_same P Q to (x ∷ xs) h = (to x h.0, all_same P Q to xs h.1)

pub all_flat : {X Y : Type 0} (f : X → List Y) (P : X → Type 0) (Q : Y → Type 0) → ((x : X) → P x → AllByRecursion Q (f x)) → (xs : List X) → AllByRecursion P xs → AllByRecursion Q (flat_map f xs)
all_flat f P Q to [] h = tt
all_flat f P Q to (x ∷ xs) h = all_append Q (f x) (flat_map f xs) (to x h.0) (all_flat f P Q to xs h.1)

-- ---- each element with the one after it

chain_after : {X : Type 0} (test : X → X → Bool) (R : X → X → Type 0) → ((x y : X) → R x y → test x y ≡ true) → (x : X) (xs : List X) → EachWithNext R (x ∷ xs) → Chain test (Some x) xs
chain_after test R to x [] h = tt
chain_after test R to x (y ∷ xs) h = (to x y (h 0 x y refl refl), chain_after test R to y xs (λ i a b p q. h (suc i) a b p q))

pub chain_from : {X : Type 0} (test : X → X → Bool) (R : X → X → Type 0) → ((x y : X) → R x y → test x y ≡ true) → (xs : List X) → EachWithNext R xs → Chain test None xs
chain_from test R to [] h = tt
chain_from test R to (x ∷ xs) h = (refl, chain_after test R to x xs h)

each_after : {X : Type 0} (test : X → X → Bool) (R : X → X → Type 0) → ((x y : X) → test x y ≡ true → R x y) → (x : X) (xs : List X) → Chain test (Some x) xs → EachWithNext R (x ∷ xs)
each_after test R to x [] h i a b p q = absurd cc
each_after test R to x (y ∷ xs) h zero a b p q = subst (λ z. R z b) (same_Some _ _ p) (subst (λ z. R x z) (same_Some _ _ q) (to x y h.0))
each_after test R to x (y ∷ xs) h (suc i) a b p q = each_after test R to y xs h.1 i a b p q

pub each_from : {X : Type 0} (test : X → X → Bool) (R : X → X → Type 0) → ((x y : X) → test x y ≡ true → R x y) → (xs : List X) → Chain test None xs → EachWithNext R xs
each_from test R to [] h i a b p q = absurd cc
each_from test R to (x ∷ xs) h i a b p q = each_after test R to x xs h.1 i a b p q
