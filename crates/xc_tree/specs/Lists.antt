-- Tests of lists and options.
use Rattle.std.specs.Prelude.{ℕ, Bool, true, false, ◌&&◌, ◌||◌, ◌==◌, not, nat_lt, List, [], ◌∷◌, ◌++◌, map, zero, suc, Option, Some, None}

abbrev pub every : List Bool → Bool
every [] = true
every (b ∷ bs) = b && every bs

abbrev pub some : List Bool → Bool
some [] = false
some (b ∷ bs) = b || some bs

abbrev pub joined : {A : Type 0} → List (List A) → List A
joined [] = []
joined (x ∷ xs) = x ++ joined xs

abbrev pub has : ℕ → List ℕ → Bool
has x ys = some (map (λ y. x == y) ys)

-- no number stands twice
unfoldable pub distinct : List ℕ → Bool
distinct [] = true
distinct (x ∷ xs) = not (has x xs) && distinct xs

-- each number is below all later ones
unfoldable pub ascending : List ℕ → Bool
ascending [] = true
ascending (x ∷ xs) = every (map (nat_lt x) xs) && ascending xs

-- the two lists are one
unfoldable pub same_numbers : List ℕ → List ℕ → Bool
same_numbers [] [] = true
same_numbers [] (y ∷ ys) = false
same_numbers (x ∷ xs) [] = false
same_numbers (x ∷ xs) (y ∷ ys) = x == y && same_numbers xs ys

-- the numbers from 0 up to `n`
abbrev pub indices : ℕ → List ℕ
indices zero = []
indices (suc n) = indices n ++ n ∷ []

-- there is a value, and it passes
abbrev pub passes : {A : Type 0} → (A → Bool) → Option A → Bool
passes p None = false
passes p (Some x) = p x

-- the value passes, if there is one
abbrev pub allows : {A : Type 0} → (A → Bool) → Option A → Bool
allows p None = true
allows p (Some x) = p x
