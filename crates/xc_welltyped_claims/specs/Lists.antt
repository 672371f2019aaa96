-- What holds of each element of a list, and lists that go on with others.
use Rattle.std.specs.Prelude.{◌≡◌, ℕ, ◌<◌, ◌≤◌, Bool, true, IsTrue, List, [], ◌∷◌, ◌++◌, Some, slice_get}
use Rattle.xc_tree.specs.Lists.{distinct}

-- it holds of each element
abbrev pub Each : {A : Type 0} → (A → Type 0) → List A → Type 0
Each P [] = Unit {0}
Each P (x ∷ xs) = P x × Each P xs

-- the second list is the first one and more
abbrev pub StartsWith : {A : Type 0} → List A → List A → Type 0
StartsWith {A} xs ys = (more : List A) × (ys ≡ xs ++ more)

-- what is set stays set
abbrev pub StaysSet : List Bool → List Bool → Type 0
StaysSet few more = (n : ℕ) → slice_get few n ≡ Some true → slice_get more n ≡ Some true

-- different numbers, each from the first bound up to the second
abbrev pub Fresh : ℕ → ℕ → List ℕ → Type 0
Fresh from to xs = IsTrue (distinct xs) × Each (λ x. (from ≤ x) × (x < to)) xs
