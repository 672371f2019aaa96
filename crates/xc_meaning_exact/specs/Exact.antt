-- What is computed on words is what it is in exact numbers: sums of pointers and numbers, and the values of an index.
use Rattle.std.specs.Prelude.{◌≡◌, ◌↔◌, ℕ, ◌-◌, ◌*◌, ◌^◌, ◌<◌, Bool, true, false, cond, IsTrue, int_lt, int_le, ℤ, pos, negsuc, ◌+ℤ◌, ◌-ℤ◌, ◌*ℤ◌, ◌≤ℤ◌}
use Rattle.xc_tree.specs.declared.operator.BinOp.{BinOp}
use Rattle.xc_tree.specs.declared.operator.BinOp.TheVariants as op
use Rattle.xc_word.specs.Numbers.{signed}
use Rattle.xc_meaning_terms.specs.Pointers.{offset_of, with_offset, forth, back}
use Rattle.xc_meaning_terms.specs.Ranges.{extent, index_after}

-- ---- pointers

-- the number that a word stands for
abbrev pub number : Bool → ℕ → ℤ
number unsigned n = cond unsigned (pos n) (signed n)

-- a pointer plus or minus a number of elements has the offset that exact numbers give
abbrev pub PointerSumsAreExact : Type 0
PointerSumsAreExact = (unsigned : Bool) (size p n : ℕ) → 0 < size → n < 2 ^ 64 →
    (forth unsigned size p n ≡ with_offset p (pos (offset_of p) +ℤ number unsigned n *ℤ pos size))
    × (back unsigned size p n ≡ with_offset p (pos (offset_of p) -ℤ number unsigned n *ℤ pos size))

-- ---- the values of an index

-- the number that the index comes to after k steps from `lo`
abbrev pub reached : Bool → ℕ → ℕ → ℕ → ℤ
reached down step lo k = cond down (signed lo -ℤ pos (k * step)) (signed lo +ℤ pos (k * step))

-- the comparison of two numbers
abbrev pub compares : BinOp → ℤ → ℤ → Bool
compares op.Lt a b = int_lt a b
compares op.Le a b = int_le a b
compares op.Gt a b = int_lt b a
compares op.Ge a b = int_le b a
compares _ a b = false

-- the index goes up below a limit and down above one
abbrev pub goes_towards : BinOp → Bool → Bool
goes_towards op.Lt false = true
goes_towards op.Le false = true
goes_towards op.Gt true = true
goes_towards op.Ge true = true
goes_towards _ _ = false

-- the first `extent` values are those for which the test holds, and after them it fails
abbrev pub IndexValuesAreExact : Type 0
IndexValuesAreExact = (o : BinOp) (down : Bool) (step lo hi k : ℕ) → IsTrue (goes_towards o down) → 0 < step → lo < 2 ^ 64 → hi < 2 ^ 64 →
    (k < extent o step lo hi) ↔ IsTrue (compares o (reached down step lo k) (signed hi))

-- a number of type Int
abbrev pub IsInt : ℤ → Type 0
IsInt z = (negsuc (2 ^ 63 - 1) ≤ℤ z) × (z ≤ℤ pos (2 ^ 63 - 1))

-- and the value after k steps is that number, where it is one of type Int
abbrev pub IndexAfterIsExact : Type 0
IndexAfterIsExact = (down : Bool) (step lo k : ℕ) → lo < 2 ^ 64 → IsInt (reached down step lo k) →
    signed (index_after down step lo k) ≡ reached down step lo k
