-- Pointers: the number of a segment times 2^32, and the offset of a cell in it. The null pointer is 0. What is said of words holds
-- of every natural number, as the machine's instructions take them.
use Rattle.std.specs.Prelude.{ℕ, ◌+◌, ◌*◌, ◌/◌, ◌%◌, ◌^◌, ◌==◌, Bool, true, false, ◌&&◌, nat_lt, cond, ℤ, pos, negsuc, ◌+ℤ◌, ◌-ℤ◌, ◌*ℤ◌, Option, Some, None, option_map, option_and_then}
use Rattle.xc_word.specs.declared.memory.Access.{Access}
use Rattle.xc_word.specs.declared.memory.Place.{Place}
use Rattle.xc_word.specs.declared.memory.Kind.{Kind}
use Rattle.xc_word.specs.Numbers.{signed, word}
use Rattle.xc_tree_words.specs.Words.{is_below, difference, binary_word, quotient_word}
use Rattle.xc_meaning_terms.specs.declared.operation.Operation.{Operation}
use Rattle.xc_meaning_terms.specs.declared.operation.Operation.TheVariants.{OnWords, PointerPlus, PlusPointer, PointerMinus, Order, Distance}

abbrev pub segment_of : ℕ → ℕ
segment_of p = p / 2 ^ 32

abbrev pub offset_of : ℕ → ℕ
offset_of p = p % 2 ^ 32

-- the pointer to the first cell of a segment
abbrev pub pointer_to : ℕ → ℕ
pointer_to seg = seg * 2 ^ 32

-- where a pointer leads to
abbrev pub place_of : ℕ → Place
place_of p = record { seg = segment_of p; off = offset_of p }

-- an access of the cell that a pointer leads to
abbrev pub access_at : Kind → ℕ → ℕ → Access
access_at kind p v = record { kind = kind; place = place_of p; value = v }

-- ---- pointers and numbers

abbrev pub offset_at : ℤ → Option ℕ
offset_at (pos n) = cond (nat_lt n (2 ^ 32)) (Some n) None
offset_at (negsuc n) = None

-- the pointer with another offset; none where that leaves 0 to 2^32 - 1
abbrev pub with_offset : ℕ → ℤ → Option ℕ
with_offset p z = option_map (λ o. segment_of p * 2 ^ 32 + o) (offset_at z)

-- the pointer moved by a signed number of elements, exactly
abbrev pub moved : ℕ → ℕ → ℕ → Option ℕ
moved size p n = with_offset p (pos (offset_of p) +ℤ signed n *ℤ pos size)

-- an unsigned number of 2^63 or more, so many that they are past every offset
abbrev pub is_too_large : Bool → ℕ → Bool
is_too_large unsigned n = unsigned && is_below false n 0

-- the pointer moved forth and back by so many elements: for words, in exact numbers, by the law `PointerSumsAreExact`
abbrev pub forth : Bool → ℕ → ℕ → ℕ → Option ℕ
forth unsigned size p n = cond (is_too_large unsigned n) None (moved size p n)

abbrev pub back : Bool → ℕ → ℕ → ℕ → Option ℕ
back unsigned size p n = cond (is_too_large unsigned n) None (moved size p (difference 0 n))

-- the place of a member, so many cells behind the place of its struct
abbrev pub member_of : ℕ → ℕ → Option ℕ
member_of p off = with_offset p (pos (offset_of p + off))

-- the place of an element: none past a declared bound, and past the offsets of a segment
abbrev pub element : Option ℕ → Bool → ℕ → ℕ → ℕ → Option ℕ
element None unsigned size p i = forth unsigned size p i
element (Some bound) unsigned size p i = cond (nat_lt i bound) (forth unsigned size p i) None

-- ---- two pointers

-- by their offsets; none where their segments differ
abbrev pub in_one : ℕ → ℕ → (ℕ → ℕ → Option ℕ) → Option ℕ
in_one p q f = cond (segment_of p == segment_of q) (f (offset_of p) (offset_of q)) None

abbrev pub cells_between : ℕ → ℕ → Option ℕ
cells_between p q = in_one p q (λ a b. Some (word (pos a -ℤ pos b)))

-- ---- binary operators

-- the value of an operation on two words; none where it traps
abbrev pub operate : Operation → ℕ → ℕ → Option ℕ
operate (OnWords op unsigned) a b = binary_word op unsigned a b
operate (PointerPlus unsigned size) a b = forth unsigned size a b
operate (PlusPointer unsigned size) a b = forth unsigned size b a
operate (PointerMinus unsigned size) a b = back unsigned size a b
operate (Order op) a b = in_one a b (binary_word op true)
operate (Distance size) a b = option_and_then (λ d. quotient_word false d size) (cells_between a b)
