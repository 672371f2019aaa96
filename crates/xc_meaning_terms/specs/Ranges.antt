-- The values that the index of a loop in normal form takes. They are those that its step reaches from the first one and for which its
-- test holds, by the law `IndexValuesAreExact`; here they are computed.
use Rattle.std.specs.Prelude.{ℕ, ◌+◌, ◌-◌, ◌*◌, ◌/◌, ◌%◌, ◌^◌, Bool, false, ◌&&◌, int_le, cond, pos, negsuc, List, map}
use Rattle.xc_tree.specs.Lists.{indices}
use Rattle.xc_tree.specs.declared.operator.BinOp.{BinOp}
use Rattle.xc_tree.specs.declared.operator.BinOp.TheVariants as op
use Rattle.xc_word.specs.Numbers.{signed}
use Rattle.xc_tree_words.specs.Words.{is_below, difference}
use Rattle.xc_meaning_terms.specs.Terms.{Range}

-- how many values the index takes from `lo` on before the comparison with `hi` fails
abbrev pub extent : BinOp → ℕ → ℕ → ℕ → ℕ
extent op.Lt step lo hi = cond (is_below false lo hi) ((difference hi lo + (step - 1)) / step) 0
extent op.Le step lo hi = cond (is_below false hi lo) 0 (difference hi lo / step + 1)
extent op.Gt step lo hi = cond (is_below false hi lo) ((difference lo hi + (step - 1)) / step) 0
extent op.Ge step lo hi = cond (is_below false lo hi) 0 (difference lo hi / step + 1)
extent _ step lo hi = 0

-- the value of the index after so many steps
abbrev pub index_after : Bool → ℕ → ℕ → ℕ → ℕ
index_after down step lo k = cond down (difference lo ((k * step) % 2 ^ 64)) ((lo + k * step) % 2 ^ 64)

-- the values of the index from `lo` on, in order
abbrev pub index_values : Range → ℕ → ℕ → List ℕ
index_values r lo hi = map (index_after r.down r.step lo) (indices (extent r.order r.step lo hi))

-- the value at which the test first fails
abbrev pub last_index : Range → ℕ → ℕ → ℕ
last_index r lo hi = index_after r.down r.step lo (extent r.order r.step lo hi)

-- from -2^31 to 2^31
abbrev pub is_near : ℕ → Bool
is_near a = int_le (negsuc (2 ^ 31 - 1)) (signed a) && int_le (signed a) (pos (2 ^ 31))
