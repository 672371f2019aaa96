-- The values of operators on 64-bit words (C99 6.5.3 to 6.5.12). Arithmetic wraps, division truncates, the least
-- number over -1 is itself, and a shift's count is taken modulo 64.
use Rattle.std.specs.Prelude.{ℕ, ◌+◌, ◌-◌, ◌*◌, ◌/◌, ◌%◌, ◌^◌, Bool, true, false, ◌&&◌, ◌||◌, ◌==◌, not, nat_lt, int_lt, int_rem, cond, Option, Some, None, ℤ, bit_and, bit_or, bit_xor}
use Rattle.std.specs.Int.{w64, cast_signed, cast_unsigned, int_wrapping_div, int_shr}
use Rattle.xc_tree.specs.declared.operator.BinOp.{BinOp}
use Rattle.xc_tree.specs.declared.operator.BinOp.TheVariants as op
use Rattle.xc_tree.specs.declared.ty.Ty.{Ty, out-Ty}
use Rattle.xc_tree.specs.declared.ty.Ty.TheOpen.{Ty-F}
use Rattle.xc_tree.specs.declared.operator.UnOp.{UnOp}
use Rattle.xc_tree.specs.declared.operator.UnOp.TheVariants as unary
use Rattle.xc_word.specs.Numbers.{signed, word, truth}

-- the type of words without a sign
abbrev pub uint_at : Ty-F Ty → Bool
uint_at Ty-F.Uint = true
uint_at _ = false

abbrev pub is_uint : Ty → Bool
is_uint ty = uint_at (out-Ty ty)

abbrev pub is_shift : BinOp → Bool
is_shift op.Shl = true
is_shift op.Shr = true
is_shift _ = false

-- the operation is on Uint: a shift by the type of its left operand, else where one operand is Uint (C99 6.3.1.8)
abbrev pub works_on_uint : BinOp → Ty → Ty → Bool
works_on_uint o a b = is_uint a || (not (is_shift o) && is_uint b)

abbrev pub difference : ℕ → ℕ → ℕ
difference a b = (a + (2 ^ 64 - b)) % 2 ^ 64

abbrev pub is_below : Bool → ℕ → ℕ → Bool
is_below unsigned a b = cond unsigned (nat_lt a b) (int_lt (signed a) (signed b))

abbrev pub quotient_word : Bool → ℕ → ℕ → Option ℕ
quotient_word unsigned a b = cond (b == 0) None (Some (cond unsigned (a / b) (word (int_wrapping_div w64 (signed a) (signed b)))))

abbrev pub remainder_word : Bool → ℕ → ℕ → Option ℕ
remainder_word unsigned a b = cond (b == 0) None (Some (cond unsigned (a % b) (word (int_rem (signed a) (signed b)))))

abbrev pub shifted_word : Bool → ℕ → ℕ → ℕ
shifted_word unsigned a b = cond unsigned (a / 2 ^ (b % 64)) (word (int_shr (signed a) (b % 64)))

-- none for a division by 0
abbrev pub binary_word : BinOp → Bool → ℕ → ℕ → Option ℕ
binary_word op.Mul unsigned a b = Some ((a * b) % 2 ^ 64)
binary_word op.Div unsigned a b = quotient_word unsigned a b
binary_word op.Rem unsigned a b = remainder_word unsigned a b
binary_word op.Add unsigned a b = Some ((a + b) % 2 ^ 64)
binary_word op.Sub unsigned a b = Some (difference a b)
binary_word op.Shl unsigned a b = Some ((a * 2 ^ (b % 64)) % 2 ^ 64)
binary_word op.Shr unsigned a b = Some (shifted_word unsigned a b)
binary_word op.Lt unsigned a b = Some (truth (is_below unsigned a b))
binary_word op.Gt unsigned a b = Some (truth (is_below unsigned b a))
binary_word op.Le unsigned a b = Some (truth (not (is_below unsigned b a)))
binary_word op.Ge unsigned a b = Some (truth (not (is_below unsigned a b)))
binary_word op.Eq unsigned a b = Some (truth (a == b))
binary_word op.Ne unsigned a b = Some (truth (not (a == b)))
binary_word op.BitAnd unsigned a b = Some (bit_and a b)
binary_word op.BitXor unsigned a b = Some (bit_xor a b)
binary_word op.BitOr unsigned a b = Some (bit_or a b)

abbrev pub unary_word : UnOp → ℕ → ℕ
unary_word unary.Neg a = difference 0 a
unary_word unary.Complement a = difference (2 ^ 64 - 1) a
unary_word unary.Not a = truth (a == 0)
unary_word unary.Cast a = a
