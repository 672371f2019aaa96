-- What operations make of 64-bit words.
use Rattle.std.specs.Prelude.{ℕ, ◌+◌, ◌-◌, ◌*◌, ◌/◌, ◌%◌, ◌^◌, ◌==◌, Bool, not, nat_lt, int_lt, int_rem, ◌+ℤ◌, ◌-ℤ◌, ◌*ℤ◌, Option, Some, None, ℤ, pos, negsuc, bit_and, bit_or, bit_xor, if◌then◌else◌}
use Rattle.std.specs.Option.{option_map}
use Rattle.std.specs.Int.{w64, cast_signed, cast_unsigned, int_wrapping_div, int_shr}
use Rattle.xc_isa.specs.declared.instr.BinaryOp.{BinaryOp}
use Rattle.xc_isa.specs.declared.instr.BinaryOp.TheVariants.{Add, Sub, Mul, And, Or, Xor, Shl, Shr, Sar, Slt, Sltu, Seq}
use Rattle.xc_isa.specs.declared.instr.DivideOp.{DivideOp}
use Rattle.xc_isa.specs.declared.instr.DivideOp.TheVariants.{Div, Divu, Rem, Remu}
use Rattle.xc_isa.specs.declared.instr.Test.{Test}
use Rattle.xc_isa.specs.declared.instr.Test.TheVariants.{Zero, NotZero}
use Rattle.xc_word.specs.Numbers.{signed, word, truth}

-- sums, differences, products and shifts to the left are modulo 2^64; counts of shifts are modulo 64
abbrev pub binary : BinaryOp → ℕ → ℕ → ℕ
binary Add x y = (x + y) % 2 ^ 64
binary Sub x y = (x + (2 ^ 64 - y)) % 2 ^ 64
binary Mul x y = (x * y) % 2 ^ 64
binary And x y = bit_and x y
binary Or x y = bit_or x y
binary Xor x y = bit_xor x y
binary Shl x y = (x * 2 ^ (y % 64)) % 2 ^ 64
binary Shr x y = x / 2 ^ (y % 64)
binary Sar x y = word (int_shr (signed x) (y % 64))
binary Slt x y = truth (int_lt (signed x) (signed y))
binary Sltu x y = truth (nat_lt x y)
binary Seq x y = truth (x == y)

-- quotients are towards 0, and a remainder has the sign of the dividend; the least number over -1 is itself, with the remainder 0
abbrev pub quotient : DivideOp → ℕ → ℕ → ℕ
quotient Div x y = word (int_wrapping_div w64 (signed x) (signed y))
quotient Divu x y = x / y
quotient Rem x y = word (int_rem (signed x) (signed y))
quotient Remu x y = x % y

-- none where the divisor is 0
abbrev pub divide : DivideOp → ℕ → ℕ → Option ℕ
divide op x y = if y == 0 then None else Some (quotient op x y)

abbrev pub holds : Test → ℕ → Bool
holds Zero x = x == 0
holds NotZero x = not (x == 0)

-- ---- pointers: the number of a segment times 2^32, and the offset of a cell in it

abbrev pub segment_of : ℕ → ℕ
segment_of p = p / 2 ^ 32

abbrev pub offset_of : ℕ → ℕ
offset_of p = p % 2 ^ 32

abbrev pub offset_at : ℤ → Option ℕ
offset_at (pos n) = if nat_lt n (2 ^ 32) then Some n else None
offset_at (negsuc n) = None

-- the pointer x moved by y, signed, times n, exactly; none where its offset leaves 0 to 2^32 - 1
abbrev pub moved : ℕ → ℕ → ℕ → Option ℕ
moved x y n = option_map (λ o. segment_of x * 2 ^ 32 + o) (offset_at (pos (offset_of x) +ℤ signed y *ℤ pos n))

-- how far the pointer x is behind the pointer y in their segment, signed; none where their segments differ
abbrev pub distance : ℕ → ℕ → Option ℕ
distance x y = if segment_of x == segment_of y then Some (word (pos (offset_of x) -ℤ pos (offset_of y))) else None
