-- Integer constants (C99 6.4.4.1, with words of 64 bits as the only size).
use Rattle.std.specs.Prelude.{ℕ, ◌+◌, ◌-◌, ◌*◌, ◌^◌, List, [], ◌∷◌, Bool, true, false, ◌==◌, ◌||◌, if◌then◌else◌, nat_le, nat_lt, take, drop, Option, Some, None, codes}
use Rattle.std.specs.List.{prefix_len, list_any}
use Rattle.std.specs.Str.{bytes_eq}
use Rattle.xc_lex.specs.declared.number.Number.{Number}
use Rattle.xc_lex.specs.Bytes.{is_between, is_digit}

-- the value of a digit or of a hexadecimal letter, and 16 for another byte
abbrev pub digit_value : ℕ → ℕ
digit_value b =
    if is_digit b then b - 48
    else if is_between 97 102 b then b - 87
    else if is_between 65 70 b then b - 55
    else 16

abbrev pub is_digit_of : ℕ → ℕ → Bool
is_digit_of base b = nat_lt (digit_value b) base

-- the value of the digits behind those that make value
abbrev pub value_from : ℕ → ℕ → List ℕ → ℕ
value_from base value [] = value
value_from base value (b ∷ bs) = value_from base (value * base + digit_value b) bs

-- the suffixes with one `u` or `U` and at most one `l`, `L`, `ll` or `LL`, in either order
abbrev pub unsigned_suffixes : List (List ℕ)
unsigned_suffixes =
    codes "u" ∷ codes "U"
    ∷ codes "ul" ∷ codes "uL" ∷ codes "ull" ∷ codes "uLL" ∷ codes "Ul" ∷ codes "UL" ∷ codes "Ull" ∷ codes "ULL"
    ∷ codes "lu" ∷ codes "lU" ∷ codes "llu" ∷ codes "llU" ∷ codes "Lu" ∷ codes "LU" ∷ codes "LLu" ∷ codes "LLU" ∷ []

-- those without
abbrev pub signed_suffixes : List (List ℕ)
signed_suffixes = [] ∷ codes "l" ∷ codes "L" ∷ codes "ll" ∷ codes "LL" ∷ []

abbrev pub is_among : List (List ℕ) → List ℕ → Bool
is_among table word = list_any (λ p. bytes_eq p word) table

unfoldable pub is_unsigned_suffix : List ℕ → Bool
is_unsigned_suffix word = is_among unsigned_suffixes word

unfoldable pub is_signed_suffix : List ℕ → Bool
is_signed_suffix word = is_among signed_suffixes word

-- a value in a base: unsigned with `u`, or where it is octal or hexadecimal and above 2 ^ 63 - 1. None is above 2 ^ 64 - 1, and no decimal one without `u` above 2 ^ 63 - 1
abbrev pub typed : ℕ → ℕ → Bool → Option Number
typed base value marked =
    if nat_le (2 ^ 64) value then None
    else if marked then Some (record { value = value; unsigned = true })
    else if nat_lt value (2 ^ 63) then Some (record { value = value; unsigned = false })
    else if base == 10 then None
    else Some (record { value = value; unsigned = true })

abbrev pub suffixed : ℕ → ℕ → List ℕ → Option Number
suffixed base value suffix =
    if is_signed_suffix suffix then typed base value false
    else if is_unsigned_suffix suffix then typed base value true
    else None

-- one digit or more, and a suffix
abbrev pub number_in : ℕ → List ℕ → Option Number
number_in base run =
    if prefix_len (is_digit_of base) run == 0 then None
    else suffixed base (value_from base 0 (take (prefix_len (is_digit_of base) run) run)) (drop (prefix_len (is_digit_of base) run) run)

-- hexadecimal behind `0x` or `0X`, octal from `0` on, else decimal
abbrev pub number_of : List ℕ → Option Number
number_of [] = None
number_of (a ∷ []) = number_in 10 (a ∷ [])
number_of (a ∷ b ∷ bs) =
    if a == 48 then (if b == 120 || b == 88 then number_in 16 bs else number_in 8 (a ∷ b ∷ bs))
    else number_in 10 (a ∷ b ∷ bs)
