-- Values of digits.
use Rattle.std.proofs.Common.{◌≤◌, ◌<◌, ◌+◌, ◌*◌, ℕ, suc, List, [], ◌∷◌, drop, get_or, length, arith}
use Rattle.std.proofs.Math.Seq.{drop-cons}
use Rattle.std.proofs.Math.Nat.{mul-le-mul_left}
use Rattle.xc_lex.specs.Numbers.{value_from, digit_value}

-- further digits make a value no less
pub le-value_from : (base value : ℕ) (bs : List ℕ) → 1 ≤ base → value ≤ value_from base value bs
le-value_from base value [] h = omega arith
le-value_from base value (b ∷ bs) h =
    let more = le-value_from base (value * base + digit_value b) bs h in
    let grown : value * 1 ≤ value * base = mul-le-mul_left value h in
    omega (arith, more, grown)

-- a value that is too large stays so
pub le-value_from_at : (base value limit i : ℕ) (bs : List ℕ) → 1 ≤ base → i < length bs → limit ≤ value * base + digit_value (get_or bs i 0) → limit ≤ value_from base value (drop i bs)
le-value_from_at base value limit i bs h within big =
    let more = le-value_from base (value * base + digit_value (get_or bs i 0)) (drop (suc i) bs) h in
    let whole : limit ≤ value_from base value (get_or bs i 0 ∷ drop (suc i) bs) = omega (arith, more) in
    rw (drop-cons bs i 0 within) whole
