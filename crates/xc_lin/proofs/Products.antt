use Rattle.std.proofs.Common.{◌≡◌, ◌∙◌, ℤ, pos, negsuc, neg_ℤ, ◌+ℤ◌, ◌-ℤ◌, ◌*ℤ◌, ◌≤ℤ◌, arith, sym, ap}
use Rattle.std.proofs.lemmas.Int.{ints}
use Rattle.xc_lin.proofs.Outcomes.{times-sum, neg-times}

nonneg : (c d : ℤ) → pos 0 ≤ℤ c → pos 0 ≤ℤ d → pos 0 ≤ℤ (c *ℤ d)
nonneg (pos m) (pos n) hc hd = omega (arith, ints)
nonneg (pos m) (negsuc n) hc hd = absurd (omega (arith, ints, hd))
nonneg (negsuc m) d hc hd = absurd (omega (arith, ints, hc))

between : (x y : ℤ) → (x +ℤ (y -ℤ x)) ≡ y
between x y = omega (arith, ints)

-- a coefficient that is not negative keeps the order of two values
pub keeps-order : (c x y : ℤ) → pos 0 ≤ℤ c → x ≤ℤ y → (c *ℤ x) ≤ℤ (c *ℤ y)
keeps-order c x y h k =
    let d : pos 0 ≤ℤ (c *ℤ (y -ℤ x)) = nonneg c (y -ℤ x) h (omega (arith, ints, k)) in
    let e : (c *ℤ y) ≡ ((c *ℤ x) +ℤ (c *ℤ (y -ℤ x))) = ap (λ w. c *ℤ w) (sym (between x y)) ∙ times-sum c x (y -ℤ x) in
    omega (arith, ints, d, e)

-- and one that is not positive turns it
pub turns-order : (c x y : ℤ) → c ≤ℤ pos 0 → x ≤ℤ y → (c *ℤ y) ≤ℤ (c *ℤ x)
turns-order c x y h k =
    let d : (neg_ℤ c *ℤ x) ≤ℤ (neg_ℤ c *ℤ y) = keeps-order (neg_ℤ c) x y (omega (arith, ints, h)) k in
    omega (arith, ints, d, neg-times c x, neg-times c y)
