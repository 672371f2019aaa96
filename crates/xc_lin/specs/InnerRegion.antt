-- What only private functions and proofs speak of, beside `Region`.
use Rattle.std.specs.Prelude.{◌≡◌, ◌≤◌, ◌^◌, ℕ, pos, unsigned_abs, ℤ, ◌+ℤ◌, ◌-ℤ◌, ◌*ℤ◌, ◌≤ℤ◌}
use Rattle.xc_lin.specs.declared.region.Range.{Range}
use Rattle.xc_lin.specs.declared.bounds.Line.{Line}
use Rattle.xc_lin.specs.declared.bounds.Slopes.{Slopes}
use Rattle.xc_lin.specs.declared.bounds.Extent.{Extent}
use Rattle.xc_lin.specs.declared.region.Tie.{Tie}
use Rattle.xc_lin.specs.Region.{IsWithin, Takes}

-- what a variable adds to the difference of two forms
abbrev pub apart : ℤ → ℤ → ℤ → ℤ → ℤ
apart at_a at_b x y = (at_a *ℤ x) -ℤ (at_b *ℤ y)

-- the least and the greatest of what a variable can add
pub record Spans (tie : Tie) (range : Range) (at_a at_b least most : ℤ) : Type 0 where
  pub bounded : (x y : ℤ) → Takes tie range x y → (least ≤ℤ apart at_a at_b x y) × (apart at_a at_b x y ≤ℤ most)
  pub least_reached : (x : ℤ) × ((y : ℤ) × (Takes tie range x y × (apart at_a at_b x y ≡ least)))
  pub most_reached : (x : ℤ) × ((y : ℤ) × (Takes tie range x y × (apart at_a at_b x y ≡ most)))

-- the value of a linear function
abbrev pub height : Line → ℤ → ℤ
height line x = (line.coeff *ℤ x) +ℤ line.shift

-- the least and the greatest value of a linear function in its range
pub record Reaches (line : Line) (least most : ℤ) : Type 0 where
  pub bounded : (x : ℤ) → IsWithin line.range x → (least ≤ℤ height line x) × (height line x ≤ℤ most)
  pub least_reached : (x : ℤ) × (IsWithin line.range x × (height line x ≡ least))
  pub most_reached : (x : ℤ) × (IsWithin line.range x × (height line x ≡ most))

-- a range without its last value
abbrev pub shorter : Range → Range
shorter range = record range { hi = range.hi -ℤ pos 1 }

-- two coefficients, and a linear function, for which the sums below fit
abbrev pub AreSmall : Slopes → Type 0
AreSmall slopes = (unsigned_abs slopes.first ≤ 2 ^ 20) × (unsigned_abs slopes.second ≤ 2 ^ 20)

abbrev pub IsSmall : Line → Type 0
IsSmall line = (unsigned_abs line.coeff ≤ 2 ^ 21) × (unsigned_abs line.shift ≤ 2 ^ 84)

-- neither of two values passes a number in size
abbrev pub AreWithin : ℕ → Extent → Type 0
AreWithin size extent = (unsigned_abs extent.least ≤ size) × (unsigned_abs extent.most ≤ size)
