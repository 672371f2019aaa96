use Rattle.std.specs.Prelude.{◌≡◌, ◌≤◌, ℤ, ◌-ℤ◌, ◌≤ℤ◌, ◌<ℤ◌, ◌==◌, ◌||◌, true, List, [], ◌∷◌, if◌then◌else◌, ⊤, pos, neg_ℤ, ◌^◌}
use Rattle.xc_lin.specs.declared.affine.Var.{Var}
use Rattle.xc_lin.specs.declared.affine.Var.TheVariants.{Index, Symbol, GlobalSymbol}
use Rattle.xc_lin.specs.declared.region.Range.{Range}
use Rattle.xc_lin.specs.declared.region.Region.{Region}
use Rattle.xc_lin.specs.declared.region.Tie.{Tie}
use Rattle.xc_lin.specs.declared.region.Tie.TheVariants.{Apart, Shared, Below, Above}
use Rattle.xc_lin.specs.Affine.{Form, same_var, has_var, value_of}

-- the numbers from -2^31 to 2^31
abbrev pub anywhere : Range
anywhere = record { lo = neg_ℤ (pos (2 ^ 31)); hi = pos (2 ^ 31) }

-- the range of a variable: the first that is given for it, and any number from -2^31 to 2^31 where none is
abbrev pub range_of : List (Var × Range) → Var → Range
range_of [] var = anywhere
range_of (known ∷ ranges) var = if same_var known.0 var then known.1 else range_of ranges var

-- how the values of a variable at the two places are bound: those of the own index lie in the named
-- direction, a symbol has one value, and other indices are apart
abbrev pub tie_of : Region → Var → Tie
tie_of over (Index id) = if id == over.own then (if over.low then Below else Above) else Apart
tie_of over (Symbol number) = Shared
tie_of over (GlobalSymbol number) = Shared

-- two values are bound so
abbrev pub IsTied : Tie → ℤ → ℤ → Type 0
IsTied Apart x y = ⊤
IsTied Shared x y = x ≡ y
IsTied Below x y = x <ℤ y
IsTied Above x y = y <ℤ x

-- a value lies in a range
abbrev pub IsWithin : Range → ℤ → Type 0
IsWithin range x = (range.lo ≤ℤ x) × (x ≤ℤ range.hi)

-- a variable can have these values at the two places
abbrev pub Takes : Tie → Range → ℤ → ℤ → Type 0
Takes tie range x y = IsWithin range x × IsWithin range y × IsTied tie x y

-- a range has values that are bound so
abbrev pub HasValues : Tie → Range → Type 0
HasValues Apart range = range.lo ≤ℤ range.hi
HasValues Shared range = range.lo ≤ℤ range.hi
HasValues Below range = range.lo <ℤ range.hi
HasValues Above range = range.lo <ℤ range.hi

-- a variable of one of the two forms, or the own index
abbrev pub IsMet : Form → Form → Region → Var → Type 0
IsMet a b over var = (has_var a.terms var || has_var b.terms var || same_var (Index over.own) var) ≡ true

-- a variable has values at the two places of the region
abbrev pub HasValuesAt : Region → Var → Type 0
HasValuesAt over var = HasValues (tie_of over var) (range_of over.ranges var)

-- a variable can have these values at the two places of the region
abbrev pub TakesAt : Region → Var → ℤ → ℤ → Type 0
TakesAt over var x y = Takes (tie_of over var) (range_of over.ranges var) x y

-- values of all variables at the two places: each of a variable that is met lies in its range, and is
-- bound to the other as the region says
abbrev pub IsPoint : Form → Form → Region → (Var → ℤ) → (Var → ℤ) → Type 0
IsPoint a b over p q = (var : Var) → IsMet a b over var → TakesAt over var (p var) (q var)

-- the region has a point: each variable that is met has values
abbrev pub HasPoints : Form → Form → Region → Type 0
HasPoints a b over = (var : Var) → IsMet a b over var → HasValuesAt over var

-- the least and the greatest difference of two forms over all points
pub record Bounds (a b : Form) (over : Region) (least most : ℤ) : Type 0 where
  pub bounded : (p q : Var → ℤ) → IsPoint a b over p q → (least ≤ℤ (value_of a p -ℤ value_of b q)) × ((value_of a p -ℤ value_of b q) ≤ℤ most)
  pub least_reached : (p : Var → ℤ) × ((q : Var → ℤ) × (IsPoint a b over p q × ((value_of a p -ℤ value_of b q) ≡ least)))
  pub most_reached : (p : Var → ℤ) × ((q : Var → ℤ) × (IsPoint a b over p q × ((value_of a p -ℤ value_of b q) ≡ most)))
