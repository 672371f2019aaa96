-- How many stretches stand at a place.
use Rattle.std.specs.Prelude.{ℕ, ◌≤◌, ◌<◌, List, Option, Some, None, ◌&&◌, nat_le, nat_lt, count_by}
use Rattle.xc_parse_depth.specs.declared.stretch.Stretch.{Stretch}

-- how many of the stretches stand at the place
abbrev pub depth_at : List Stretch → ℕ → ℕ
depth_at all k = count_by (λ s. nat_le s.first k && nat_lt k s.end) all

-- the first place below the count at which more than the limit stand, if there is one
abbrev pub IsFirstDeeper : List Stretch → ℕ → ℕ → Option ℕ → Type 0
IsFirstDeeper all count limit None = (k : ℕ) → k < count → depth_at all k ≤ limit
IsFirstDeeper all count limit (Some k) = (k < count) × (limit < depth_at all k) × ((j : ℕ) → j < k → depth_at all j ≤ limit)
