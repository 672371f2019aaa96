use Rattle.std.specs.Prelude.{ℕ, ◌+◌, ◌-◌, ◌^◌, ◌≤◌, min}

-- a count that was raised by a number; it stands still at the last value of a u64
abbrev pub raised : ℕ → ℕ → ℕ
raised count by = min (count + by) (2 ^ 64 - 1)

-- a count rose by a number or more, or stands at the last value of a u64
abbrev pub Rises : ℕ → ℕ → ℕ → Type 0
Rises by before now = raised before by ≤ now
