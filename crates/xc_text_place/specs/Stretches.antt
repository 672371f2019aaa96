-- Stretches of a source, each from a byte up to another.
use Rattle.std.specs.Prelude.{ℕ, Bool, ◌&&◌, nat_eq}

-- they begin and end at the same bytes
abbrev pub stretch_eq : ℕ × ℕ → ℕ × ℕ → Bool
stretch_eq p q = nat_eq p.0 q.0 && nat_eq p.1 q.1
