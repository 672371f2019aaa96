-- Registers as a function of their numbers.
use Rattle.std.specs.Prelude.{ℕ, List, Option, Some, None, slice_index}
use Rattle.xc_meaning_world.specs.World.{put}

abbrev pub regs_of : List ℕ → ℕ → ℕ
regs_of regs a = slice_index regs a

-- the registers, with an answer where a register is named
abbrev pub answered : (ℕ → ℕ) → Option ℕ → ℕ → ℕ → ℕ
answered r None v = r
answered r (Some d) v = put r d v
