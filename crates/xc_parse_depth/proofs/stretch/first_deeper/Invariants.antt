use Rattle.std.proofs.Common.{◌≡◌, ℕ, ◌≤◌, ◌<◌}
use Rattle.xc_parse_depth.specs.Depths.{depth_at}
use Rattle.xc_parse_depth.proofs.Sweep.{before}
use Rattle.xc_parse_depth.proofs.stretch.first_deeper.Given as goal

abbrev pub invariant-places : goal.invariant-places
invariant-places l = (l.depth ≡ before l.stretches l.at) × ((j : ℕ) → j < l.at → depth_at l.stretches j ≤ l.limit)
