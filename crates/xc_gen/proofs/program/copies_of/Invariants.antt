use Rattle.std.proofs.Common.{◌≡◌, take}
use Rattle.xc_gen.proofs.program.copies_of.Given as goal

-- the formats so far
abbrev pub invariant-loop-format : goal.invariant-loop-format
invariant-loop-format l = l.copies ≡ take l.format-index l.formats
