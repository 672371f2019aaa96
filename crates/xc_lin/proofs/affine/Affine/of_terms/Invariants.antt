use Rattle.std.proofs.Common.{◌≡◌, take}
use Rattle.xc_lin.specs.Affine.{nonzero, AreNarrow}
use Rattle.xc_lin.proofs.affine.Affine.of_terms.Given as goal

-- the terms so far that are not 0, all within the limits
abbrev pub invariant-loop-term : goal.invariant-loop-term
invariant-loop-term l = record {
  items : l.terms.items ≡ nonzero (take l.term-index l.all);
  narrow : AreNarrow l.terms.items;
  room : l.terms.capacity ≡ 8;
}
