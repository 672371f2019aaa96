use Rattle.std.proofs.Common.{◌≡◌, take, map}
use Rattle.xc_lin.specs.Affine.{scaled}
use Rattle.xc_lin.proofs.affine.scale_terms.Given as goal

-- the terms so far, each times the number
abbrev pub invariant-loop-term : goal.invariant-loop-term
invariant-loop-term l = record {
  items : l.scaled.items ≡ map (scaled l.by) (take l.term-index l.terms);
  room : l.scaled.capacity ≡ 8;
}
