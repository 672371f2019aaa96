use Rattle.std.proofs.Common.{◌≡◌, ◌≤◌, ◌++◌, ◌+◌, length, take, map}
use Rattle.xc_lin.specs.Affine.{raised_by, without}
use Rattle.xc_lin.proofs.affine.merge.Given as goal

-- the terms of the first form so far
abbrev pub invariant-loop-term : goal.invariant-loop-term
invariant-loop-term l = record {
  items : l.terms.items ≡ map (raised_by l.b) (take l.term-index l.a);
  room : l.terms.capacity ≡ 17;
}

-- and those of the second that the first has not
abbrev pub invariant-loop-other : goal.invariant-loop-other
invariant-loop-other l = record {
  items : l.terms.items ≡ map (raised_by l.b) l.a ++ without l.a (take l.other-index l.b);
  few : length l.terms.items ≤ length l.a + l.other-index;
  room : l.terms.capacity ≡ 17;
}
