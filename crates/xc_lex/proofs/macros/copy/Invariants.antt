use Rattle.std.proofs.Common.{◌≡◌, ◌≤◌, ◌++◌, map, slice_range}
use Rattle.xc_lex.specs.State.{moved}
use Rattle.xc_lex.proofs.macros.copy.Given as goal

abbrev pub invariant-loop-i : goal.invariant-loop-i
invariant-loop-i l = record {
  after : l.fn.made.from ≤ l.i;
  items : l.tokens.items ≡ l.fn.tokens.items ++ map (moved l.at) (slice_range l.fn.tokens.items l.fn.made.from l.i);
}
