use Rattle.std.proofs.Common.{◌≡◌, ◌+◌, drop}
use Rattle.xc_lex.specs.State.{index_of}
use Rattle.xc_lex.proofs.macros.index_of.Given as goal

abbrev pub invariant-loop-i : goal.invariant-loop-i
invariant-loop-i l = index_of l.source l.entries l.name ≡ l.i + index_of l.source (drop l.i l.entries) l.name
