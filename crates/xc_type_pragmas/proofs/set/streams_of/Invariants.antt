use Rattle.std.proofs.Common.{◌≡◌, drop}
use Rattle.xc_type_pragmas.specs.Set.{streams_after}
use Rattle.xc_type_pragmas.proofs.set.streams_of.Given as goal

abbrev pub invariant-loop-s : goal.invariant-loop-s
invariant-loop-s l = streams_after l.streams (drop l.s-index l.all) ≡ streams_after 8 l.all
