use Rattle.std.proofs.Common.{◌≡◌, ◌++◌, drop}
use Rattle.xc_type_pragmas.specs.Set.{nodep_of}
use Rattle.xc_type_pragmas.proofs.set.nodep_of.Given as goal

abbrev pub invariant-loop-s : goal.invariant-loop-s
invariant-loop-s l = l.roots ++ nodep_of (drop l.s-index l.all) ≡ nodep_of l.all
