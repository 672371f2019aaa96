use Rattle.std.proofs.Common.{◌≡◌, ◌++◌, drop}
use Rattle.xc_type_pragmas.specs.Set.{noalias_of}
use Rattle.xc_type_pragmas.proofs.set.noalias_of.Given as goal

abbrev pub invariant-loop-s : goal.invariant-loop-s
invariant-loop-s l = l.roots ++ noalias_of (drop l.s-index l.all) ≡ noalias_of l.all
