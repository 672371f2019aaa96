use Rattle.std.proofs.Common.{◌≡◌, ◌++◌, drop}
use Rattle.xc_type_pragmas.specs.Set.{noted}
use Rattle.xc_type_pragmas.proofs.set.noted.Given as goal

abbrev pub invariant-loop-g : goal.invariant-loop-g
invariant-loop-g l = l.notes ++ noted (drop l.g-index l.given) ≡ noted l.given
