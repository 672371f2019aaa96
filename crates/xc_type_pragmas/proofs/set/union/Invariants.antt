use Rattle.std.proofs.Common.{◌≡◌, drop}
use Rattle.xc_type_pragmas.specs.Set.{union}
use Rattle.xc_type_pragmas.proofs.set.union.Given as goal

abbrev pub invariant-loop-g : goal.invariant-loop-g
invariant-loop-g l = union l.marks.0 (drop l.g-index l.given) ≡ union 0 l.given
