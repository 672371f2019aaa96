use Rattle.std.proofs.Common.{◌≡◌, ◌++◌, length}
use Rattle.xc_type_pragmas.specs.Set.{given_in}
use Rattle.xc_type_pragmas.proofs.set.given_of.Given as goal

abbrev pub invariant-each : goal.invariant-each
invariant-each l = l.given ++ given_in l.serial l.rest ≡ given_in l.serial l.all

abbrev pub decreases-each : goal.decreases-each
decreases-each l = length l.rest
