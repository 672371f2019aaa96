use Rattle.std.proofs.Common.{◌≡◌, ◌++◌, drop, map}
use Rattle.std.specs.Prelude.{zip}
use Rattle.xc_type_unit.specs.Functions.{local_of}
use Rattle.xc_type_unit.proofs.functions.locals_of.Given as goal

abbrev pub invariant-locals : goal.invariant-locals
invariant-locals l = l.all ++ map local_of (zip (drop l.at l.locals) (drop l.at l.addressed)) ≡ map local_of (zip l.locals l.addressed)
