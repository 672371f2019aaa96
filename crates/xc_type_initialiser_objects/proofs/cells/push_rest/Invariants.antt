use Rattle.std.proofs.Common.{◌≡◌, ◌++◌}
use Rattle.std.specs.Prelude.{replicate}
use Rattle.xc_type_initialiser_objects.specs.Cells.{fresh}
use Rattle.xc_type_initialiser_objects.proofs.cells.push_rest.Given as goal

abbrev pub invariant-rest : goal.invariant-rest
invariant-rest l = l.first ≡ l.initial.first ++ replicate l.counter fresh
