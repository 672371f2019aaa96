use Rattle.std.proofs.Common.{◌≡◌, ◌++◌, drop}
use Rattle.xc_type_unit.proofs.types.copy_all.Given as goal

abbrev pub invariant-types : goal.invariant-types
invariant-types l = l.copies ++ drop l.ty-index l.all ≡ l.all
