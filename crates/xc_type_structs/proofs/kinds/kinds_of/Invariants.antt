use Rattle.std.proofs.Common.{◌≡◌}
use Rattle.xc_type_structs.specs.Kinds.{kinds_of}
use Rattle.xc_type_structs.proofs.kinds.kinds_of.Given as goal

abbrev pub invariant-levels : goal.invariant-levels
invariant-levels l = kinds_of l.table l.ty ≡ kinds_of l.table l.fn.ty
