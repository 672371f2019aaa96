use Rattle.std.proofs.Common.{◌≡◌, drop}
use Rattle.xc_type_rule.specs.Least.{least_from}
use Rattle.xc_type_declarators.specs.Declarators.{bounds_faults}
use Rattle.xc_type_declarators.proofs.declarators.note_bounds.Given as goal

abbrev pub invariant-bounds : goal.invariant-bounds
invariant-bounds l = least_from l.first (bounds_faults (drop l.bound-index l.bounds)) ≡ least_from l.initial.first (bounds_faults l.bounds)
