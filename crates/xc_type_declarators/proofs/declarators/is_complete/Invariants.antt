use Rattle.std.proofs.Common.{◌≡◌, drop}
use Rattle.xc_type_declarators.specs.Declarators.{fewest, cells_at_least}
use Rattle.xc_type_declarators.proofs.declarators.is_complete.Given as goal

abbrev pub invariant-bounds : goal.invariant-bounds
invariant-bounds l = fewest l.cells (drop l.bound-index l.bounds) ≡ fewest (cells_at_least l.sizes l.ty) l.bounds
