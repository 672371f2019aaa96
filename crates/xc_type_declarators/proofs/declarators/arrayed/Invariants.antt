use Rattle.std.proofs.Common.{◌≡◌, ◌≤◌, take, length}
use Rattle.xc_type_declarators.specs.Declarators.{arrayed}
use Rattle.xc_type_declarators.proofs.declarators.arrayed.Given as goal

abbrev pub invariant-bounds : goal.invariant-bounds
invariant-bounds l = (l.left ≤ length l.bounds) × (arrayed (take l.left l.bounds) l.ty ≡ arrayed l.bounds l.fn.of)

abbrev pub decreases-bounds : goal.decreases-bounds
decreases-bounds l = l.left
