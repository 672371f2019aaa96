use Rattle.std.proofs.Common.{◌≡◌, drop}
use Rattle.xc_type_unit.specs.Functions.{bodies_from, bodies_of}
use Rattle.xc_type_unit.proofs.functions.bodies_of.Given as goal

abbrev pub invariant-nodes : goal.invariant-nodes
invariant-nodes l = bodies_from l.text l.number l.bodies (drop l.node-index l.nodes) ≡ bodies_of l.text l.nodes
