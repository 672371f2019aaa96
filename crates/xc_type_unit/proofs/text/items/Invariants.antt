use Rattle.std.proofs.Common.{◌≡◌, drop, map}
use Rattle.xc_type_rule.specs.Least.{least_from}
use Rattle.xc_type_unit.specs.Items.{in_turn}
use Rattle.xc_type_unit.specs.Texts.{item}
use Rattle.xc_type_unit.proofs.text.items.Given as goal

abbrev pub invariant-nodes : goal.invariant-nodes
invariant-nodes l =
    let rest = in_turn (map (item l.text l.bodies) (drop l.node-index l.nodes)) l.scope in
    let whole = in_turn (map (item l.text l.bodies) l.nodes) l.initial.scope in
    record { scope : rest.scope ≡ whole.scope; first : least_from l.first rest.faults ≡ least_from l.initial.first whole.faults }
