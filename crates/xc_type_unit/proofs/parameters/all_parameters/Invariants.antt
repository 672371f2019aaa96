use Rattle.std.proofs.Common.{◌≡◌, ◌++◌, drop, map}
use Rattle.xc_type_rule.specs.Least.{least_from}
use Rattle.xc_type_scopes.specs.Judge.{each}
use Rattle.xc_type_unit.specs.Parameters.{parameter}
use Rattle.xc_type_unit.proofs.parameters.all_parameters.Given as goal

abbrev pub invariant-nodes : goal.invariant-nodes
invariant-nodes l =
    let rest = each (map (parameter l.text) (drop l.node-index l.nodes)) l.env in
    let whole = each (map (parameter l.text) l.nodes) l.initial.env in
    record { env : rest.env ≡ whole.env; part : l.all ++ rest.part ≡ whole.part; first : least_from l.first rest.faults ≡ least_from l.initial.first whole.faults }
