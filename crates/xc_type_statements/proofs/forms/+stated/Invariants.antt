use Rattle.std.proofs.Common.{◌≡◌, drop, map}
use Rattle.xc_type_rule.specs.Least.{least_from}
use Rattle.xc_type_statement_parts.specs.Making.{followed}
use Rattle.xc_type_statements.specs.Stated.{in_order, statement}
use Rattle.xc_type_statements.proofs.forms.+stated.Given as goal

-- what is made so far, and what the nodes that are left make, is what all make
abbrev pub invariant-in_order-nodes : goal.invariant-in_order-nodes
invariant-in_order-nodes l =
    let rest = in_order l.answer l.looping (map (statement l.text) (drop l.node-index l.nodes)) l.env in
    let whole = in_order l.answer l.looping (map (statement l.text) l.nodes) l.initial.env in
    (followed l.all rest.part ≡ whole.part) × (rest.env ≡ whole.env) × (least_from l.first rest.faults ≡ least_from l.initial.first whole.faults)
