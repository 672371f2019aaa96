use Rattle.std.proofs.Common.{◌≡◌, drop}
use Rattle.xc_type_rule.specs.Least.{least_from}
use Rattle.xc_type_statement_parts.specs.Making.{followed}
use Rattle.xc_type_statement_parts.specs.Declarations.{declares_all}
use Rattle.xc_type_statement_parts.proofs.declarations.declares_all.Given as goal

abbrev pub invariant-nodes : goal.invariant-nodes
invariant-nodes l =
    let rest = declares_all l.text l.base (drop l.node-index l.nodes) l.env in
    let whole = declares_all l.text l.base l.nodes l.initial.env in
    (followed l.all rest.part ≡ whole.part) × (rest.env ≡ whole.env) × (least_from l.first rest.faults ≡ least_from l.initial.first whole.faults)
