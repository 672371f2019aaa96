use Rattle.std.proofs.Common.{◌≡◌, drop}
use Rattle.xc_type_rule.specs.Least.{least_from}
use Rattle.xc_type_statement_parts.specs.Futures as spec
use Rattle.xc_type_statement_parts.proofs.futures.reached.Given as goal

abbrev pub invariant-steps : goal.invariant-steps
invariant-steps l =
    let left = spec.reached l.text l.at l.found (drop l.step-index l.steps) l.rest l.env in
    let whole = spec.reached l.text l.fn.at l.fn.base l.steps l.nodes l.initial.env in
    (left.part ≡ whole.part) × (left.env ≡ whole.env) × (least_from l.first left.faults ≡ least_from l.initial.first whole.faults)
