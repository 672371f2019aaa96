use Rattle.std.proofs.Common.{◌≡◌, ◌++◌, drop, map}
use Rattle.xc_type_rule.specs.Least.{least_from}
use Rattle.xc_type_expressions.specs.Roles.{values}
use Rattle.xc_type_expressions.specs.Types.{tags, members, declared_all, bounds}
use Rattle.xc_type_expressions.specs.Judged.{judged}
use Rattle.xc_type_expressions.proofs.judge.+judge.Given as goal

-- what is found so far, and what is found of the nodes that are left, is what is found of all
abbrev pub invariant-values-loop-node : goal.invariant-values-loop-node
invariant-values-loop-node l =
    let rest = values (map (judged l.text) (drop l.node-index l.nodes)) l.env in
    let whole = values (map (judged l.text) l.nodes) l.initial.env in
    (l.all.items ++ rest.part ≡ whole.part) × (rest.env ≡ whole.env) × (least_from l.first rest.faults ≡ least_from l.initial.first whole.faults)

abbrev pub invariant-tagged_all-loop-node : goal.invariant-tagged_all-loop-node
invariant-tagged_all-loop-node l =
    let rest = tags (map (judged l.text) (drop l.node-index l.nodes)) l.env in
    let whole = tags (map (judged l.text) l.nodes) l.initial.env in
    (l.all.items ++ rest.part ≡ whole.part) × (rest.env ≡ whole.env) × (least_from l.first rest.faults ≡ least_from l.initial.first whole.faults)

abbrev pub invariant-bounds_found-loop-node : goal.invariant-bounds_found-loop-node
invariant-bounds_found-loop-node l =
    let rest = bounds (map (judged l.text) (drop l.node-index l.nodes)) l.env in
    let whole = bounds (map (judged l.text) l.nodes) l.initial.env in
    (l.all.items ++ rest.part ≡ whole.part) × (rest.env ≡ whole.env) × (least_from l.first rest.faults ≡ least_from l.initial.first whole.faults)

abbrev pub invariant-members-loop-node : goal.invariant-members-loop-node
invariant-members-loop-node l =
    let rest = members (map (judged l.text) (drop l.node-index l.nodes)) l.env in
    let whole = members (map (judged l.text) l.nodes) l.initial.env in
    (rest.env ≡ whole.env) × (least_from l.first rest.faults ≡ least_from l.initial.first whole.faults)

abbrev pub invariant-declared_all-loop-node : goal.invariant-declared_all-loop-node
invariant-declared_all-loop-node l =
    let rest = declared_all l.ty (map (judged l.text) (drop l.node-index l.nodes)) l.env in
    let whole = declared_all l.ty (map (judged l.text) l.nodes) l.initial.env in
    (rest.env ≡ whole.env) × (least_from l.first rest.faults ≡ least_from l.initial.first whole.faults)
