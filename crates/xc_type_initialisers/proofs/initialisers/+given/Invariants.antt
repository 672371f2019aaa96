use Rattle.std.proofs.Common.{◌≡◌, drop, map}
use Rattle.xc_type_rule.specs.Least.{least_from}
use Rattle.xc_type_initialiser_objects.specs.Inits.{and_also}
use Rattle.xc_type_initialisers.specs.Initialisers.{initialiser, in_turn}
use Rattle.xc_type_initialisers.proofs.initialisers.+given.Given as goal

-- the initialisers to come give what all give
abbrev pub invariant-in_turn-nodes : goal.invariant-in_turn-nodes
invariant-in_turn-nodes l =
    let rest = in_turn l.outermost l.to l.k (map (initialiser l.text) (drop l.k l.nodes)) l.env in
    let whole = in_turn l.outermost l.to 0 (map (initialiser l.text) l.nodes) l.initial.env in
    (and_also l.inits rest.part ≡ and_also l.initial.inits whole.part) × (rest.env ≡ whole.env) × (least_from l.first rest.faults ≡ least_from l.initial.first whole.faults)
