use Rattle.std.proofs.Common.{◌∙◌}
use Rattle.xc_type_initialisers.specs.Initialisers.{initialiser}
use Rattle.xc_type_initialisers.proofs.Turns.{turn_env, turn_part, turn_faults}
use Rattle.xc_type_initialisers.proofs.initialisers.+given.Goals as goal

pub in_turn-nodes-preserved : goal.in_turn-nodes-preserved
in_turn-nodes-preserved t c =
    let J = initialiser c.args.text.now in
    let o = c.args.outermost in
    let to = c.args.to.now in
    let xs = c.args.nodes.now in
    let k = c.nodes.k in
    let x = c.index-nodes-k.result in
    let lt = c.nodes-test.true in
    let at = c.index-nodes-k.is in
    let e = c.nodes.env in
    let behind = c.one_of.new.env in
    let given = c.in_ok-one_of.ensures in (
      turn_part J o to xs k x lt at e behind given.1 c.nodes.inits c.one_of.new.inits given.0 ∙ c.nodes.invariant.0,
      turn_env J o to xs k x lt at e behind given.1 ∙ c.nodes.invariant.1,
      turn_faults J o to xs k x lt at e behind given.1 c.nodes.first c.one_of.new.first given.2 ∙ c.nodes.invariant.2,
    )
