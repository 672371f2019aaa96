use Rattle.std.proofs.Common.{◌≡◌, take, map}
use Rattle.xc_type_expressions.specs.Calls.{spans_of}
use Rattle.xc_type_expressions.specs.Judged.{judged}
use Rattle.xc_type_expressions.proofs.calls.spans_of.Given as goal

abbrev pub invariant-loop-node : goal.invariant-loop-node
invariant-loop-node l = l.spans ≡ spans_of (map (judged l.text) (take l.node-index l.nodes))
