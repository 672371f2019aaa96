use Rattle.std.proofs.Common.{◌≡◌, ◌-◌, ◌≤◌, [], length, take}
use Rattle.xc_edge.specs.Gained.{gained}
use Rattle.xc_edge.proofs.sink.put_all.Given as goal

-- what was put so far is written, and no put failed
abbrev pub invariant-loop-put : goal.invariant-loop-put
invariant-loop-put g l = record {
  within : l.put ≤ length l.text;
  written : g.S.Sink.written l.sink ≡ gained (g.S.Sink.written l.initial.sink) (take l.put l.text);
  no_fault : g.S.Sink.faults l.sink ≡ g.S.Sink.faults l.initial.sink;
  at_start : l.text ≡ [] → l.sink ≡ l.initial.sink;
}

abbrev pub decreases-loop-put : goal.decreases-loop-put
decreases-loop-put g l = length l.text - l.put
