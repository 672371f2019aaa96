use Rattle.std.proofs.Common.{◌≤◌, ◌+◌, ◌-◌, vec_len}
use Rattle.std.specs.Io.KnownBytes.{Consumes}
use Rattle.xc_edge.specs.Counts.{Rises}
use Rattle.xc_edge.proofs.real.read_within.Given as goal

-- each byte that was taken is in the text, which is within its limit
abbrev pub invariant-loop-text : goal.invariant-loop-text
invariant-loop-text g l = record {
  consumed : Consumes (g.F.Read.remaining l.initial.file) (g.F.Read.remaining l.file) l.text.items;
  within : vec_len l.text ≤ l.limit;
  counted : Rises (vec_len l.text) l.initial.taken l.taken;
  kept : l.initial.taken ≤ l.taken;
  little : l.taken ≤ l.initial.taken + vec_len l.text;
}

abbrev pub decreases-loop-text : goal.decreases-loop-text
decreases-loop-text g l = l.limit - vec_len l.text
