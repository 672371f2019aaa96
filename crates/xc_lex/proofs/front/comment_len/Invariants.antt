use Rattle.std.proofs.Common.{◌≡◌, ◌≤◌, ◌-◌, length, drop}
use Rattle.xc_lex.specs.Front.{close_from}
use Rattle.xc_lex.proofs.front.comment_len.Given as goal

abbrev pub invariant-bytes : goal.invariant-bytes
invariant-bytes l = record {
  within : l.i ≤ length l.rest;
  same : close_from 0 l.rest ≡ close_from l.i (drop l.i l.rest);
}

abbrev pub decreases-bytes : goal.decreases-bytes
decreases-bytes l = length l.rest - l.i
