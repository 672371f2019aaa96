use Rattle.std.proofs.Common.{◌≡◌, ◌≤◌, length, drop, max, map}
use Rattle.xc_lex.specs.Front.{longest_of}
use Rattle.xc_lex.proofs.front.longest_in.Given as goal

abbrev pub invariant-loop-p : goal.invariant-loop-p
invariant-loop-p l = record {
  within : l.best ≤ length l.rest;
  value : longest_of (map (λ p. p.now) l.table) l.rest ≡ max l.best (longest_of (map (λ p. p.now) (drop l.p-index l.table)) l.rest);
}
