use Rattle.std.proofs.Common.{◌≡◌, ◌≤◌, ◌-◌, length, drop}
use Rattle.xc_lex.specs.Lines.{blanks_from}
use Rattle.xc_lex.specs.InnerSteps.{front_in}
use Rattle.xc_lex.proofs.lines.skip.Given as goal

abbrev pub invariant-blanks : goal.invariant-blanks
invariant-blanks l = record {
  after : l.from ≤ l.at;
  within : l.at ≤ length l.source;
  same : blanks_from (front_in l.part) 0 l.from (drop l.from l.source) ≡ blanks_from (front_in l.part) 0 l.at (drop l.at l.source);
}

abbrev pub decreases-blanks : goal.decreases-blanks
decreases-blanks l = length l.source - l.at
