use Rattle.std.proofs.Common.{◌≡◌, ◌≤◌, ◌-◌, length, drop}
use Rattle.std.specs.Prelude.{None}
use Rattle.xc_type_pragmas.specs.Words.{words_in, words_from}
use Rattle.xc_type_pragmas.proofs.words.skip.Given as goal

abbrev pub invariant-bytes : goal.invariant-bytes
invariant-bytes l = record {
  after : l.fn.from.at ≤ l.at;
  same : words_in l.mode None l.at (drop l.at l.text) ≡ words_from l.text l.fn.from;
}

abbrev pub decreases-bytes : goal.decreases-bytes
decreases-bytes l = length l.text - l.at
