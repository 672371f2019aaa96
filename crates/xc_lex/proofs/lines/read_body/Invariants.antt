use Rattle.std.proofs.Common.{◌≡◌, ◌≤◌, ◌-◌, length, drop}
use Rattle.xc_lex.specs.Lines.{words_at, words_from}
use Rattle.xc_lex.proofs.lines.read_body.Given as goal

abbrev pub invariant-words : goal.invariant-words
invariant-words l = record {
  after : l.start ≤ l.at;
  within : l.at ≤ length l.source;
  same : words_at l.source l.start ≡ words_from 0 l.at l.words.items (drop l.at l.source);
}

abbrev pub decreases-words : goal.decreases-words
decreases-words l = length l.source - l.at
