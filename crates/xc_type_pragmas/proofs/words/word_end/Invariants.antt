use Rattle.std.proofs.Common.{◌≡◌, ◌≤◌, ◌-◌, length, drop}
use Rattle.std.specs.Prelude.{Some}
use Rattle.xc_type_pragmas.specs.declared.words.Mode.TheVariants.{Text}
use Rattle.xc_type_pragmas.specs.Words.{words_in}
use Rattle.xc_type_pragmas.proofs.words.word_end.Given as goal

abbrev pub invariant-bytes : goal.invariant-bytes
invariant-bytes l = record {
  after : l.from ≤ l.at;
  within : l.at ≤ length l.text;
  same : words_in Text (Some l.start) l.at (drop l.at l.text) ≡ words_in Text (Some l.start) l.from (drop l.from l.text);
}

abbrev pub decreases-bytes : goal.decreases-bytes
decreases-bytes l = length l.text - l.at
