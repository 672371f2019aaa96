use Rattle.std.proofs.Common.{◌≡◌, ◌+◌, length}
use Rattle.std.specs.Prelude.{count_by}
use Rattle.xc_text_lines.specs.Lines.{is_feed, pieces, read_pieces}
use Rattle.xc_text_lines.proofs.lines.read_lines.Given as goal

-- what is left gives what the whole text gives
abbrev pub invariant-loop-line : goal.invariant-loop-line
invariant-loop-line g l =
    let read = read_pieces g.R.LineReader.next g.R.LineReader.whole in
    record {
      same : read l.reader l.number (pieces l.rest) ≡ read l.fn.reader 1 (pieces l.text);
      count : l.number + count_by is_feed l.rest ≡ count_by is_feed l.text + 1;
    }

abbrev pub decreases-loop-line : goal.decreases-loop-line
decreases-loop-line g l = length l.rest
