use Rattle.std.proofs.Common.{◌≡◌, ◌≤◌, ◌+◌, take}
use Rattle.xc_text_place.specs.Place.{line_of, column_of}
use Rattle.xc_text_place.proofs.position.Given as goal

abbrev pub invariant-loop-b : goal.invariant-loop-b
invariant-loop-b l = record {
  line : l.pos.line ≡ line_of (take l.b-index l.b-items);
  column : l.pos.col ≡ column_of (take l.b-index l.b-items);
  low_line : l.pos.line ≤ l.b-index + 1;
  low_column : l.pos.col ≤ l.b-index + 1;
}
