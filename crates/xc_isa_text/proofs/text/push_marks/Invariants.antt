use Rattle.std.proofs.Common.{◌≡◌, ◌++◌, take, map}
use Rattle.std.specs.List.{AllByRecursion}
use Rattle.xc_text_lines.specs.Grammar.{with_feeds}
use Rattle.xc_isa_text.specs.Texts.{mark_line, IsMark}
use Rattle.xc_isa_text.proofs.text.push_marks.Given as goal

abbrev pub invariant-loop-mark : goal.invariant-loop-mark
invariant-loop-mark l = record {
  lines : l.out.items ≡ l.initial.out.items ++ with_feeds (map mark_line (take l.mark-index l.marks));
  fit : AllByRecursion IsMark (take l.mark-index l.marks);
}
