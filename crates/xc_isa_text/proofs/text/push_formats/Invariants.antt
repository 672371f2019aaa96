use Rattle.std.proofs.Common.{◌≡◌, ◌++◌, take, map}
use Rattle.std.specs.List.{AllByRecursion}
use Rattle.xc_text_lines.specs.Grammar.{with_feeds}
use Rattle.xc_isa_text.specs.Texts.{format_line}
use Rattle.hex.specs.Hex.{IsBytes}
use Rattle.xc_isa_text.proofs.text.push_formats.Given as goal

abbrev pub invariant-loop-bytes : goal.invariant-loop-bytes
invariant-loop-bytes l = record {
  lines : l.out.items ≡ l.initial.out.items ++ with_feeds (map format_line (take l.bytes-index l.formats));
  fit : AllByRecursion IsBytes (take l.bytes-index l.formats);
}
