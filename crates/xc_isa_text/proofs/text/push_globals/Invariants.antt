use Rattle.std.proofs.Common.{◌≡◌, ◌++◌, take}
use Rattle.std.specs.List.{AllByRecursion, flat_map}
use Rattle.xc_text_lines.specs.Grammar.{with_feeds}
use Rattle.xc_isa_text.specs.Texts.{global_lines, IsRun}
use Rattle.xc_isa_text.proofs.text.push_globals.Given as goal

abbrev pub invariant-loop-runs : goal.invariant-loop-runs
invariant-loop-runs l = record {
  lines : l.out.items ≡ l.initial.out.items ++ with_feeds (flat_map global_lines (take l.runs-index l.globals));
  fit : AllByRecursion (AllByRecursion IsRun) (take l.runs-index l.globals);
}
