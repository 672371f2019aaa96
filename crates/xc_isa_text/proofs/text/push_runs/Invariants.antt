use Rattle.std.proofs.Common.{◌≡◌, ◌++◌, take, map}
use Rattle.std.specs.List.{AllByRecursion}
use Rattle.xc_text_lines.specs.Grammar.{with_feeds}
use Rattle.xc_isa_text.specs.Texts.{run_line, IsRun}
use Rattle.xc_isa_text.proofs.text.push_runs.Given as goal

abbrev pub invariant-loop-run : goal.invariant-loop-run
invariant-loop-run l = record {
  lines : l.out.items ≡ l.initial.out.items ++ with_feeds (map run_line (take l.run-index l.runs));
  fit : AllByRecursion IsRun (take l.run-index l.runs);
}
