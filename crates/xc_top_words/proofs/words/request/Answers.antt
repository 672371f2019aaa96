use Rattle.std.proofs.Common.{ap, ◌∙◌}
use Rattle.clap.specs.Words.{is_simple, is_simple_and_free}
use Rattle.xc_top_words.proofs.LineLemmas.{run_line_is_free, run_line_is_simple}
use Rattle.xc_top_words.proofs.words.request.Goals as goal

pub parse-requires-clause-simple : goal.parse-requires-clause-simple
parse-requires-clause-simple c = ap is_simple c.in_ok-run_line.ensures ∙ run_line_is_simple

pub parse-requires-clause-free : goal.parse-requires-clause-free
parse-requires-clause-free c = ap is_simple_and_free c.in_ok-run_line.ensures ∙ run_line_is_free
