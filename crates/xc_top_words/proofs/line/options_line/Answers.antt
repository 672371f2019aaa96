use Rattle.std.proofs.Common.{arith}
use Rattle.xc_top_words.proofs.LineLemmas.{option_added, options_added}
use Rattle.xc_top_words.proofs.line.options_line.Goals as goal

pub loop-name-preserved : goal.loop-name-preserved
loop-name-preserved c = option_added c.loop-name.line c.in_ok-line.line c.option.result _ c.loop-name.name-index _ (omega arith) c.loop-name.invariant c.option.ensures.rule c.option.ensures.local c.in_ok-line.ensures

pub returns : goal.returns
returns c = options_added c.loop-name.line _ c.loop-name.name-index (omega arith) c.loop-name.invariant
