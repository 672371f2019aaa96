use Rattle.std.proofs.Common.{◌∙◌}
use Rattle.clap.specs.Words.{found_of}
use Rattle.clap.proofs.WalkLemmas.{first_value-rows}
use Rattle.xc_top_words.specs.Words.{value_in}
use Rattle.xc_top_words.proofs.line.value.Goals as goal

pub returns : goal.returns
unfolding value_in
returns c = c.get_str.ensures ∙ first_value-rows (found_of c.args.matches.now) c.args.name.now
