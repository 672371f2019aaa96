use Rattle.std.proofs.Common.{◌∷◌}
use Rattle.xc_raw.specs.declared.rule.Rule.TheVariants as rule
use Rattle.xc_parse_grammar.specs.Grammar.{begin}
use Rattle.xc_parse.specs.Nodes.{nowhere}
use Rattle.xc_parse.proofs.nodes.Nodes.specify.Goals as goal

pub returns : goal.returns
returns c = λ end q d b. c.in_ok-retitle.ensures.titled nowhere end q (begin rule.Declaration ∷ d) (c.in_ok-under.ensures.under nowhere end q d b)
