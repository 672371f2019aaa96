use Rattle.xc_parse.specs.Texts.{words_of}
use Rattle.xc_parse.proofs.Turns.{Goes, measure}
use Rattle.xc_parse.proofs.parser.parse.Given as goal

abbrev pub invariant-goals : goal.invariant-goals
invariant-goals l = Goes (words_of l.source l.tokens) l.goals.items l.nodes l.at

abbrev pub decreases-goals : goal.decreases-goals
decreases-goals l = measure (words_of l.source l.tokens) l.goals.items l.at
