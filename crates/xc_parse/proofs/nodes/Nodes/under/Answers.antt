use Rattle.std.proofs.Common.{◌+◌, ◌∷◌, length, sym, ap, ◌∙◌, subst}
use Rattle.std.proofs.lemmas.List.{append-nil}
use Rattle.xc_parse_grammar.specs.Grammar.{begin}
use Rattle.xc_parse_grammar.specs.Building.{spell}
use Rattle.xc_parse.specs.Nodes.{IsOpen, inside}
use Rattle.xc_parse.proofs.nodes.Nodes.under.Goals as goal

pub returns-clause-under : goal.returns-clause-under
returns-clause-under c = λ aside end f d b.
    let t = c.take-node.ensures.apart aside end f d b in
    let g = c.in_ok-begin.ensures.begun (λ k. inside (length (spell d)) k f + aside k) end d t.0.first t.1 in
    let still = c.begin.ensures.still ∙ c.take-node.ensures.still in
    c.in_ok-put_back.ensures.back aside end (length (spell d)) f (begin c.args.rule ∷ d) (ap length (sym (append-nil (spell d)))) (subst (λ w. IsOpen w (length (spell d)) f c.take-node.result) (sym still) t.0) g
