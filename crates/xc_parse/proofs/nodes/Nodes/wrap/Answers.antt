use Rattle.std.proofs.Common.{◌++◌, length, sym, ap, ◌∙◌}
use Rattle.std.proofs.lemmas.List.{append-nil}
use Rattle.xc_parse_grammar.specs.Grammar.{begin, leaves}
use Rattle.xc_parse_grammar.specs.Building.{spell}
use Rattle.xc_parse.proofs.nodes.Nodes.wrap.Goals as goal

pub returns-clause-wrapped : goal.returns-clause-wrapped
returns-clause-wrapped c = λ aside last f d ends fits b.
    c.in_ok-join.ensures.joined aside last f (begin c.args.rule) d (ends ∙ ap (λ ws. length (ws ++ leaves f)) (sym (append-nil (spell d)))) fits (c.in_ok-under.ensures.under aside last f d b)
