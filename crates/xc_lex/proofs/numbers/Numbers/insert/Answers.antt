use Rattle.xc_lex.proofs.NumberingLemmas.{others}
use Rattle.xc_lex.proofs.numbers.Numbers.insert.Goals as goal

pub returns-clause-others : goal.returns-clause-others
returns-clause-others c = others (λ k. k.items) c.args.self.now.map.entries c.insert.new.self.entries c.in_ok-key.key c.args.number c.in_ok-insert.ensures.updates.0
