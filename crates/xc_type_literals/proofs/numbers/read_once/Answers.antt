use Rattle.std.proofs.Common.{◌∙◌, sym, ap}
use Rattle.xc_lex.specs.Numbers.{number_of}
use Rattle.xc_type_literals.proofs.Kept.{are_constants}
use Rattle.xc_type_literals.proofs.numbers.read_once.Goals as goal

pub returns-in-Some-clause-number : goal.returns-in-Some-clause-number
returns-in-Some-clause-number c = c.requires (c.args.at.start, c.args.at.end) c.in-Some.number.now (sym c.in-Some.ensures.value)

pub returns-in_ok-insert-in-None-clause-known : goal.returns-in_ok-insert-in-None-clause-known
returns-in_ok-insert-in-None-clause-known c =
    let is = c.read_number-number.ensures ∙ ap number_of c.of.ensures in
    are_constants c.args.source.now (c.args.at.start, c.args.at.end) _ c.args.known.now.entries c.insert.new.self.entries is c.requires (λ p. c.in_ok-insert-in-None.ensures.updates.0 p)
