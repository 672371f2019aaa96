use Rattle.std.proofs.Common.{List, sym, subst}
use Rattle.xc_lex.specs.declared.macros.Macro.{Macro}
use Rattle.xc_lex.specs.Numbering.{number_in}
use Rattle.xc_lex.specs.State.{AreNumbered}
use Rattle.xc_lex.proofs.Lookups.{AreNumbered-push}
use Rattle.xc_lex.proofs.macros.Macros.define.Goals as goal

pub returns-clause-numbered : goal.returns-clause-numbered
returns-clause-numbered c =
    let source = c.args.source.now in
    let named = c.in_ok-insert.ensures.named in
    let given = rw c.of.ensures at named in
    let more = AreNumbered-push source c.args.self.now.entries.items (record { name = c.args.name; body = c.args.body }) (number_in c.args.self.now.numbers) (number_in c.insert.new.self) c.in_ok-insert.ensures.others given c.requires in
    subst (λ (ms : List Macro). AreNumbered source ms (number_in c.insert.new.self)) (sym c.in_ok-push.ensures.items) more
