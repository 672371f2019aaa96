use Rattle.std.proofs.Common.{◌≡◌, ◌<◌, ◌∙◌, length, get_or, ap, sym, arith}
use Rattle.std.proofs.lemmas.Slice.Eq.{bytes_eq-Decides}
use Rattle.xc_lex.specs.Macros.{bytes_of}
use Rattle.xc_lex.specs.Numbering.{number_in}
use Rattle.xc_lex.proofs.Lookups.{index_of-numbered, index_of-unnumbered}
use Rattle.xc_lex.proofs.macros.Macros.find.Goals as goal

pub returns-then-eq-clause-value : goal.returns-then-eq-clause-value
returns-then-eq-clause-value c =
    let source = c.args.source.now in
    let entries = c.args.self.now.entries.items in
    let same : bytes_of source (get_or entries c.in-Some.number c.index-entry.result.now).name ≡ c.args.name.now =
    ap (λ m. bytes_of source m.name) (sym c.index-entry.ensures) ∙ sym c.of.ensures ∙ (bytes_eq-Decides c.of.result.now c.args.name.now).0 (sym c.if-eq.ensures) in
    let within : c.in-Some.number < length entries = omega arith in
    sym (index_of-numbered source entries c.in-Some.number c.index-entry.result.now c.args.name.now c.requires.apart within same)

pub returns-in-None-clause-value : goal.returns-in-None-clause-value
returns-in-None-clause-value c =
    let source = c.args.source.now in
    let none = c.in-None.ensures in
    let absent = index_of-unnumbered source c.args.self.now.entries.items (number_in c.args.self.now.numbers) c.args.name.now c.requires.numbered (sym none) in
    omega (arith, c.len.ensures, absent, c.args.self.now.entries.ok.0)
