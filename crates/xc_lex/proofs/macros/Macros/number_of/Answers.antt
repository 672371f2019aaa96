use Rattle.std.proofs.Common.{◌≡◌, ◌∙◌, length, ap, arith, rules}
use Rattle.xc_lex.specs.declared.token.TokenKind.TheVariants.{Name}
use Rattle.xc_lex.specs.Macros.{bytes_of}
use Rattle.xc_lex.specs.State.{index_of}
use Rattle.xc_lex.proofs.Expansion.{replacement_name}
use Rattle.xc_lex.proofs.Lookups.{body_of-absent}
use Rattle.xc_lex.proofs.macros.Macros.number_of.Goals as goal

pub returns-else-i-len : goal.returns-else-i-len
returns-else-i-len c = λ opened.
    let source = c.args.source.now in
    let entries = c.args.self.now.entries.items in
    let name = bytes_of source c.args.word.text in
    let kind : c.args.word.kind ≡ Name = search rules in
    let found : c.find-i.result ≡ index_of source entries name = c.find-i.ensures.value ∙ ap (index_of source entries) c.of.ensures in
    let absent : index_of source entries name ≡ length entries = omega (arith, found, c.len.ensures, c.find-i.ensures.within, c.if-i-len.false, c.args.self.now.entries.ok.0) in
    replacement_name source _ c.args.word kind ∙ body_of-absent source entries opened name absent
