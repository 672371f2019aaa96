use Rattle.std.proofs.Common.{◌≡◌, ◌<◌, ◌∙◌, sym, subst, true, ℕ, arith, length}
use Rattle.xc_lex.specs.Macros.{bytes_of}
use Rattle.xc_lex.specs.State.{is_set}
use Rattle.xc_lex.proofs.Expansion.{replacement_name}
use Rattle.xc_lex.proofs.Lookups.{body_of-opened, is_set_read}
use Rattle.xc_lex.proofs.macros.Macros.turn.Goals as goal

pub returns-then-index : goal.returns-then-index
returns-then-index c =
    let source = c.args.source.now in
    let opened = c.args.self.now.opened.items in
    let names = c.in-Some.ensures in
    let room : c.in-Some.i < length opened = omega (arith, names.within, c.requires.kept.opened_len) in
    let on : is_set opened c.in-Some.i ≡ true = sym (is_set_read opened c.in-Some.i c.index.result.now room) ∙ sym c.index.ensures ∙ c.if-index.true in
    let there = subst (λ (k : ℕ). is_set opened k ≡ true) names.index on in
    replacement_name source _ c.args.word names.kind ∙ body_of-opened source c.args.self.now.entries.items opened (bytes_of source c.args.word.text) c.requires.kept.apart there
