use Rattle.std.proofs.Common.{◌≡◌, ◌∙◌, ◌+◌, ℕ, sym, ap, rules}
use Rattle.xc_lex.specs.declared.front.Front.TheVariants.{Whole}
use Rattle.xc_lex.specs.Lines.{directive_at, pragma_at, named}
use Rattle.xc_lex.specs.State.{all_of}
use Rattle.xc_lex.specs.InnerSteps.{PragmaRead}
use Rattle.xc_lex.proofs.Directives.{DefinesAt, directive_named}
use Rattle.xc_lex.proofs.Faults.{PragmaRead-line}
use Rattle.xc_lex.proofs.lines.read_directive.Goals as goal

pub returns-in-Note-clause-ok : goal.returns-in-Note-clause-ok
returns-in-Note-clause-ok c =
    let source = c.args.source.now in
    let m = c.args.macros.now in
    let all = all_of source m.entries.items in
    let word = c.in-Whole-Name-default in
    let at = c.skip-name.result.at in
    let kind = rw word.is at word.field-0-is in
    let there : DefinesAt source (c.args.hash + 1) at word.n = record { place = c.skip-name.ensures.at; front = sym c.skip-name.ensures.front ∙ word.is ∙ ap (λ k. Whole k word.n) kind } in
    let same : directive_at source all c.args.hash ≡ pragma_at source all c.args.hash (at + word.n) =
    directive_named source all c.args.hash at word.n there ∙ ap (λ d. named d source all c.args.hash (at + word.n)) (sym c.directive_of.ensures ∙ c.in-Note.is) in
    let read = λ (end : ℕ) (p : PragmaRead source c.args.hash (at + word.n) end c.args.tokens.now.items c.read_pragma.new.tokens.items).
    PragmaRead-line source (directive_at source all c.args.hash) c.args.tokens.now.items c.read_pragma.new.tokens.items c.args.hash (at + word.n) end m.entries.items m.opened.items m.made.items same c.requires.idle c.requires.fits p in
    search (rules, read)
