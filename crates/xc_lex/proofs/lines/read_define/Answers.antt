use Rattle.std.proofs.Common.{◌∙◌, [], sym, ap, refl, rules}
use Rattle.std.specs.List.{slice_range}
use Rattle.xc_lex.specs.declared.front.Front.TheVariants.{Whole}
use Rattle.xc_lex.proofs.Directives.{DefinesAt, define_read, define_known, define_stops, DirectiveRead-at}
use Rattle.xc_lex.proofs.lines.read_define.Goals as goal

pub returns-in_err-body-in-Whole-Name-default-clause-err : goal.returns-in_err-body-in-Whole-Name-default-clause-err
returns-in_err-body-in-Whole-Name-default-clause-err c =
    let source = c.args.source.now in
    let named = c.in-Whole-Name-default in
    let at = c.skip-name.result.at in
    let kind = rw named.is at named.field-0-is in
    let there : DefinesAt source c.args.from at named.n = record { place = c.skip-name.ensures.at; front = sym c.skip-name.ensures.front ∙ named.is ∙ ap (λ k. Whole k named.n) kind } in
    let new = c.if-is_new.ensures.0 refl in
    let stops = define_stops source c.args.macros.now.entries.items c.args.hash c.args.from at named.n _ there new c.in_err-body-in-Whole-Name-default.ensures.err in
    search (rules, stops)

pub returns-in_ok-define-in-Whole-Name-default-clause-ok : goal.returns-in_ok-define-in-Whole-Name-default-clause-ok
returns-in_ok-define-in-Whole-Name-default-clause-ok c =
    let source = c.args.source.now in
    let named = c.in-Whole-Name-default in
    let at = c.skip-name.result.at in
    let kind = rw named.is at named.field-0-is in
    let there : DefinesAt source c.args.from at named.n = record { place = c.skip-name.ensures.at; front = sym c.skip-name.ensures.front ∙ named.is ∙ ap (λ k. Whole k named.n) kind } in
    let new = c.if-is_new.ensures.0 refl in
    let body = c.in_ok-body-in-Whole-Name-default in
    let bytes = ap (λ t. slice_range source t.text.start t.text.end) c.token_of.ensures in
    let done = define_read source c.args.macros.now.entries.items c.args.macros.now.opened.items c.args.macros.now.made.items c.args.hash c.args.from at named.n body.body.at
    (record { name = c.token_of.result.text; body = body.body.words }) there new body.ensures.ok bytes c.requires.idle in
    let pushed = c.in_ok-define-in-Whole-Name-default.ensures in
    DirectiveRead-at source _ [] body.body.at _ _ _ _ _ _ pushed.entries pushed.opened pushed.made done

pub returns-else-is_new-clause-err : goal.returns-else-is_new-clause-err
returns-else-is_new-clause-err c =
    let source = c.args.source.now in
    let named = c.in-Whole-Name-default in
    let at = c.skip-name.result.at in
    let kind = rw named.is at named.field-0-is in
    let there : DefinesAt source c.args.from at named.n = record { place = c.skip-name.ensures.at; front = sym c.skip-name.ensures.front ∙ named.is ∙ ap (λ k. Whole k named.n) kind } in
    define_known source c.args.macros.now.entries.items c.args.hash c.args.from at named.n there (λ same. let yes = c.if-is_new.ensures.1 same in cc)
