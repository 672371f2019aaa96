use Rattle.std.proofs.Common.{◌^◌, ◌≤◌, length, sym, subst}
use Rattle.std.specs.Prelude.{IfOk}
use Rattle.std.specs.List.{All}
use Rattle.xc_lex.specs.Source.{IsSpelled}
use Rattle.xc_parse.specs.Texts.{words_of, Parsed}
use Rattle.xc_type.specs.Checked.{IsTree}
use Rattle.xc_type.proofs.Faults.{trees_of}
use Rattle.xc_type.proofs.Trees.{typed_whole, all_small}
use Rattle.xc_type.proofs.checker.check.Goals as goal

pub returns-clause-tree : goal.returns-clause-tree
returns-clause-tree c = subst (λ ts. IfOk c.made.result (IsTree c.args.source.now ts c.args.raw)) c.as_slice-tokens.ensures
    (trees_of c.args.source.now c.as_slice-tokens.result.now c.args.raw c.in_ok-whole.whole c.in_ok-texts.texts.formats c.made.result c.in_ok-whole.ensures.whole c.in_ok-texts.ensures.formats c.made.ensures.tree)

pub returns-clause-small : goal.returns-clause-small
returns-clause-small c =
    let same = sym c.as_slice-tokens.ensures in
    let tokens = c.as_slice-tokens.result.now in
    all_small c.args.source.now tokens c.args.raw c.made.result
    (subst (λ ts. length ts ≤ 2 ^ 20) same c.requires.few)
    (subst (λ ts. Parsed (words_of c.args.source.now ts) c.args.raw) same c.requires.parsed)
    (trees_of c.args.source.now tokens c.args.raw c.in_ok-whole.whole c.in_ok-texts.texts.formats c.made.result c.in_ok-whole.ensures.whole c.in_ok-texts.ensures.formats c.made.ensures.tree)

pub made-requires : goal.made-requires
made-requires c =
    let same = sym c.as_slice-tokens.ensures in
    typed_whole c.args.source.now c.as_slice-tokens.result.now c.args.raw c.in_ok-whole.whole c.in_ok-texts.texts.formats
    (subst (λ ts. length ts ≤ 2 ^ 20) same c.requires.few)
    (subst (λ ts. All (IsSpelled c.args.source.now) ts) same c.requires.spelled)
    (subst (λ ts. Parsed (words_of c.args.source.now ts) c.args.raw) same c.requires.parsed)
    c.in_ok-whole.ensures.whole c.in_ok-texts.ensures.formats
