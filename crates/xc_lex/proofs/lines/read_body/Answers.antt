use Rattle.std.proofs.Common.{◌∙◌, ◌+◌, ◌++◌, ◌∷◌, [], ap, sym, drop, arith}
use Rattle.xc_lex.specs.declared.front.Front.TheVariants.{Blank, Whole}
use Rattle.xc_lex.specs.Front.{front_of}
use Rattle.xc_lex.specs.Lines.{words_from}
use Rattle.xc_lex.proofs.Scanning.{stands_at, words_blank_at, words_whole_at}
use Rattle.xc_lex.proofs.lines.read_body.Goals as goal

pub words-preserved-in-Blank : goal.words-preserved-in-Blank
words-preserved-in-Blank c =
    let source = c.args.source.now in
    let at = c.words.at in
    let moves = c.in-Blank.ensures.moves in
    let there = stands_at front_of source at c.in-Blank.n (Blank c.in-Blank.n) c.words.invariant.within c.in-Blank.ensures.value moves.1 in
    record {
      after = omega (arith, c.words.invariant.after);
      within = there.within;
      same = c.words.invariant.same ∙ words_blank_at source at c.words.words.items c.in-Blank.n there.here moves.0 there.fits;
    }

pub words-preserved : goal.words-preserved
words-preserved c =
    let source = c.args.source.now in
    let at = c.words.at in
    let moves = c.in-Whole.ensures.moves in
    let there = stands_at front_of source at c.in-Whole.n (Whole c.in-Whole.kind c.in-Whole.n) c.words.invariant.within c.in-Whole.ensures.value moves.1 in
    let next = words_whole_at source at c.words.words.items c.in-Whole.kind c.in-Whole.n there.here moves.0 there.fits in
    let pushed = c.in_ok-push-in-Whole.ensures.items in
    record {
      after = omega (arith, c.words.invariant.after);
      within = there.within;
      same = c.words.invariant.same ∙ next ∙ ap (λ t. words_from 0 (at + c.in-Whole.n) (c.words.words.items ++ t ∷ []) (drop (at + c.in-Whole.n) source)) (sym c.token_of.ensures) ∙ ap (λ ts. words_from 0 (at + c.in-Whole.n) ts (drop (at + c.in-Whole.n) source)) (sym pushed);
    }
