use Rattle.std.proofs.Common.{◌∙◌, arith, rules}
use Rattle.xc_lex.specs.declared.front.Front.TheVariants.{Blank, Whole}
use Rattle.xc_lex.specs.Front.{front_of}
use Rattle.xc_lex.proofs.Scanning.{stands_at}
use Rattle.xc_lex.proofs.Reading.{SoFar-blank, SoFar-replaced, SoFar-refused}
use Rattle.xc_lex.proofs.lines.read_words.Goals as goal

pub words-preserved-in-Blank : goal.words-preserved-in-Blank
words-preserved-in-Blank c =
    let source = c.args.source.now in
    let at = c.words.at in
    let so_far = c.words.invariant in
    let moves = c.in-Blank.ensures.moves in
    let there = stands_at front_of source at c.in-Blank.n (Blank c.in-Blank.n) so_far.within c.in-Blank.ensures.value moves.1 in
    record {
      after = omega (arith, so_far.after);
      within = there.within;
      entries = so_far.entries;
      numbers = so_far.numbers;
      idle = so_far.idle;
      fits = so_far.fits;
      so_far = SoFar-blank source c.args.macros.now.entries.items c.args.start c.args.tokens.now.items at c.words.fresh c.words.tokens.items c.in-Blank.n there.here moves.0 there.fits so_far.so_far;
      few = so_far.few;
    }

pub words-preserved : goal.words-preserved
words-preserved c =
    let source = c.args.source.now in
    let entries = c.args.macros.now.entries.items in
    let at = c.words.at in
    let so_far = c.words.invariant in
    let moves = c.in-Whole.ensures.moves in
    let there = stands_at front_of source at c.in-Whole.n (Whole c.in-Whole.kind c.in-Whole.n) so_far.within c.in-Whole.ensures.value moves.1 in
    let done = c.in_ok-replace-in-Whole.ensures.ok in
    let kept = SoFar-replaced source entries c.words.macros.entries.items c.words.macros.opened.items c.replace.new.self.opened.items c.words.macros.made.items c.replace.new.self.made.items c.args.start c.args.tokens.now.items at c.words.fresh c.words.tokens.items c.replace.new.tokens.items c.in-Whole.kind c.in-Whole.n c.token_of.result
    so_far.entries c.token_of.ensures there.here moves.0 there.fits so_far.idle done so_far.so_far in
    record {
      after = omega (arith, so_far.after);
      within = there.within;
      entries = c.in_ok-replace-in-Whole.ensures.entries ∙ so_far.entries;
      numbers = c.in_ok-replace-in-Whole.ensures.numbers ∙ so_far.numbers;
      idle = kept.0;
      fits = kept.1;
      so_far = kept.2;
      few = done.few;
    }

pub returns-in_err-replace-in-Whole-clause-err : goal.returns-in_err-replace-in-Whole-clause-err
returns-in_err-replace-in-Whole-clause-err c =
    let source = c.args.source.now in
    let entries = c.args.macros.now.entries.items in
    let at = c.words.at in
    let so_far = c.words.invariant in
    let moves = c.in-Whole.ensures.moves in
    let there = stands_at front_of source at c.in-Whole.n (Whole c.in-Whole.kind c.in-Whole.n) so_far.within c.in-Whole.ensures.value moves.1 in
    let refused = SoFar-refused source entries c.words.macros.entries.items c.words.macros.opened.items c.words.macros.made.items c.args.start c.args.tokens.now.items at c.words.fresh c.words.tokens.items c.in-Whole.kind c.in-Whole.n c.token_of.result _
    so_far.entries c.token_of.ensures there.here moves.0 there.fits so_far.idle c.in_err-replace-in-Whole.ensures.err so_far.so_far in
    search (rules, refused)
