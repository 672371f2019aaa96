use Rattle.std.proofs.Common.{◌∙◌, arith}
use Rattle.xc_lex.specs.declared.front.Front.TheVariants.{Blank}
use Rattle.xc_lex.specs.InnerSteps.{front_in}
use Rattle.xc_lex.proofs.Scanning.{stands_at, blanks_blank_at}
use Rattle.xc_lex.proofs.lines.skip.Goals as goal

pub blanks-preserved : goal.blanks-preserved
blanks-preserved c =
    let source = c.args.source.now in
    let at = c.blanks.at in
    let moves = c.in-Blank.ensures.moves in
    let there = stands_at (front_in c.args.part) source at c.in-Blank.n (Blank c.in-Blank.n) c.blanks.invariant.within c.in-Blank.ensures.value moves.1 in
    record {
      after = omega (arith, c.blanks.invariant.after);
      within = there.within;
      same = c.blanks.invariant.same ∙ blanks_blank_at (front_in c.args.part) source at c.in-Blank.n there.here moves.0 there.fits;
    }
