use Rattle.xc_type_initialiser_objects.proofs.Laying.{filled_next}
use Rattle.xc_type_initialiser_objects.proofs.cells.initialised.Goals as goal

pub words-preserved : goal.words-preserved
words-preserved c =
    let next = filled_next c.words.laid c.words.at c.args.words.now c.words.word-index c.words-test.true in
    cc (next, c.in_ok-put.ensures, c.in_ok-skip.ensures, c.saturating_sub.ensures, c.from-off.ensures, c.words.invariant)
