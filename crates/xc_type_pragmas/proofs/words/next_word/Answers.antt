use Rattle.std.proofs.Common.{◌∙◌, sym}
use Rattle.xc_type_pragmas.proofs.words.next_word.Goals as goal
use Rattle.xc_type_pragmas.proofs.Spelling.{begins}

pub returns : goal.returns
returns c = record {
  words = sym c.skip-mode.ensures.same
      ∙ (begins c.args.text.now c.skip-mode.result.mode c.skip-mode.result.at c.if-at-text.false (c.skip-mode.ensures.word c.if-at-text.false)
      ∙ (sym c.word_end-end.ensures.same ∙ c.behind.ensures c.skip-mode.result.at));
}
