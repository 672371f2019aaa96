use Rattle.std.proofs.Common.{◌∙◌, sym, arith}
use Rattle.xc_type_pragmas.proofs.words.word_end.Goals as goal
use Rattle.xc_type_pragmas.proofs.Spelling.{goes_on}

pub bytes-preserved : goal.bytes-preserved
bytes-preserved c = record {
  after = omega arith;
  within = omega arith;
  same = goes_on c.args.text.now c.args.start c.bytes.at c.bytes-test.true (sym c.is_apart_at.ensures ∙ c.if-is_apart_at.false) ∙ c.bytes.invariant.same;
}
