use Rattle.std.proofs.Common.{◌+◌, ◌∙◌, sym, ap, drop, arith}
use Rattle.std.specs.Prelude.{None}
use Rattle.xc_type_pragmas.specs.Words.{words_in}
use Rattle.xc_type_pragmas.proofs.words.skip.Goals as goal
use Rattle.xc_type_pragmas.proofs.Spelling.{skips}

pub bytes-preserved : goal.bytes-preserved
bytes-preserved c = record {
  after = omega arith;
  same = ap (λ m. words_in m None (c.bytes.at + 1) (drop (c.bytes.at + 1) c.args.text.now)) c.mode_behind-mode.ensures
      ∙ (skips c.args.text.now c.bytes.mode c.bytes.at c.bytes-test.true (sym c.is_apart_at.ensures ∙ c.if-not-is_apart_at.false) ∙ c.bytes.invariant.same);
}
