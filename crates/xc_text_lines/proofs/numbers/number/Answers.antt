use Rattle.std.proofs.Common.{◌^◌, sym, ◌∙◌}
use Rattle.xc_text_lines.proofs.Numerals.{not_plain, is_parsed, is_text}
use Rattle.xc_text_lines.proofs.numbers.number.Goals as goal

pub returns-then-not-is_plain : goal.returns-then-not-is_plain
returns-then-not-is_plain c = not_plain (2 ^ 64) c.args.word.now (sym c.is_plain.ensures ∙ c.if-not-is_plain.true)

pub returns-in-Ok : goal.returns-in-Ok
returns-in-Ok c = c.ok.ensures.value ∙ is_parsed c.args.word.now c.parse.result (rw c.in-Ok.ensures.cases.0 at c.parse.ensures.value.0) (sym c.is_plain.ensures ∙ c.if-not-is_plain.false)

pub returns-in-Err : goal.returns-in-Err
returns-in-Err c = absurd (c.in-Err.ensures.cases.0 (is_text c.args.word.now (sym c.is_plain.ensures ∙ c.if-not-is_plain.false)))
