use Rattle.std.proofs.Common.{◌≢◌, get_or, sym, ◌∙◌, arith}
use Rattle.std.proofs.lemmas.Grind.{common_steps}
use Rattle.xc_text_lines.proofs.Signs.{signed_plain}
use Rattle.xc_text_lines.proofs.numbers.signed_number.Goals as goal
use Rattle.xc_text_lines.proofs.numbers.signed_number.Goals.{in_default-via-then-word-lt1, in_default-via-else-word-lt1+in_default-1}

pub returns-in_default : goal.returns-in_default
returns-in_default c =
    let other : get_or c.args.word.now 0 0 ≢ 45 =
    elim c.in_default.branch [ in_default-via-then-word-lt1 w ↦ grind (arith, common_steps) | in_default-via-else-word-lt1+in_default-1 w ↦ grind (arith, common_steps) ] in
    c.not_negative.ensures ∙ sym (signed_plain c.args.word.now other)
