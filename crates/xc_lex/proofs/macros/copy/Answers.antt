use Rattle.std.proofs.Common.{◌∙◌, arith}
use Rattle.xc_lex.proofs.Made.{copied_more}
use Rattle.xc_lex.proofs.macros.copy.Goals as goal

pub loop-i-preserved : goal.loop-i-preserved
loop-i-preserved c =
    let before = c.loop-i.invariant in
    let same = copied_more c.args.at c.args.tokens.now.items c.loop-i.tokens.items c.args.made.from c.loop-i.i c.index-token.result.now c.index-token.result.now before.items before.after (omega arith) c.index-token.ensures in
    record { after = omega (arith, before.after); items = c.in_ok-push.ensures.items ∙ same }
