use Rattle.std.proofs.Common.{rules, arith}
use Rattle.xc_gen.proofs.Emitting.{before_more}
use Rattle.xc_gen.proofs.frame.+waiting.Goals as goal

pub waiting_among-overflow_add-before : goal.waiting_among-overflow_add-before
waiting_among-overflow_add-before t c =
    let more = before_more c.args.args.now c.loop-arg.arg-index c.loop-arg.before (search rules) in
    grind (arith, more)
