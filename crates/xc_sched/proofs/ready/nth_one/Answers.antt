use Rattle.std.proofs.Common.{sym, ◌∙◌, arith}
use Rattle.xc_sched.proofs.ReadyLemmas.{nth_found, nth_past}
use Rattle.xc_sched.proofs.ready.nth_one.Goals as goal

pub returns-then-left-ones : goal.returns-then-left-ones
returns-then-left-ones c =
    sym (nth_found c.loop-i.i c.loop-i.left c.nth_in_word.result c.args.words.now (omega arith) (omega (arith, c.type_inv.words c.loop-i.i)) (omega arith) c.nth_in_word.ensures.is) ∙ c.loop-i.invariant

pub loop-i-preserved : goal.loop-i-preserved
loop-i-preserved c = sym (nth_past c.loop-i.i c.loop-i.left c.args.words.now (omega arith) (omega (arith, c.type_inv.words c.loop-i.i)) (omega arith)) ∙ c.loop-i.invariant
