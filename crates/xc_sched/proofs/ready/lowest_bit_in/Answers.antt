use Rattle.std.proofs.Common.{sym, ◌∙◌, arith}
use Rattle.xc_sched.proofs.ReadyLemmas.{lowest_found, lowest_past}
use Rattle.xc_sched.proofs.ready.lowest_bit_in.Goals as goal

pub returns-then-words-i-ne0 : goal.returns-then-words-i-ne0
returns-then-words-i-ne0 c = sym (lowest_found c.loop-i.i c.args.words.now (omega arith) (omega (arith, c.type_inv.words c.loop-i.i)) (omega arith)) ∙ c.loop-i.invariant

pub loop-i-preserved : goal.loop-i-preserved
loop-i-preserved c = sym (lowest_past c.loop-i.i c.args.words.now (omega arith) (omega arith)) ∙ c.loop-i.invariant
