use Rattle.std.proofs.Common.{◌%◌, ◌/◌, get_or, sym, ◌∙◌, arith}
use Rattle.xc_sched.proofs.ReadyLemmas.{lowest_none, lowest_high, lowest_low, high_near}
use Rattle.xc_sched.proofs.ready.lowest_bit_from.Goals as goal

pub returns-then-first-words : goal.returns-then-first-words
returns-then-first-words c = sym (lowest_none c.args.s c.args.words.now (omega arith))

pub overflow_add-result : goal.overflow_add-result
overflow_add-result c = let near = high_near (c.args.s % 64) (get_or c.args.words.now (c.args.s / 64) 0) (omega arith) (omega (arith, c.type_inv.words (c.args.s / 64))) (omega arith) in omega arith

pub returns-then-high-ne0 : goal.returns-then-high-ne0
returns-then-high-ne0 c = sym (lowest_high c.args.s c.args.words.now (omega arith) (omega (arith, c.type_inv.words (c.args.s / 64))) (omega arith))

pub returns : goal.returns
returns c = c.lowest_bit_in.ensures ∙ sym (lowest_low c.args.s c.args.words.now (omega arith) (omega arith))
