use Rattle.std.proofs.Common.{refl, arith}
use Rattle.xc_commute.proofs.Halves.{order_is, count_is}
use Rattle.xc_commute.proofs.events.+part.Goals as goal

pub returns-clause-order : goal.returns-clause-order
returns-clause-order t c =
    order_is c.args.owner _ c.part-first.result c.part-second.result c.args.events.now c.part-first.new.events c.part-second.new.events
    (omega arith) c.part-first.auto.events c.part-first.ensures.count c.part-first.ensures.order
    c.part-second.ensures.count c.part-second.ensures.order c.rotate_left.new.self _ refl c.rotate_left.ensures.after

pub returns-clause-count : goal.returns-clause-count
returns-clause-count t c =
    count_is c.args.owner _ c.part-first.result c.part-second.result c.args.events.now c.part-first.new.events c.part-second.new.events
    (omega arith) c.part-first.auto.events c.part-first.ensures.count c.part-first.ensures.order c.part-second.ensures.count
