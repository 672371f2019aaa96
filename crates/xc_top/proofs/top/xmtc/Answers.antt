use Rattle.std.proofs.Common.{inl, inr, refl, subst}
use Rattle.xc_top.specs.Seen.{sink_seen, Puts}
use Rattle.xc_top.proofs.Running.{runs_to_end}
use Rattle.xc_top.proofs.top.xmtc.Goals as goal

pub returns-in-Ok-clause-tells : goal.returns-in-Ok-clause-tells
returns-in-Ok-clause-tells g c = inr (c.in-Ok.plan.status, c.in-Ok.plan.out.items, c.in-Ok.plan.err.items, c.in-Ok.ensures.plan, c.write_plan.ensures)

pub returns-in-Err-clause-tells : goal.returns-in-Err-clause-tells
returns-in-Err-clause-tells g c =
    let err = sink_seen g.E.Sink.written g.E.Sink.faults c.args.err.now c.put_some.new.sink in
    inl (refl, c.in-Err.ensures.fetched, (refl, refl), subst (λ t. Puts t err) c.as_bytes.ensures.value c.put_some.ensures)

pub returns-in-Ok-clause-completes : goal.returns-in-Ok-clause-completes
returns-in-Ok-clause-completes g c = λ tree r. runs_to_end _ _ _ _ _ (returns-in-Ok-clause-tells g c) tree r

pub returns-in-Err-clause-completes : goal.returns-in-Err-clause-completes
returns-in-Err-clause-completes g c = λ tree r. runs_to_end _ _ _ _ _ (returns-in-Err-clause-tells g c) tree r
