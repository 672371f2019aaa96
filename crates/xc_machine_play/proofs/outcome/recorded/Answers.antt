use Rattle.std.proofs.Common.{◌≡◌, sym, ap, ◌∙◌, subst, true}
use Rattle.std.specs.Prelude.{Some, None}
use Rattle.xc_sched.specs.Runs.{Spells}
use Rattle.xc_machine.specs.Machines.{state_of, code_of, limits_of, steps_of}
use Rattle.xc_machine.specs.Runs.{RunsTo}
use Rattle.xc_machine_play.specs.Plays.{IsRecord}
use Rattle.xc_machine_play.proofs.Recording.{both, unrecorded_run}
use Rattle.xc_machine_play.proofs.Playing.{ok_map, not_some, played}
use Rattle.xc_machine_play.proofs.outcome.recorded.Goals as goal

pub returns : goal.returns
returns g c =
    let m = c.args.machine.now in
    let new = c.run-end.new.self in
    let y = c.run-end.new.chooser in
    let none : y.2 ≡ None = sym c.lost.ensures ∙ not_some c.lost.result c.if-is_some.ensures in
    let run = subst (λ x. RunsTo (both g.C.Chooser.picks) (code_of m) (limits_of m) c.args.limit x (state_of m) (steps_of m) y (state_of new) (steps_of new) c.run-end.result) c.new-recorder.ensures c.run-end.ensures.run in
    let r = unrecorded_run g.C.Chooser.picks (code_of m) (limits_of m) c.args.limit c.args.chooser (state_of m) (steps_of m) y (state_of new) (steps_of new) c.run-end.result run none in
    let left = c.is_left.ensures ∙ ap g.C.Plan.has_left c.inner.ensures in
    let text = subst (Spells c.in_ok-choices.choices.items) c.taken.ensures c.in_ok-choices.ensures.spells in
    ok_map c.finish.result
    (λ o h. (
      y.1,
      subst (IsRecord true y.1) (sym h.3) text,
      played g.C.Chooser.picks g.C.Plan.has_left c.args.chooser (code_of m) (limits_of m) (state_of m) c.args.limit (steps_of m) y.0 (state_of new) (steps_of new) c.run-end.result c.is_left.result o.ending o.steps o.out.items y.1 r.0 r.1 c.requires left (sym c.why.ensures ∙ c.in-Some.is ∙ ap Some (sym h.0)) h.1 h.2,
    ))
    c.finish.ensures
