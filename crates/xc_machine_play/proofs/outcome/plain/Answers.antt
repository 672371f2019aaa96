use Rattle.std.proofs.Common.{refl, sym, ap, ◌∙◌}
use Rattle.std.specs.Prelude.{Some}
use Rattle.xc_machine.specs.Machines.{state_of, code_of, limits_of, steps_of}
use Rattle.xc_machine.specs.Runs.{named_in}
use Rattle.xc_machine_play.proofs.Playing.{ok_map, played}
use Rattle.xc_machine_play.proofs.outcome.plain.Goals as goal

pub returns : goal.returns
returns g c =
    let m = c.args.machine.now in
    let new = c.run-end.new.self in
    let run = c.run-end.ensures.run in
    let named = named_in g.C.Chooser.picks (code_of m) (limits_of m) c.args.limit c.args.chooser (state_of m) (steps_of m) c.run-end.new.chooser (state_of new) (steps_of new) c.run-end.result run in
    ok_map c.finish.result
    (λ o h. (
      h.3,
      (
        named,
        played g.C.Chooser.picks g.C.Plan.has_left c.args.chooser (code_of m) (limits_of m) (state_of m) c.args.limit (steps_of m) c.run-end.new.chooser (state_of new) (steps_of new) c.run-end.result c.is_left.result o.ending o.steps o.out.items named run refl c.requires c.is_left.ensures (sym c.why.ensures ∙ c.in-Some.is ∙ ap Some (sym h.0)) h.1 h.2,
      ),
    ))
    c.finish.ensures
