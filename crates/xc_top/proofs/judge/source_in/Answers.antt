use Rattle.std.proofs.Common.{ap, sym, subst, ◌∙◌}
use Rattle.std.specs.Option.{option_map}
use Rattle.std.specs.Prelude.{Some}
use Rattle.std.proofs.lemmas.Result.{IfOk-weaker}
use Rattle.xc_top.proofs.Judging.{chosen}
use Rattle.xc_top.proofs.judge.source_in.Goals as goal

pub returns-in-Some : goal.returns-in-Some
returns-in-Some c =
    IfOk-weaker c.steps_in.result _ _
    (λ r h. chosen c.args.choice.now (option_map (λ v. v.items) c.args.schedule.now) c.in-Schedule.file c.as_slice.result.now r c.in-Schedule.is (ap (option_map (λ v. v.items)) c.in-Some.is ∙ ap Some (sym c.as_slice.ensures.value)) h)
    c.steps_in.ensures
