use Rattle.std.proofs.Common.{◌≡◌, ℕ, List}
use Rattle.std.specs.Option.{option_map}
use Rattle.std.proofs.lemmas.Result.{IfOk-weaker, MatchResult-at_ok, MatchResult-at_err}
use Rattle.xc_top.specs.declared.status.Bad.TheVariants.{Line}
use Rattle.xc_top.specs.Judges.{Chooses, IsBadSchedule}
use Rattle.xc_top.proofs.Judging.{was_run, no_schedule}
use Rattle.xc_top.proofs.judge.execute.Goals as goal

pub returns-in_ok-outcome-in-Ok : goal.returns-in_ok-outcome-in-Ok
returns-in_ok-outcome-in-Ok c =
    let schedule = option_map (λ v. v.items) c.args.schedule.now in
    let choice = c.args.options.now.choice in
    let outcome = c.in_ok-outcome-in-Ok.outcome in
    let played = c.in_ok-outcome-in-Ok.ensures in
    IfOk-weaker c.plan_of_run.result _ _
    (λ p h.
    was_run c.args.options.now c.args.code.now schedule c.in-Ok.source outcome.ending outcome.steps outcome.out.items (option_map (λ v. v.items) outcome.choices) played.0 c.number-streams.result c.number-processors.result p.status p.out.items p.err.items
    (MatchResult-at_ok (λ s. Chooses choice schedule s) (λ bad. (name : List ℕ) × (k : ℕ) × (bad ≡ Line name k) × IsBadSchedule choice schedule name k) c.in-Ok.source c.in-Ok.is c.in_ok-source.ensures)
    played.2 played.1 c.number-streams.ensures.value c.number-processors.ensures.value
    ((c.number-processors.ensures.low, c.number-processors.ensures.high), (c.number-streams.ensures.low, c.number-streams.ensures.high)) h.0 h.1 h.2)
    c.plan_of_run.ensures

pub returns-in-Err : goal.returns-in-Err
returns-in-Err c =
    let schedule = option_map (λ v. v.items) c.args.schedule.now in
    let choice = c.args.options.now.choice in
    IfOk-weaker c.say.result _ _
    (λ p h.
    no_schedule c.args.options.now c.args.code.now schedule c.in-Err.bad p.status p.out.items p.err.items
    (MatchResult-at_err (λ s. Chooses choice schedule s) (λ bad. (name : List ℕ) × (k : ℕ) × (bad ≡ Line name k) × IsBadSchedule choice schedule name k) c.in-Err.bad c.in-Err.is c.in_ok-source.ensures)
    h.0 h.1 h.2)
    c.say.ensures
