use Rattle.std.proofs.Common.{ℕ, List, false, sym, subst}
use Rattle.std.specs.Prelude.{IfOk}
use Rattle.std.specs.Option.{option_map}
use Rattle.xc_sched.specs.Choices.{PicksInTurn, PicksBySeed}
use Rattle.xc_machine_play.specs.declared.source.Source.{Source}
use Rattle.xc_machine_play.specs.Plays.{PlaysBy, Plays, IsRecord}
use Rattle.xc_machine_play.proofs.outcome.play.Goals as goal

pub returns-in-Turns : goal.returns-in-Turns
returns-in-Turns c =
    let code = c.args.code.now in
    let options = c.args.options.now in
    subst (λ (source : Source). IfOk c.play_by.result (λ o. (named : List ℕ) × IsRecord options.recorded named (option_map (λ v. v.items) o.choices) × Plays source code options o.ending o.steps o.out.items named)) (sym c.in-Turns.is)
    (subst (λ (from : ℕ). IfOk c.play_by.result (λ o. (named : List ℕ) × IsRecord options.recorded named (option_map (λ v. v.items) o.choices) × PlaysBy PicksInTurn (λ (n : ℕ). false) from code options o.ending o.steps o.out.items named)) c.new.ensures c.play_by.ensures)

pub returns-in-Seed : goal.returns-in-Seed
returns-in-Seed c =
    let code = c.args.code.now in
    let options = c.args.options.now in
    subst (λ (source : Source). IfOk c.play_by-in-Seed.result (λ o. (named : List ℕ) × IsRecord options.recorded named (option_map (λ v. v.items) o.choices) × Plays source code options o.ending o.steps o.out.items named)) (sym c.in-Seed.is)
    (subst (λ (seed : ℕ). IfOk c.play_by-in-Seed.result (λ o. (named : List ℕ) × IsRecord options.recorded named (option_map (λ v. v.items) o.choices) × PlaysBy PicksBySeed (λ (n : ℕ). false) seed code options o.ending o.steps o.out.items named)) c.new-in-Seed.ensures c.play_by-in-Seed.ensures)
