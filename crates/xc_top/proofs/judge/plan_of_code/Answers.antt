use Rattle.std.proofs.Common.{ap, sym, ◌∙◌, Bor}
use Rattle.std.specs.Option.{option_map}
use Rattle.std.proofs.lemmas.Result.{IfOk-weaker}
use Rattle.xc_top_words.specs.declared.command.Options.{Options}
use Rattle.xc_top.specs.Judges.{Written}
use Rattle.xc_top.proofs.Judging.{was_executed}
use Rattle.xc_top.proofs.judge.plan_of_code.Goals as goal

pub returns-in-Some : goal.returns-in-Some
returns-in-Some c =
    IfOk-weaker c.execute.result _ _
    (λ p h.
    was_executed c.args.command.now c.args.text.now (option_map (λ v. v.items) c.args.schedule.now) c.in-Some.options.now c.args.code.now p.status p.out.items p.err.items
    (sym c.options.ensures ∙ ap (option_map (λ (o : Bor Options). o.now)) c.in-Some.is) c.requires.code h)
    c.execute.ensures

pub returns-in-None : goal.returns-in-None
returns-in-None c =
    IfOk-weaker c.write_code.result _ _
    (λ p h. Written (sym c.options.ensures ∙ ap (option_map (λ (o : Bor Options). o.now)) c.in-None.is) c.args.code.now c.requires.code h)
    c.write_code.ensures
