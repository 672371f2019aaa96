use Rattle.std.proofs.Common.{Err, refl, sym, ap, subst, ◌∙◌}
use Rattle.std.specs.Option.{option_map}
use Rattle.std.proofs.lemmas.Result.{IfOk-weaker}
use Rattle.xc_top.specs.Seen.{shelf_seen}
use Rattle.xc_top.specs.Lines.{line_of}
use Rattle.xc_top.specs.Judges.{Judges}
use Rattle.xc_top.specs.Answers.{Judged, NotRead, IsUnread}
use Rattle.xc_top.proofs.Completing.{completes}
use Rattle.xc_top.proofs.top.plan_of.Goals as goal

pub returns-in-Ok-clause-plan : goal.returns-in-Ok-clause-plan
returns-in-Ok-clause-plan g c =
    let texts = c.in-Ok.texts in
    let schedule = option_map (λ v. v.items) texts.schedule in
    IfOk-weaker c.judge-plan.result _ _
    (λ p h.
    let judged = subst (λ t. Judges c.args.command.now t schedule p.status p.out.items p.err.items) c.as_slice.ensures.value h in
    Judged c.args.command.now refl texts.text.items schedule c.in-Ok.ensures.texts judged (completes c.args.command.now texts.text.items schedule p.status p.out.items p.err.items judged))
    c.judge-plan.ensures

pub returns-in-Err-Said-clause-plan : goal.returns-in-Err-Said-clause-plan
returns-in-Err-Said-clause-plan g c =
    let shelf = shelf_seen g.F.Shelf.files g.F.Shelf.faults g.F.Shelf.taken c.args.shelf.now c.fetch_texts.new.shelf in
    let unread = c.fetch_texts.ensures.unread c.in-Err-Said.status (c.in-Err-Said.is ∙ ap Err c.in-Err-Said.field-0-is) in
    IfOk-weaker c.say.result _ _
    (λ p h. NotRead c.args.command.now refl (subst (IsUnread c.args.command.now shelf) (sym h.0) unread) h.1 (h.2 ∙ ap line_of (sym h.0)))
    c.say.ensures
