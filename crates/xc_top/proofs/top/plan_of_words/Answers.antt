use Rattle.std.proofs.Common.{Result, Ok, Err, sym, subst}
use Rattle.std.specs.Prelude.{OnErr}
use Rattle.xc_top.specs.Seen.{shelf_seen}
use Rattle.xc_top.specs.Answers.{MayHaveFetched}
use Rattle.xc_top.proofs.top.plan_of_words.Goals as goal

always : {T E P : Type 0} (r : Result T E) → P → OnErr r P
always (Ok x) p = tt
always (Err e) p = p

pub returns-in-Ok-clause-fetched : goal.returns-in-Ok-clause-fetched
returns-in-Ok-clause-fetched g c =
    let shelf = shelf_seen g.F.Shelf.files g.F.Shelf.faults g.F.Shelf.taken c.args.shelf.now c.plan_of-plan.new.shelf in
    always c.plan_of-plan.result (subst (λ k. MayHaveFetched k shelf) (sym c.in-Ok.ensures) c.plan_of-plan.ensures.fetched)
