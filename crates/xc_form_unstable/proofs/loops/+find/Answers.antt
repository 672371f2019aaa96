use Rattle.std.proofs.Common.{rules}
use Rattle.xc_tree.specs.declared.stmt.Item.TheViews as stmt_views
use Rattle.xc_form_unstable.proofs.Walks.{loop_opened, item_opened}
use Rattle.xc_form_unstable.proofs.loops.+find.Goals as goal

pub loop_in-returns-then-own-id-clause-found : goal.loop_in-returns-then-own-id-clause-found
loop_in-returns-then-own-id-clause-found t c =
    let opened = loop_opened c.args.id c.args.s.now in
    search (rules, opened, stmt_views.the_lemmas)

pub loop_in-returns-in-Block-clause-found : goal.loop_in-returns-in-Block-clause-found
loop_in-returns-in-Block-clause-found t c =
    let opened = loop_opened c.args.id c.args.s.now in
    search (rules, opened, stmt_views.the_lemmas)

pub loop_in-returns-in-If-default-default-None-clause-found : goal.loop_in-returns-in-If-default-default-None-clause-found
loop_in-returns-in-If-default-default-None-clause-found t c =
    let opened = loop_opened c.args.id c.args.s.now in
    search (rules, opened, stmt_views.the_lemmas)

pub loop_in-returns-in-Some-clause-found : goal.loop_in-returns-in-Some-clause-found
loop_in-returns-in-Some-clause-found t c =
    let opened = loop_opened c.args.id c.args.s.now in
    search (rules, opened, stmt_views.the_lemmas)

pub loop_in-returns-in-None-clause-found : goal.loop_in-returns-in-None-clause-found
loop_in-returns-in-None-clause-found t c =
    let opened = loop_opened c.args.id c.args.s.now in
    search (rules, opened, stmt_views.the_lemmas)

pub loop_in-returns-in-Some-loop_among-clause-found : goal.loop_in-returns-in-Some-loop_among-clause-found
loop_in-returns-in-Some-loop_among-clause-found t c =
    let opened = loop_opened c.args.id c.args.s.now in
    search (rules, opened, stmt_views.the_lemmas)

pub loop_in-returns-in-None-loop_among-clause-found : goal.loop_in-returns-in-None-loop_among-clause-found
loop_in-returns-in-None-loop_among-clause-found t c =
    let opened = loop_opened c.args.id c.args.s.now in
    search (rules, opened, stmt_views.the_lemmas)

pub loop_in-returns-in-Switch-clause-found : goal.loop_in-returns-in-Switch-clause-found
loop_in-returns-in-Switch-clause-found t c =
    let opened = loop_opened c.args.id c.args.s.now in
    search (rules, opened, stmt_views.the_lemmas)

pub loop_in-returns-in-Future-clause-found : goal.loop_in-returns-in-Future-clause-found
loop_in-returns-in-Future-clause-found t c =
    let opened = loop_opened c.args.id c.args.s.now in
    search (rules, opened, stmt_views.the_lemmas)

pub loop_in-returns-in-Empty-clause-found : goal.loop_in-returns-in-Empty-clause-found
loop_in-returns-in-Empty-clause-found t c =
    let opened = loop_opened c.args.id c.args.s.now in
    search (rules, opened, stmt_views.the_lemmas)

pub loop_in_item-returns-in-Do-clause-found : goal.loop_in_item-returns-in-Do-clause-found
loop_in_item-returns-in-Do-clause-found t c =
    let opened = item_opened c.args.id c.args.item.now in
    search (rules, opened, stmt_views.the_lemmas)

pub loop_in_item-returns-in-At-clause-found : goal.loop_in_item-returns-in-At-clause-found
loop_in_item-returns-in-At-clause-found t c =
    let opened = item_opened c.args.id c.args.item.now in
    search (rules, opened, stmt_views.the_lemmas)
