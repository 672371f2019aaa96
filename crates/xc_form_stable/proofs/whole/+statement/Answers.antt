use Rattle.std.proofs.Common.{rules, append_assoc, true, false}
use Rattle.xc_form_stable.specs.InnerStable.{frame_of}
use Rattle.xc_form_stable.proofs.Standing.{in_switch, in_future, in_loop_by}
use Rattle.xc_form_stable.proofs.whole.+statement.Goals as goal

pub collect_stmt-returns-in_ok-collect_expr-in-Switch :
    goal.collect_stmt-returns-in_ok-collect_expr-in-Switch
collect_stmt-returns-in_ok-collect_expr-in-Switch t c =
    let same = in_switch (frame_of c.args.w.now) c.args.over.now c.args.s.now c.in-Switch.value c.in-Switch.items c.in-Switch.is in
    search (rules, append_assoc, same)

pub collect_stmt-returns-in_ok-collect_captures-in-Future :
    goal.collect_stmt-returns-in_ok-collect_captures-in-Future
collect_stmt-returns-in_ok-collect_captures-in-Future t c =
    let same = in_future (frame_of c.args.w.now) c.args.over.now c.args.s.now c.in-Future.place c.in-Future.captures c.in-Future.body c.in-Future.is in
    search (rules, append_assoc, same)

pub collect_inner-returns-then-is_late : goal.collect_inner-returns-then-is_late
collect_inner-returns-then-is_late t c =
    let same = in_loop_by (frame_of c.args.w.now) c.args.over.now true c.args.s.now c.in-Loop.id c.in-Loop.form c.in-Loop.init c.in-Loop.test c.in-Loop.step c.in-Loop.body c.in-Loop.pragmas c.in-Loop.is (search rules) in
    search (rules, append_assoc, same)

pub collect_inner-returns : goal.collect_inner-returns
collect_inner-returns t c =
    let same = in_loop_by (frame_of c.args.w.now) c.args.over.now false c.args.s.now c.in-Loop.id c.in-Loop.form c.in-Loop.init c.in-Loop.test c.in-Loop.step c.in-Loop.body c.in-Loop.pragmas c.in-Loop.is (search rules) in
    search (rules, append_assoc, same)
