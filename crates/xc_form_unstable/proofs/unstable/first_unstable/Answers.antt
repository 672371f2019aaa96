use Rattle.std.proofs.Common.{rules}
use Rattle.xc_form_unstable.proofs.Walks.{unstable_here}
use Rattle.xc_form_unstable.proofs.unstable.first_unstable.Goals as goal

pub returns-in-Some : goal.returns-in-Some
returns-in-Some c =
    let here = unstable_here c.args.tree.now c.args.id c.loop-func.func-index c.func-item.result c.in-Some.s.now (search rules) (search rules) (search rules) (search rules) in
    search (rules, here)
