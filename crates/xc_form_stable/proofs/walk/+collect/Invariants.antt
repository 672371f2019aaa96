use Rattle.std.proofs.Common.{◌≡◌, ◌++◌, drop}
use Rattle.xc_form_stable.specs.InnerStable.{frame_of, exprs_breaches}
use Rattle.xc_form_stable.proofs.walk.+collect.Given as goal

abbrev pub invariant-collect_exprs-loop-e : goal.invariant-collect_exprs-loop-e
invariant-collect_exprs-loop-e l = l.out.items ++ exprs_breaches (frame_of l.w) l.over (drop l.e-index l.list) ≡ l.initial.out.items ++ exprs_breaches (frame_of l.w) l.over l.list
