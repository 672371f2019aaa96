use Rattle.std.proofs.Common.{◌≡◌, ◌++◌, drop}
use Rattle.xc_form_stable.specs.Stable.{inits_breaches}
use Rattle.xc_form_stable.specs.InnerStable.{frame_of}
use Rattle.xc_form_stable.proofs.whole.collect_inits.Given as goal

abbrev pub invariant-loop-init : goal.invariant-loop-init
invariant-loop-init l = l.out.items ++ inits_breaches (frame_of l.w) l.over (drop l.init-index l.list) ≡ l.initial.out.items ++ inits_breaches (frame_of l.w) l.over l.list
