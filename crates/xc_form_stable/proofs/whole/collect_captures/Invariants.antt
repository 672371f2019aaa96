use Rattle.std.proofs.Common.{◌≡◌, ◌++◌, drop}
use Rattle.xc_form_stable.specs.Stable.{captures_breaches}
use Rattle.xc_form_stable.specs.InnerStable.{frame_of}
use Rattle.xc_form_stable.proofs.whole.collect_captures.Given as goal

abbrev pub invariant-loop-capture : goal.invariant-loop-capture
invariant-loop-capture l = l.out.items ++ captures_breaches (frame_of l.w) l.over (drop l.capture-index l.list) ≡ l.initial.out.items ++ captures_breaches (frame_of l.w) l.over l.list
