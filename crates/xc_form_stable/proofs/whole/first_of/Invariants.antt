use Rattle.std.proofs.Common.{◌≡◌, drop}
use Rattle.xc_form_stable.specs.Stable.{first_of}
use Rattle.xc_form_stable.proofs.whole.first_of.Given as goal

abbrev pub invariant-loop-breach : goal.invariant-loop-breach
invariant-loop-breach l = first_of l.rule (drop l.breach-index l.breaches) ≡ first_of l.rule l.breaches
