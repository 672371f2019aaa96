use Rattle.std.proofs.Common.{◌≡◌, drop}
use Rattle.xc_tree.specs.declared.pragmas.Schedule.TheVariants.{Block}
use Rattle.xc_type_pragmas.specs.Set.{schedule_after}
use Rattle.xc_type_pragmas.proofs.set.schedule_of.Given as goal

abbrev pub invariant-loop-s : goal.invariant-loop-s
invariant-loop-s l = schedule_after l.schedule (drop l.s-index l.all) ≡ schedule_after Block l.all
