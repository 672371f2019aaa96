use Rattle.std.proofs.Common.{◌≡◌, take}
use Rattle.xc_sched.specs.declared.form.Form.TheVariants.{Slots}
use Rattle.xc_sched.specs.Runs.{text_of}
use Rattle.xc_sched.proofs.text.print_runs.Given as goal

abbrev pub invariant-loop-run : goal.invariant-loop-run
invariant-loop-run l = l.out.items ≡ text_of Slots (take l.run-index l.runs)
