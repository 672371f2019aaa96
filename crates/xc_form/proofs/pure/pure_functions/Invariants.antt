use Rattle.std.proofs.Common.{◌≡◌, drop, []}
use Rattle.xc_form.specs.Purity.{purity_from}
use Rattle.xc_form.proofs.pure.pure_functions.Given as goal

abbrev pub invariant-loop-func : goal.invariant-loop-func
invariant-loop-func l = purity_from l.done.items (drop l.func-index l.funcs) ≡ purity_from [] l.funcs
