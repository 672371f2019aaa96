use Rattle.std.proofs.Common.{◌≡◌, drop, map}
use Rattle.xc_tree.specs.Lists.{every}
use Rattle.xc_form.specs.Purity.{has_no_address}
use Rattle.xc_form.proofs.pure.have_no_address.Given as goal

abbrev pub invariant-loop-local : goal.invariant-loop-local
invariant-loop-local l = every (map has_no_address (drop l.local-index l.locals)) ≡ every (map has_no_address l.locals)
