use Rattle.std.proofs.Common.{◌≡◌, drop}
use Rattle.xc_gen.specs.Unbuilt.{first_func}
use Rattle.xc_gen.proofs.first.first_func.Given as goal

-- the functions that are left find the first of all
abbrev pub invariant-loop-at : goal.invariant-loop-at
invariant-loop-at l = first_func l.main 0 l.funcs l.fn.before ≡ first_func l.main l.at (drop l.at l.funcs) l.found
