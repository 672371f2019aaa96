use Rattle.std.proofs.Common.{◌≡◌, drop}
use Rattle.xc_lin.specs.Affine.{coefficient_of}
use Rattle.xc_lin.proofs.affine.coefficient.Given as goal

-- no earlier term has the variable
abbrev pub invariant-loop-term : goal.invariant-loop-term
invariant-loop-term l = coefficient_of l.terms l.var ≡ coefficient_of (drop l.term-index l.terms) l.var
