use Rattle.std.proofs.Common.{◌≡◌, drop}
use Rattle.xc_lin.specs.Affine.{has_var}
use Rattle.xc_lin.proofs.affine.has.Given as goal

-- no earlier term has the variable
abbrev pub invariant-loop-term : goal.invariant-loop-term
invariant-loop-term l = has_var l.terms l.var ≡ has_var (drop l.term-index l.terms) l.var
