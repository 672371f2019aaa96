use Rattle.std.proofs.Common.{◌≡◌, drop}
use Rattle.std.specs.Prelude.{None}
use Rattle.xc_gen.specs.Unbuilt.{first_global}
use Rattle.xc_gen.proofs.first.first_global.Given as goal

-- the globals that are left find the first of all
abbrev pub invariant-loop-global : goal.invariant-loop-global
invariant-loop-global l = first_global l.globals None ≡ first_global (drop l.global-index l.globals) l.found
