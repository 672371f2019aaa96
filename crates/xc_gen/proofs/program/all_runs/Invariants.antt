use Rattle.std.proofs.Common.{◌≡◌, map, take}
use Rattle.xc_gen.specs.Globals.{runs_of}
use Rattle.xc_gen.proofs.program.all_runs.Given as goal

-- the runs so far are those of the globals so far
abbrev pub invariant-loop-global : goal.invariant-loop-global
invariant-loop-global l = l.all ≡ map runs_of (take l.global-index l.globals)
