use Rattle.std.proofs.Common.{◌≡◌, ◌++◌, drop}
use Rattle.xc_isa.specs.Texts.{cells_of}
use Rattle.xc_machine.proofs.start.cells_in.Given as goal

-- the cells of the other runs are missing
abbrev pub invariant-loop-run : goal.invariant-loop-run
invariant-loop-run l = cells_of l.runs ≡ l.cells.items ++ cells_of (drop l.run-index l.runs)
