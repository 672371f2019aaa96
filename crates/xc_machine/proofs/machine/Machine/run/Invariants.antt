use Rattle.std.proofs.Common.{◌≡◌, ℕ, List, length}
use Rattle.xc_machine.specs.Machines.{state_of, code_of, limits_of, steps_of}
use Rattle.xc_machine.specs.Runs.{Follows, count_after}
use Rattle.xc_machine.proofs.machine.Machine.run.Given as goal

-- the chooser was followed so far
abbrev pub invariant-loop-made : goal.invariant-loop-made
invariant-loop-made g l =
    (ss : List ℕ) × Follows g.C.Chooser.picks (code_of l.fn.self) (limits_of l.fn.self) l.fn.chooser (state_of l.fn.self) ss l.chooser (state_of l.self)
    × (length ss ≡ l.made) × (steps_of l.self ≡ count_after (steps_of l.fn.self) l.made)
    × (code_of l.self ≡ code_of l.fn.self) × (limits_of l.self ≡ limits_of l.fn.self)
