use Rattle.std.proofs.Common.{◌≡◌, map, drop}
use Rattle.std.specs.Prelude.{None}
use Rattle.xc_meaning.specs.Terms.{commands_of, command_of}
use Rattle.xc_gen.specs.Unbuilt.{first_among}
use Rattle.xc_gen.proofs.first.+done.Given as goal

-- the statements that are left find the first of all
abbrev pub invariant-first_among-loop-stmt : goal.invariant-first_among-loop-stmt
invariant-first_among-loop-stmt l =
    first_among (commands_of (map command_of l.all)) None ≡ first_among (commands_of (map command_of (drop l.stmt-index l.all))) l.found
