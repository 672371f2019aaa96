use Rattle.std.proofs.Common.{◌≡◌, map, drop}
use Rattle.std.specs.Prelude.{max}
use Rattle.xc_meaning.specs.Terms.{commands_of, command_of}
use Rattle.xc_gen.specs.Code.{waiting_for_all}
use Rattle.xc_gen.proofs.frame.+waiting_for.Given as goal

-- the most so far, and what the statements that are left have
abbrev pub invariant-waiting_for_all-loop-stmt : goal.invariant-waiting_for_all-loop-stmt
invariant-waiting_for_all-loop-stmt l =
    max l.most (waiting_for_all (commands_of (map command_of (drop l.stmt-index l.all)))) ≡ waiting_for_all (commands_of (map command_of l.all))
