use Rattle.std.proofs.Common.{◌≡◌, ◌<◌, ◌^◌, ◌++◌, length, map, drop}
use Rattle.xc_meaning.specs.Terms.{commands_of, command_of}
use Rattle.xc_gen.specs.Fits.{most_globals, AllNamesIn}
use Rattle.xc_gen.specs.Code.{commands_code, waiting_for_all}
use Rattle.xc_gen.proofs.emit.+command.Given as goal

-- the statements that are left have code and room, and their code completes the whole
abbrev pub invariant-put_commands-loop-stmt : goal.invariant-put_commands-loop-stmt
invariant-put_commands-loop-stmt l =
    let rest = commands_of (map command_of (drop l.stmt-index l.all)) in
    AllNamesIn most_globals rest
    × (waiting_for_all rest < 2 ^ 32)
    × (l.emit ++ commands_code rest (length l.emit) ≡ l.fn.emit ++ commands_code (commands_of (map command_of l.all)) (length l.fn.emit))
