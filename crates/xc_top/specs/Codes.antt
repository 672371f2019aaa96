-- The codes that the program ends with.
use Rattle.std.specs.Prelude.{ℕ}
use Rattle.xc_top.specs.declared.status.Status.{Status}
use Rattle.xc_top.specs.declared.status.Status.TheVariants.{Ok, ReadFault, WriteFault, Usage, Long, Refused, Trap, Unfinished, Stuck, BadSchedule, WordsFull, OutFull, NoMemory}

abbrev pub code_of : Status → ℕ
code_of (Ok shown) = 0
code_of (ReadFault name) = 1
code_of WriteFault = 1
code_of Usage = 2
code_of (Long name) = 3
code_of (Refused name kind at) = 3
code_of (Trap shown) = 4
code_of (Unfinished numbers) = 5
code_of (Stuck numbers) = 6
code_of (BadSchedule bad) = 7
code_of (WordsFull live asked numbers) = 9
code_of (OutFull len piece numbers) = 9
code_of NoMemory = 10
