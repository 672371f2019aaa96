-- What the top call writes to err.
use Rattle.std.specs.Prelude.{ℕ, ◌==◌, List, [], ◌++◌, codes, decimal, Option, Some, None, if◌then◌else◌}
use Rattle.xc_isa.specs.declared.instr.TrapKind.{TrapKind}
use Rattle.xc_isa.specs.declared.instr.TrapKind.TheVariants.{Divide, Index, Range, Objects, Place, Size, Format, Code, Jump}
use Rattle.xc_top.specs.declared.status.FileKind.{FileKind}
use Rattle.xc_top.specs.declared.status.FileKind.TheVariants.{Lex, Syntax, Depth, Name, Typing, Count, Asm, Unbuilt}
use Rattle.xc_top.specs.declared.status.Numbers.{Numbers}
use Rattle.xc_top.specs.declared.status.Shown.{Shown}
use Rattle.xc_top.specs.declared.status.Shown.TheVariants.{Ran, Nothing}
use Rattle.xc_top.specs.declared.status.TrapShown.{TrapShown}
use Rattle.xc_top.specs.declared.status.Bad.{Bad}
use Rattle.xc_top.specs.declared.status.Bad.TheVariants.{Line, Entry}
use Rattle.xc_top.specs.declared.status.Status.{Status}
use Rattle.xc_top.specs.declared.status.Status.TheVariants.{Ok, ReadFault, WriteFault, Usage, Long, Refused, Trap, Unfinished, Stuck, BadSchedule, WordsFull, OutFull, NoMemory}

abbrev pub kind_text : FileKind → List ℕ
kind_text Lex = codes "lex"
kind_text Syntax = codes "syntax"
kind_text Depth = codes "depth"
kind_text Name = codes "name"
kind_text Typing = codes "type"
kind_text Count = codes "count"
kind_text Asm = codes "asm"
kind_text Unbuilt = codes "unbuilt"

abbrev pub trap_text : TrapKind → List ℕ
trap_text Divide = codes "divide"
trap_text Index = codes "index"
trap_text Range = codes "range"
trap_text Objects = codes "objects"
trap_text Place = codes "place"
trap_text Size = codes "size"
trap_text Format = codes "format"
trap_text Code = codes "code"
trap_text Jump = codes "jump"

-- a number with its name
abbrev pub number_text : List ℕ → ℕ → List ℕ
number_text name n = name ++ decimal n

-- one processor is not told
abbrev pub processors_text : ℕ → List ℕ
processors_text n = if n == 1 then [] else number_text (codes " processors=") n

-- the end of each line about a run
abbrev pub numbers_text : Numbers → List ℕ
numbers_text n = number_text (codes " steps=") n.steps ++ number_text (codes " streams=") n.streams ++ processors_text n.processors ++ codes "\n"

abbrev pub place_text : List ℕ → ℕ → ℕ → List ℕ → List ℕ
place_text name line col what = codes "xmtc: " ++ name ++ number_text (codes ":") line ++ number_text (codes ":") col ++ codes ": " ++ what ++ codes "\n"

-- where the work is done: a run tells its numbers
abbrev pub shown_line_of : Shown → List ℕ
shown_line_of (Ran n) = codes "ended" ++ numbers_text n
shown_line_of Nothing = []

-- where a run traps, and where it is not finished; without numbers, what has no steps
abbrev pub trap_line_of : Option TrapShown → List ℕ
trap_line_of None = codes "trap\n"
trap_line_of (Some t) = codes "trap " ++ trap_text t.kind ++ number_text (codes " stream=") t.stream ++ numbers_text t.numbers

abbrev pub unfinished_line_of : Option Numbers → List ℕ
unfinished_line_of None = codes "unfinished\n"
unfinished_line_of (Some n) = codes "unfinished" ++ numbers_text n

abbrev pub bad_line_of : Bad → List ℕ
bad_line_of (Line name line) = place_text name line 1 (codes "schedule")
bad_line_of (Entry step n) = number_text (codes "badchoice step=") step ++ numbers_text n

-- the line of a status, with its line feed; a failed write has none
abbrev pub line_of : Status → List ℕ
line_of (Ok shown) = shown_line_of shown
line_of (ReadFault name) = codes "xmtc: cannot read " ++ name ++ codes "\n"
line_of WriteFault = []
line_of Usage = codes "usage: xmtc COMMAND [OPTIONS] FILE\n"
line_of (Long name) = codes "xmtc: " ++ name ++ codes ": too long\n"
line_of (Refused name kind at) = place_text name at.line at.col (kind_text kind)
line_of (Trap shown) = trap_line_of shown
line_of (Unfinished numbers) = unfinished_line_of numbers
line_of (Stuck n) = codes "stuck" ++ numbers_text n
line_of (BadSchedule bad) = bad_line_of bad
line_of (WordsFull live asked n) = number_text (codes "words live=") live ++ number_text (codes " asked=") asked ++ numbers_text n
line_of (OutFull len piece n) = number_text (codes "output length=") len ++ number_text (codes " piece=") piece ++ numbers_text n
line_of NoMemory = codes "xmtc: no memory\n"
