-- Why a schedule was not read.
use Rattle.xc_text_lines.specs.declared.lines.ReadFault.{ReadFault}
use Rattle.xc_text_lines.specs.declared.lines.ReadFault.TheVariants as reading
use Rattle.xc_sched.specs.declared.text.SchedFault.{SchedFault}
use Rattle.xc_sched.specs.declared.text.SchedFault.TheVariants.{Line, NoMemory}

abbrev pub fault_of : ReadFault → SchedFault
fault_of (reading.Line k) = Line k
fault_of reading.NoMemory = NoMemory
