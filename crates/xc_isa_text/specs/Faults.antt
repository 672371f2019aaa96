-- Why a text was not read.
use Rattle.xc_text_lines.specs.declared.lines.ReadFault.{ReadFault}
use Rattle.xc_text_lines.specs.declared.lines.ReadFault.TheVariants as reading
use Rattle.xc_isa_text.specs.declared.text.AsmFault.{AsmFault}
use Rattle.xc_isa_text.specs.declared.text.AsmFault.TheVariants.{Line, NoMemory}

abbrev pub fault_of : ReadFault → AsmFault
fault_of (reading.Line k) = Line k
fault_of reading.NoMemory = NoMemory
