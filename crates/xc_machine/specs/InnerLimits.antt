-- What only private functions and proofs speak of, beside `Limits`.
use Rattle.std.specs.Prelude.{ℕ}
use Rattle.xc_isa.specs.Effects.{Effect}
use Rattle.xc_isa.specs.Machine.{State, takes}
use Rattle.xc_machine.specs.declared.stepped.Stepped.{Stepped}
use Rattle.xc_machine.specs.Limits.{Limits, cells_asked, bytes_asked, Does}

-- an effect on the stream in slot s
abbrev pub Makes : Limits → Stepped → State → State → ℕ → Effect → Type 0
Makes limits result old new s e = Does limits result old new (takes e s old.slots old.world old.last) (cells_asked e) (bytes_asked e)
