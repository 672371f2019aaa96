-- What only private functions and proofs speak of, beside `Machines`.
use Rattle.std.specs.Prelude.{◌≡◌}
use Rattle.xc_machine.specs.declared.machine.Machine.{Machine}
use Rattle.xc_machine.specs.Machines.{code_of, limits_of, steps_of}

-- the code, the limits and the count of steps stay
abbrev pub RunsSame : Machine → Machine → Type 0
RunsSame old new = (code_of new ≡ code_of old) × (limits_of new ≡ limits_of old) × (steps_of new ≡ steps_of old)
