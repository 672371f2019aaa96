-- What only private functions and proofs speak of, beside `Told`.
use Rattle.std.specs.Prelude.{◌≡◌, Option}
use Rattle.xc_type_rule.specs.declared.fault.Fault.{Fault}
use Rattle.xc_type_rule.specs.Least.{least_from}
use Rattle.xc_type_scopes.specs.Told.{Told}

-- what a call says that tells a part: its answer is the part, and it leaves the least fault
abbrev pub Tells : {A : Type 0} → Told A → Option Fault → Option Fault → A → Type 0
Tells t was now x = (x ≡ t.part) × (now ≡ least_from was t.faults)
