-- What only private functions and proofs speak of, beside `Items`.
use Rattle.std.specs.Prelude.{◌≡◌, Option}
use Rattle.xc_type_rule.specs.declared.fault.Fault.{Fault}
use Rattle.xc_type_rule.specs.Least.{least_from}
use Rattle.xc_type_unit.specs.declared.scope.FileScope.{FileScope}
use Rattle.xc_type_unit.specs.Items.{Item}

-- what a call says that follows an item: it leaves what the item makes of file scope, and the least fault
abbrev pub Does : Item → FileScope → FileScope → Option Fault → Option Fault → Type 0
Does i before behind was now = (behind ≡ (i before).scope) × (now ≡ least_from was (i before).faults)
