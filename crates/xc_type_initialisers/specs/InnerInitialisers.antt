-- What only private functions and proofs speak of, beside `Initialisers`.
use Rattle.std.specs.Prelude.{◌≡◌, Option}
use Rattle.xc_type_rule.specs.declared.fault.Fault.{Fault}
use Rattle.xc_type_rule.specs.Least.{least_from}
use Rattle.xc_type_initialiser_objects.specs.declared.inits.Inits.{Inits}
use Rattle.xc_type_initialiser_objects.specs.Inits.{and_also}
use Rattle.xc_type_scopes.specs.declared.env.Env.{Env}
use Rattle.xc_type_scopes.specs.Judge.{Judge}

-- code ---------------------------------------------------------------------

-- what a call says that judges initialisers: it adds what they give, and leaves what is declared behind them and the least fault
abbrev pub Gives : Judge Inits → Env → Env → Option Fault → Option Fault → Inits → Inits → Type 0
Gives j before behind was now old new = (new ≡ and_also old (j before).part) × (behind ≡ (j before).env) × (now ≡ least_from was (j before).faults)
