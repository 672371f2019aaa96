use Rattle.std.proofs.Common.{◌≡◌, drop, map}
use Rattle.std.specs.Prelude.{None}
use Rattle.std.specs.Option.{option_copied}
use Rattle.xc_type_names.specs.Scoped.{found_from}
use Rattle.xc_type_names.proofs.scopes.find_in.Given as goal

abbrev pub invariant-loop-scope : goal.invariant-loop-scope
invariant-loop-scope g l =
    found_from (option_copied l.found) l.name (map (λ m. m.entries) (drop l.scope-index l.scopes)) ≡ found_from None l.name (map (λ m. m.entries) l.scopes)
