use Rattle.std.proofs.Common.{◌≡◌, ◌+◌, drop}
use Rattle.xc_raw_parts.specs.Names.{names_from}
use Rattle.xc_raw_parts.proofs.names.first_name.Given as goal

abbrev pub invariant-tokens : goal.invariant-tokens
invariant-tokens l = record { same : names_from l.number (drop l.token-index l.own) ≡ names_from l.from l.own; count : l.number ≡ l.from + l.token-index }
