use Rattle.std.proofs.Common.{◌≡◌, ◌+◌, ◌++◌, drop}
use Rattle.xc_raw_parts.specs.Names.{names_from}
use Rattle.xc_raw_parts.proofs.names.push_names.Given as goal

abbrev pub invariant-tokens : goal.invariant-tokens
invariant-tokens l = record { made : l.names ++ names_from l.number (drop l.token-index l.tokens) ≡ l.initial.names ++ names_from l.first l.tokens; count : l.number ≡ l.first + l.token-index }
