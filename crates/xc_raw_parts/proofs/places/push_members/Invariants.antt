use Rattle.std.proofs.Common.{◌≡◌, ◌+◌, ◌++◌, drop}
use Rattle.xc_raw_parts.specs.Places.{members_from}
use Rattle.xc_raw_parts.proofs.places.push_members.Given as goal

abbrev pub invariant-tokens : goal.invariant-tokens
invariant-tokens l = record { made : l.steps ++ members_from l.source l.number (drop l.token-index l.tokens) ≡ l.initial.steps ++ members_from l.source l.first l.tokens; count : l.number ≡ l.first + l.token-index }
