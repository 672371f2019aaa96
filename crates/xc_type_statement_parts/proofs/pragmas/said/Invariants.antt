use Rattle.std.proofs.Common.{◌≡◌, take, map}
use Rattle.xc_type_statement_parts.specs.Pragmas.{said_at}
use Rattle.xc_type_statement_parts.proofs.pragmas.said.Given as goal

abbrev pub invariant-spans : goal.invariant-spans
invariant-spans l = l.all ≡ map (said_at l.text l.env) (take l.at-index l.at-items)
