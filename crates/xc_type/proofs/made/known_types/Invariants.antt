use Rattle.std.proofs.Common.{◌≡◌, drop}
use Rattle.xc_type_statement_parts.specs.Making.{followed, all_made}
use Rattle.xc_type.specs.Checked.{types_of}
use Rattle.xc_type.proofs.made.known_types.Given as goal

abbrev pub invariant-members : goal.invariant-members
invariant-members l = followed l.all (all_made (types_of (drop l.at l.members))) ≡ all_made (types_of l.members)
