use Rattle.std.proofs.Common.{◌≡◌, drop, map}
use Rattle.xc_type_statement_parts.specs.Making.{followed, all_made}
use Rattle.xc_type.specs.Checked.{known_types}
use Rattle.xc_type.proofs.made.struct_types.Given as goal

abbrev pub invariant-structs : goal.invariant-structs
invariant-structs l = followed l.all (all_made (map known_types (drop l.members-index l.structs))) ≡ all_made (map known_types l.structs)
