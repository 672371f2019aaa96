use Rattle.std.proofs.Common.{◌≡◌, ◌++◌, drop, false}
use Rattle.xc_type_literals.specs.Texts.{bytes_from}
use Rattle.xc_type_literals.proofs.texts.bytes_in.Given as goal

abbrev pub invariant-bytes : goal.invariant-bytes
invariant-bytes l = l.bytes ++ bytes_from l.escaped (drop l.b-index l.rest) ≡ bytes_from false l.rest
