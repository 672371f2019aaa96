use Rattle.std.proofs.Common.{◌≡◌, take}
use Rattle.xc_type_literals.specs.Texts.{all_taken}
use Rattle.xc_type_literals.proofs.texts.takes_of.Given as goal

abbrev pub invariant-loop-format : goal.invariant-loop-format
invariant-loop-format l = l.takes.items ≡ all_taken (take l.format-index l.formats)
