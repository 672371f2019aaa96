use Rattle.std.proofs.Common.{◌≡◌, take}
use Rattle.std.specs.Prelude.{map}
use Rattle.xc_type_literals.specs.Texts.{number_in}
use Rattle.xc_type_literals.proofs.texts.numbers_of.Given as goal

abbrev pub invariant-loop-token : goal.invariant-loop-token
invariant-loop-token l = l.numbers.items ≡ map (number_in l.known.keys) (take l.token-index l.tokens)
