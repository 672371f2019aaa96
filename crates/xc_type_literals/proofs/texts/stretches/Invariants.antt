use Rattle.std.proofs.Common.{◌≡◌, take}
use Rattle.xc_type_literals.specs.Texts.{stretches}
use Rattle.xc_type_literals.proofs.texts.stretches.Given as goal

abbrev pub invariant-loop-token : goal.invariant-loop-token
invariant-loop-token l = l.known.keys ≡ stretches (take l.token-index l.tokens)
