use Rattle.std.proofs.Common.{◌≡◌, take}
use Rattle.xc_type_literals.specs.Constants.{constants_of}
use Rattle.xc_type_literals.specs.InnerConstants.{AreConstants}
use Rattle.xc_type_literals.proofs.numbers.constants_of.Given as goal

abbrev pub invariant-loop-token : goal.invariant-loop-token
invariant-loop-token l = record {
  numbers : l.numbers.items ≡ constants_of l.source (take l.token-index l.tokens);
  known : AreConstants l.source l.known.entries;
}
