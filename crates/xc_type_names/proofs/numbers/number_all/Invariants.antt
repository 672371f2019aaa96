use Rattle.std.proofs.Common.{◌≡◌, take, map}
use Rattle.xc_type_names.specs.Numbered.{number_in}
use Rattle.xc_type_names.specs.Stretches.{ArePlaces}
use Rattle.xc_type_names.proofs.numbers.number_all.Given as goal

abbrev pub invariant-loop-token : goal.invariant-loop-token
invariant-loop-token l = record {
  numbers : l.numbers.items ≡ map (number_in (map (λ k. k.items) l.set.keys) l.source) (take l.token-index l.tokens);
  places : ArePlaces l.source (map (λ k. k.items) l.set.keys) l.places.entries;
}
