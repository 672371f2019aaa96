use Rattle.std.proofs.Common.{◌≡◌, take, map}
use Rattle.xc_type_names.specs.Numbered.{spellings}
use Rattle.xc_type_names.specs.Stretches.{AreIn}
use Rattle.xc_type_names.proofs.numbers.collect.Given as goal

abbrev pub invariant-loop-token : goal.invariant-loop-token
invariant-loop-token l = record {
  added : map (λ k. k.items) l.set.keys ≡ spellings l.source (take l.token-index l.tokens);
  seen : AreIn l.source l.seen.keys (map (λ k. k.items) l.set.keys);
}
