use Rattle.std.proofs.Common.{◌≡◌, [], take, map}
use Rattle.std.specs.Prelude.{fold}
use Rattle.std.specs.Str.{bytes_eq}
use Rattle.indexmap.specs.IndexSet.{insert_key}
use Rattle.xc_type_names.proofs.numbers.add_all.Given as goal

abbrev pub invariant-loop-pair : goal.invariant-loop-pair
invariant-loop-pair l = map (λ k. k.items) l.set.keys ≡ fold (insert_key bytes_eq) [] (map (λ p. p.0.now) (take l.pair-index l.table))
