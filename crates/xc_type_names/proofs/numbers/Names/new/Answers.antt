use Rattle.xc_type_names.proofs.Spelled.{few}
use Rattle.xc_type_names.proofs.numbers.Names.new.Goals as goal

pub number_all-requires : goal.number_all-requires
number_all-requires c = few (λ k. k.items) c.in_ok-set.set.keys c.args.source.now c.args.tokens.now c.in_ok-set.ensures c.requires

pub invariant_of-result : goal.invariant_of-result
invariant_of-result c = few (λ k. k.items) c.in_ok-set.set.keys c.args.source.now c.args.tokens.now c.in_ok-set.ensures c.requires
