use Rattle.xc_type_literals.proofs.Few.{few}
use Rattle.xc_type_literals.proofs.texts.texts_of.Goals as goal

pub numbers_of-requires : goal.numbers_of-requires
numbers_of-requires c = few c.in_ok-known.known.keys c.args.tokens.now c.in_ok-known.ensures c.requires
