use Rattle.std.proofs.Common.{◌≡◌, drop}
use Rattle.xc_type_initialiser_objects.specs.Words.{words_of}
use Rattle.xc_type_initialiser_objects.proofs.Words.{with_words}
use Rattle.xc_type_initialiser_objects.proofs.word.words_of.Given as goal

-- the words so far, and then those of the initialisers to come
abbrev pub invariant-inits : goal.invariant-inits
invariant-inits l = with_words l.words (drop l.init-index l.inits) ≡ words_of l.inits
