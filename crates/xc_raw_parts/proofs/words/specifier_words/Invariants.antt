use Rattle.std.proofs.Common.{◌≡◌, ◌++◌, drop}
use Rattle.xc_raw.specs.declared.tree.Raw.{out-Raw}
use Rattle.xc_raw_parts.specs.Words.{words_around, specifier_words}
use Rattle.xc_raw_parts.proofs.words.specifier_words.Given as goal

abbrev pub invariant-parts : goal.invariant-parts
invariant-parts l = l.words ++ words_around l.source l.tokens l.at (out-Raw l.specs).end (drop l.part-index l.part-items) ≡ specifier_words l.source l.tokens l.specs
