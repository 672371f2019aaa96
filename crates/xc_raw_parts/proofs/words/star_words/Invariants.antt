use Rattle.std.proofs.Common.{◌≡◌, ◌++◌, drop}
use Rattle.xc_raw_parts.specs.Words.{words_in, leading}
use Rattle.xc_raw_parts.proofs.words.star_words.Given as goal

abbrev pub invariant-tokens : goal.invariant-tokens
invariant-tokens l = l.words ++ leading (words_in l.source (drop l.token-index l.own)) ≡ leading (words_in l.source l.own)
