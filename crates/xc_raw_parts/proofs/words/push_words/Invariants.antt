use Rattle.std.proofs.Common.{◌≡◌, ◌++◌, take}
use Rattle.xc_raw_parts.specs.Words.{words_in}
use Rattle.xc_raw_parts.proofs.words.push_words.Given as goal

abbrev pub invariant-loop-token : goal.invariant-loop-token
invariant-loop-token l = l.words ≡ l.initial.words ++ words_in l.source (take l.token-index l.tokens)
