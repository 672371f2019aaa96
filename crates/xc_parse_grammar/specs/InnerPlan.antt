-- What only private functions and proofs speak of, beside `Plan`.
use Rattle.std.specs.Prelude.{Option, Some, None}
use Rattle.xc_raw.specs.declared.word.Word.{Word}
use Rattle.xc_raw.specs.declared.word.Word.TheVariants as word

-- the next word, which is Foreign at the end of the text
abbrev pub look : Option Word → Word
look None = word.Foreign
look (Some w) = w
