use Rattle.std.proofs.Common.{◌+◌, ◌∷◌, ◌∙◌, sym, ap, drop}
use Rattle.std.specs.Prelude.{None}
use Rattle.xc_type_pragmas.specs.Words.{word_at, words_in}
use Rattle.xc_type_pragmas.proofs.words.behind.Goals as goal
use Rattle.xc_type_pragmas.proofs.Spelling.{ends}

pub returns-then-end-text : goal.returns-then-end-text
returns-then-end-text c = λ start. ends c.args.text.now start c.args.end c.if-end-text.true (c.requires.apart c.if-end-text.true)
    ∙ ap (λ m. word_at start c.args.end ∷ words_in m None (c.args.end + 1) (drop (c.args.end + 1) c.args.text.now)) (sym c.mode_behind.ensures)
