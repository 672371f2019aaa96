use Rattle.std.proofs.Common.{rules}
use Rattle.xc_lex.proofs.Faults.{WordsStop-line}
use Rattle.xc_lex.proofs.lines.read_line.Goals as goal

pub returns-in_err-words-clause-err : goal.returns-in_err-words-clause-err
returns-in_err-words-clause-err c =
    let line = WordsStop-line c.args.source.now c.args.macros.now.entries.items c.args.start c.args.tokens.now.items _ c.in_err-words.ensures.err in
    search (rules, line)
