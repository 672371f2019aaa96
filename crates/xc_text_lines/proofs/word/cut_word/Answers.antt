use Rattle.std.proofs.Common.{sym}
use Rattle.std.proofs.lemmas.List.{take_rest}
use Rattle.xc_text_lines.specs.Lines.{is_space}
use Rattle.xc_text_lines.proofs.Reading.{cut_first, uncut}
use Rattle.xc_text_lines.proofs.word.cut_word.Goals as goal

pub returns-in-Some : goal.returns-in-Some
returns-in-Some c = rw take_rest (cut_first is_space c.args.line.now c.in-Some.end (sym c.in-Some.ensures))

pub returns-in-None : goal.returns-in-None
returns-in-None c = uncut is_space c.args.line.now (sym c.in-None.ensures)
