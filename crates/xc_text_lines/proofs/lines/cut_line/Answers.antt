use Rattle.std.proofs.Common.{sym}
use Rattle.std.proofs.lemmas.List.{take_rest}
use Rattle.xc_text_lines.specs.Lines.{is_feed}
use Rattle.xc_text_lines.proofs.Reading.{cuts, uncut}
use Rattle.xc_text_lines.proofs.lines.cut_line.Goals as goal

pub returns-in-Some : goal.returns-in-Some
returns-in-Some c = rw take_rest (cuts c.args.text.now c.in-Some.end (sym c.in-Some.ensures)).1

pub returns-in-None : goal.returns-in-None
returns-in-None c = uncut is_feed c.args.text.now (sym c.in-None.ensures)
