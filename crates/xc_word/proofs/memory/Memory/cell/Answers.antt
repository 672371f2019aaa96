use Rattle.std.proofs.Common.{sym}
use Rattle.xc_word.proofs.Seen.{cell_now_some, cell_now_none}
use Rattle.xc_word.proofs.memory.Memory.cell.Goals as goal

pub returns-in-Some : goal.returns-in-Some
returns-in-Some c = cc (cell_now_some c.self.inside.segments c.args.self.now c.self.view_is c.args.place c.in-Some.cells.now (sym c.in-Some.ensures.value))

pub returns-in-None : goal.returns-in-None
returns-in-None c = sym (cell_now_none c.self.inside.segments c.args.self.now c.self.view_is c.args.place (sym c.in-None.ensures.value))
