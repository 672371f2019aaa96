use Rattle.std.proofs.Common.{arith}
use Rattle.xc_text_lines.proofs.Reading.{stops, goes_on}
use Rattle.xc_text_lines.proofs.lines.read_lines.Goals as goal

pub returns-in-Err-Line : goal.returns-in-Err-Line
returns-in-Err-Line g c = stops g.R.LineReader.next g.R.LineReader.whole c.loop-line.reader c.loop-line.number c.loop-line.rest.now c.in-Some.line.now c.in-Some.after.now _ c.in-Some.ensures (c.in-Err-Line.ensures c.in-Err-Line.field-0-is) c.loop-line.invariant.same

pub loop-line-preserved : goal.loop-line-preserved
loop-line-preserved g c = record {
  same = goes_on g.R.LineReader.next g.R.LineReader.whole c.loop-line.reader c.take.new.self c.loop-line.number c.loop-line.rest.now c.in-Some.line.now c.in-Some.after.now _ c.in-Some.ensures c.in-Ok.ensures c.loop-line.invariant.same;
  count = omega (arith, c.in-Some.ensures.count, c.loop-line.invariant.count);
}
