use Rattle.std.proofs.Common.{◌≡◌, ◌++◌, take, map}
use Rattle.std.specs.List.{AllByRecursion}
use Rattle.xc_text_lines.specs.Grammar.{with_feeds}
use Rattle.xc_isa_text.specs.Instructions.{instr_line, IsInstr}
use Rattle.xc_isa_text.proofs.text.push_instrs.Given as goal

abbrev pub invariant-loop-instr : goal.invariant-loop-instr
invariant-loop-instr l = record {
  lines : l.out.items ≡ l.initial.out.items ++ with_feeds (map instr_line (take l.instr-index l.instrs));
  fit : AllByRecursion IsInstr (take l.instr-index l.instrs);
}
