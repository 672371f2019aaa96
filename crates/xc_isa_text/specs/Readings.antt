-- Reading code, line by line.
use Rattle.std.specs.Prelude.{ℕ, List}
use Rattle.xc_isa.specs.declared.code.Run.{Run}
use Rattle.xc_isa.specs.declared.code.LoopMark.{LoopMark}
use Rattle.xc_isa.specs.declared.instr.Instr.{Instr}
use Rattle.xc_isa_text.specs.declared.draft.Stage.{Stage}
use Rattle.xc_isa_text.specs.declared.draft.Stage.TheVariants as stage

-- What has been read: the cells that the last global lacks, and its runs; the globals before it, the formats, marks and instructions.
pub record Reading : Type 0 where
  pub stage : Stage
  pub missing : ℕ
  pub runs : List Run
  pub globals : List (List Run)
  pub formats : List (List ℕ)
  pub loops : List LoopMark
  pub instrs : List Instr
