-- What a draft holds, and the lines that it stands for.
use Rattle.std.proofs.Common.{◌≡◌, ℕ, zero, suc, ◌+◌, ◌^◌, ◌<◌, ◌≤◌, List, [], ◌∷◌, ◌++◌, length, map, None}
use Rattle.std.specs.List.{AllByRecursion, flat_map}
use Rattle.hex.specs.Hex.{IsBytes}
use Rattle.xc_isa.specs.declared.code.Run.{Run}
use Rattle.xc_isa.specs.declared.code.LoopMark.{LoopMark}
use Rattle.xc_isa.specs.Texts.{size_of, IsFormat}
use Rattle.xc_isa_text.specs.declared.draft.Stage.{Stage}
use Rattle.xc_isa_text.specs.declared.draft.Stage.TheVariants as stage
use Rattle.xc_isa_text.specs.Instructions.{instr_line, IsInstr}
use Rattle.xc_isa_text.specs.Texts.{header, global_line, run_line, global_lines, format_line, mark_line, code_line, IsRun, IsMark}
use Rattle.xc_isa_text.specs.Readings.{Reading}
use Rattle.xc_isa_text.specs.InnerReadings.{at_start, differ, in_order}
use Rattle.xc_isa_text.proofs.Chains.{Chain}

-- the lines of a global that lacks cells
abbrev pub open_lines : ℕ → List Run → List (List ℕ)
open_lines zero runs = []
open_lines (suc n) runs = global_line (size_of runs + suc n) ∷ map run_line runs

abbrev pub data_lines : List (List Run) → ℕ → List Run → List (List ℕ) → List LoopMark → List (List ℕ)
data_lines globals missing runs formats loops = flat_map global_lines globals ++ (open_lines missing runs ++ (map format_line formats ++ map mark_line loops))

abbrev pub data_in : Reading → List (List ℕ)
data_in s = data_lines s.globals s.missing s.runs s.formats s.loops

abbrev pub so_far_at : Stage → Reading → List (List ℕ)
so_far_at stage.Start s = []
so_far_at stage.Data s = header ∷ data_in s
so_far_at stage.Code s = header ∷ (data_in s ++ code_line ∷ map instr_line s.instrs)

-- the lines that have been read
abbrev pub so_far : Reading → List (List ℕ)
so_far s = so_far_at s.stage s

abbrev pub FitRuns : List Run → Type 0
FitRuns runs = Chain differ None runs × AllByRecursion (λ r. (1 ≤ r.count) × IsRun r) runs

abbrev pub FitGlobal : List Run → Type 0
FitGlobal runs = (1 ≤ length runs) × FitRuns runs × (size_of runs < 2 ^ 32)

abbrev pub FitFormat : List ℕ → Type 0
FitFormat bytes = IsFormat bytes × IsBytes bytes

pub record FitsSoFar (s : Reading) : Type 0 where
  pub start : s.stage ≡ stage.Start → s ≡ at_start
  pub no_instrs : s.stage ≡ stage.Data → s.instrs ≡ []
  pub no_lack : s.stage ≡ stage.Code → s.missing ≡ 0
  pub no_runs : s.missing ≡ 0 → s.runs ≡ []
  pub first_of_data : 0 < s.missing → (s.formats ≡ []) × (s.loops ≡ [])
  pub room : size_of s.runs + s.missing < 2 ^ 32
  pub runs : FitRuns s.runs
  pub globals : AllByRecursion FitGlobal s.globals
  pub formats : AllByRecursion FitFormat s.formats
  pub loops : Chain in_order None s.loops × AllByRecursion IsMark s.loops
  pub instrs : AllByRecursion IsInstr s.instrs
