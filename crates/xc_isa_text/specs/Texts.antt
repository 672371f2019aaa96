-- The text of code.
use Rattle.std.specs.Prelude.{◌≡◌, ℕ, Bool, List, [], ◌∷◌, ◌++◌, map, codes, if◌then◌else◌}
use Rattle.std.specs.List.{flat_map, join_with_byte, AllByRecursion}
use Rattle.hex.specs.Hex.{IsBytes}
use Rattle.xc_text_lines.specs.Grammar.{with_feeds}
use Rattle.xc_text_lines.specs.HexWords.{hex_word}
use Rattle.xc_isa.specs.declared.code.Run.{Run}
use Rattle.xc_isa.specs.declared.code.LoopMark.{LoopMark}
use Rattle.xc_isa.specs.declared.code.Code.{Code}
use Rattle.xc_isa.specs.declared.instr.Instr.{Instr}
use Rattle.xc_isa.specs.Texts.{size_of, IsGlobal, IsFormat, AreInOrder}
use Rattle.xc_isa_text.specs.Operands.{Number, Value, State, words_in, AreBelow}
use Rattle.xc_isa_text.specs.Instructions.{instr_line, IsInstr}

-- what a text says
pub record Contents : Type 0 where
  pub globals : List (List Run)
  pub formats : List (List ℕ)
  pub loops : List LoopMark
  pub instrs : List Instr

-- what code consists of
abbrev pub contents_of : Code → Contents
contents_of c = record { globals = c.globals; formats = c.formats; loops = c.loops; instrs = c.instrs }

-- ---- lines

abbrev pub header : List ℕ
header = codes "xmtasm 1"

abbrev pub global_line : ℕ → List ℕ
global_line size = join_with_byte 32 (codes "global" ∷ words_in (Number ∷ []) (size ∷ []))

abbrev pub state_number : Bool → ℕ
state_number full = if full then 1 else 0

abbrev pub run_numbers : Run → List ℕ
run_numbers r = r.count ∷ r.cell.value ∷ state_number r.cell.full ∷ []

abbrev pub run_line : Run → List ℕ
run_line r = join_with_byte 32 (codes "cells" ∷ words_in (Number ∷ Value ∷ State ∷ []) (run_numbers r))

abbrev pub global_lines : List Run → List (List ℕ)
global_lines runs = global_line (size_of runs) ∷ map run_line runs

abbrev pub format_line : List ℕ → List ℕ
format_line bytes = join_with_byte 32 (codes "format" ∷ hex_word bytes ∷ [])

abbrev pub mark_numbers : LoopMark → List ℕ
mark_numbers m = m.id ∷ m.start ∷ m.worker ∷ m.serial ∷ m.after ∷ []

abbrev pub mark_line : LoopMark → List ℕ
mark_line m = join_with_byte 32 (codes "loop" ∷ words_in (Number ∷ Number ∷ Number ∷ Number ∷ Number ∷ []) (mark_numbers m))

abbrev pub code_line : List ℕ
code_line = codes "code"

-- the globals with their runs, the formats, the marks, and after `code` the instructions
abbrev pub lines_of : Contents → List (List ℕ)
lines_of c = header ∷ (flat_map global_lines c.globals ++ (map format_line c.formats ++ (map mark_line c.loops ++ code_line ∷ map instr_line c.instrs)))

-- ---- what has a text

-- the numbers of a run fit
abbrev pub IsRun : Run → Type 0
IsRun r = AreBelow (Number ∷ Value ∷ State ∷ []) (run_numbers r)

abbrev pub IsMark : LoopMark → Type 0
IsMark m = AreBelow (Number ∷ Number ∷ Number ∷ Number ∷ Number ∷ []) (mark_numbers m)

-- Each global has runs that fit, of one cell or more each and fewer than 2^32 in all, and neighbours have different cells; each format is one of printf; the ids of the marks never descend; each instruction has its registers.
pub record IsCode (c : Contents) : Type 0 where
  pub globals : AllByRecursion (λ runs. IsGlobal runs × AllByRecursion IsRun runs) c.globals
  pub formats : AllByRecursion (λ bytes. IsFormat bytes × IsBytes bytes) c.formats
  pub loops : AreInOrder c.loops × AllByRecursion IsMark c.loops
  pub instrs : AllByRecursion IsInstr c.instrs

-- The text spells these contents.
pub record Spells (text : List ℕ) (c : Contents) : Type 0 where
  pub is_code : IsCode c
  pub is_text : text ≡ with_feeds (lines_of c)

-- The grammar.
abbrev pub IsAssembly : List ℕ → Type 0
IsAssembly text = (c : Contents) × Spells text c
