-- Which code has a text as assembly.
use Rattle.std.specs.Prelude.{◌≡◌, ◌≢◌, ℕ, suc, ◌+◌, ◌-◌, ◌^◌, ◌<◌, ◌≤◌, List, [], ◌∷◌, length, replicate, slice_get, Some, ◌++◌, All, IsSome}
use Rattle.std.specs.List.{sum_by}
use Rattle.xc_word.specs.declared.memory.Cell.{Cell}
use Rattle.xc_text_format.specs.Pieces.{pieces_of}
use Rattle.xc_isa.specs.declared.code.Run.{Run}
use Rattle.xc_isa.specs.declared.code.LoopMark.{LoopMark}
use Rattle.xc_isa.specs.declared.instr.Instr.{Instr}

-- the cells of a global
abbrev pub cells_of : List Run → List Cell
cells_of [] = []
cells_of (x ∷ xs) = replicate x.count x.cell ++ cells_of xs

abbrev pub size_of : List Run → ℕ
size_of xs = sum_by (λ x. x.count) xs

-- each element with the one after it
abbrev pub EachWithNext : {X : Type 0} → (X → X → Type 0) → List X → Type 0
EachWithNext {X} R xs = (i : ℕ) (x y : X) → slice_get xs i ≡ Some x → slice_get xs (suc i) ≡ Some y → R x y

-- one run or more, of one cell or more each and fewer than 2^32 in all; the cells of neighbouring runs are different
abbrev pub IsGlobal : List Run → Type 0
IsGlobal xs = (1 ≤ length xs) × All (λ x. 1 ≤ x.count) xs × EachWithNext (λ x y. x.cell ≢ y.cell) xs × (size_of xs < 2 ^ 32)

abbrev pub IsFormat : List ℕ → Type 0
IsFormat bytes = IsSome (pieces_of bytes)

-- the ids never descend
abbrev pub AreInOrder : List LoopMark → Type 0
AreInOrder marks = EachWithNext (λ x y. x.id ≤ y.id) marks

-- a line for the head and one for the word code, one for each global and each of its runs, and one for each thing else
abbrev pub lines_of : List (List Run) → List (List ℕ) → List LoopMark → List Instr → ℕ
lines_of globals formats loops instrs = 2 + sum_by (λ xs. 1 + length xs) globals + length formats + length loops + length instrs

-- There is a text of these, of fewer than 2^32 - 1 lines.
pub record HasText (globals : List (List Run)) (formats : List (List ℕ)) (loops : List LoopMark) (instrs : List Instr) : Type 0 where
  pub each_global : All IsGlobal globals
  pub each_format : All IsFormat formats
  pub in_order : AreInOrder loops
  pub short : lines_of globals formats loops instrs < 2 ^ 32 - 1
