-- Code that has a text.
use Rattle.std.proofs.Common.{◌≡◌, ℕ, zero, suc, ◌<◌, ◌≤◌, List, [], ◌∷◌, length, Some, arith}
use Rattle.std.specs.Prelude.{◌≢◌, All, slice_get}
use Rattle.std.proofs.lemmas.List.Elements.{All-replicate}
use Rattle.xc_word.specs.declared.memory.Cell.{Cell}
use Rattle.xc_isa.specs.declared.code.Run.{Run}
use Rattle.xc_isa.specs.declared.code.LoopMark.{LoopMark}
use Rattle.xc_isa.specs.Texts.{EachWithNext, IsGlobal, AreInOrder}

pub all_of_one : {X : Type 0} (P : X → Type 0) (x : X) → P x → All P (x ∷ [])
all_of_one P x h = All-replicate P 1 x h

no_next : {X : Type 0} (R : X → X → Type 0) (x : X) → EachWithNext R (x ∷ [])
no_next R x zero y z here next = cc
no_next R x (suc i) y z here next = cc

abbrev pub run_of : Cell → Run
run_of c = record { count = 1; cell = c }

-- a global of one cell
pub is_one_cell : (c : Cell) → IsGlobal (run_of c ∷ [])
is_one_cell c = (omega arith, all_of_one (λ (x : Run). 1 ≤ x.count) (run_of c) (omega arith), no_next (λ (x y : Run). x.cell ≢ y.cell) (run_of c), omega arith)

pub no_marks : AreInOrder []
no_marks i x y here next = cc
