-- A small code that starts a second stream; each has a frame of one cell, and both write the global.
use Rattle.std.specs.Prelude.{◌≡◌, ℕ, ◌==◌, ◌^◌, List, [], ◌∷◌, if◌then◌else◌}
use Rattle.xc_word.specs.Table.{full_with}
use Rattle.xc_isa.specs.declared.code.Code.{Code}
use Rattle.xc_isa.specs.Machine.{State, start, HasQuit}
use Rattle.xc_isa.specs.Runs.{At, run}
use Rattle.xc_isa.specs.declared.instr.LoadKind.TheVariants.{Ld}
use Rattle.xc_isa.specs.declared.instr.StoreKind.TheVariants.{St}
use Rattle.xc_isa.specs.declared.instr.Instr.{Instr}
use Rattle.xc_isa.specs.declared.instr.Instr.TheVariants as instr
use Rattle.xc_isa_streams.specs.Class.{Class, Source, Private}

-- r23 points to the stream's frame
abbrev pub by_frame : ℕ → Class
by_frame a = if a == 23 then Private else Source

-- the second stream begins at position 2, with 7 in r1
abbrev pub two_streams_code : List Instr
two_streams_code =
    instr.Li 1 7
    ∷ instr.Create 2 1 2
    ∷ instr.Li 2 1
    ∷ instr.NewSeg 23 2
    ∷ instr.Store St 1 23 0
    ∷ instr.Load Ld 24 23 0
    ∷ instr.Free 23
    ∷ instr.Li 2 (2 ^ 32)
    ∷ instr.Store St 24 2 0
    ∷ instr.Quit
    ∷ []

-- on one processor of two slots it has a run that ends with 7 in the global
pub record EndsWithSeven (code : Code) : Type 0 where
  pub ss : List ℕ
  pub st : State
  pub runs : run code ss (start code 1 2) ≡ At st
  pub quit : HasQuit st
  pub global : st.world.segs 1 ≡ full_with 7 ∷ []
