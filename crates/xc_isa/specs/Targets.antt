-- Instructions that name a position: jumps, branches, calls and starts of streams.
use Rattle.std.specs.Prelude.{ℕ, List, Option, Some, None, IsSome, slice_get, slice_set}
use Rattle.std.specs.Option.{option_and_then}
use Rattle.xc_isa.specs.declared.instr.Instr.{Instr}
use Rattle.xc_isa.specs.declared.instr.Instr.TheVariants.{Li, Addi, Binary, Divide, Padd, Psub, Bound, Load, Store, Purge, Fadd, NewSeg, Free, Jmp, Branch, Jal, Jr, Create, Quit, Print, Trap}

-- the instruction with another position; none where it names none
abbrev pub aimed : Instr → ℕ → Option Instr
aimed (Jmp old) n = Some (Jmp n)
aimed (Branch test a old) n = Some (Branch test a n)
aimed (Jal d old) n = Some (Jal d n)
aimed (Create d a old) n = Some (Create d a n)
aimed (Li d v) n = None
aimed (Addi d a v) n = None
aimed (Binary op d a b) n = None
aimed (Divide op d a b) n = None
aimed (Padd d a b size) n = None
aimed (Psub d a b) n = None
aimed (Bound a size) n = None
aimed (Load kind d a off) n = None
aimed (Store kind b a off) n = None
aimed (Purge a off) n = None
aimed (Fadd d a off b) n = None
aimed (NewSeg d a) n = None
aimed (Free a) n = None
aimed (Jr a) n = None
aimed Quit n = None
aimed (Print format) n = None
aimed (Trap code) n = None

-- the instruction at this place with another position; none where there is no instruction that names one
abbrev pub aimed_at : List Instr → ℕ → ℕ → Option Instr
aimed_at code at n = option_and_then (λ i. aimed i n) (slice_get code at)

abbrev pub with_instr : List Instr → ℕ → Option Instr → List Instr
with_instr code at None = code
with_instr code at (Some i) = slice_set code at i

-- the instructions, where the one at this place names another position
abbrev pub patched : List Instr → ℕ → ℕ → List Instr
patched code at n = with_instr code at (aimed_at code at n)
