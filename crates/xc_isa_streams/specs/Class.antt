-- Whose a touch of the memory is: the instruction says it, by the register that its pointer is in.
use Rattle.std.specs.Prelude.{ℕ, Option, Some, None}
use Rattle.xc_isa.specs.declared.instr.Instr.{Instr}
use Rattle.xc_isa.specs.declared.instr.Instr.TheVariants.{Li, Addi, Binary, Divide, Padd, Psub, Bound, Load, Store, Purge, Fadd, NewSeg, Free, Jmp, Branch, Jal, Jr, Create, Quit, Print, Trap}

-- the source's; the stream's own, as its frames; or of those words that streams share and the source does not have
pub data Class : Type 0 where
  Source : Class
  Private : Class
  Shared : Class

-- the register of the pointer: what is touched, or what is made
abbrev pub base_of : Instr → Option ℕ
base_of (Load kind d a n) = Some a
base_of (Store kind b a n) = Some a
base_of (Purge a n) = Some a
base_of (Fadd d a n b) = Some a
base_of (NewSeg d a) = Some d
base_of (Free a) = Some a
base_of (Li d n) = None
base_of (Addi d a n) = None
base_of (Binary op d a b) = None
base_of (Divide op d a b) = None
base_of (Padd d a b n) = None
base_of (Psub d a b) = None
base_of (Bound a n) = None
base_of (Jmp n) = None
base_of (Branch test a n) = None
base_of (Jal d n) = None
base_of (Jr a) = None
base_of (Create d a n) = None
base_of Quit = None
base_of (Print n) = None
base_of (Trap n) = None

abbrev pub by_base : (ℕ → Class) → Option ℕ → Class
by_base of None = Source
by_base of (Some a) = of a

abbrev pub in_place : (ℕ → Class) → Option Instr → Class
in_place of None = Source
in_place of (Some i) = by_base of (base_of i)
