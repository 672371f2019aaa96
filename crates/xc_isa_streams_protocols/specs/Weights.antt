-- What the steps of a stream alone weigh, where each position of its code has a weight.
use Rattle.std.specs.Prelude.{ℕ, zero, suc, ◌+◌, List, [], ◌∷◌, Option, Some, None, slice_get}
use Rattle.xc_word.specs.declared.memory.Cell.{Cell}
use Rattle.xc_meaning_world.specs.World.{Segs, Touch, Request, Reply, Got, Dead, put, seg_of, op}
use Rattle.xc_isa.specs.declared.code.Code.{Code}
use Rattle.xc_isa.specs.declared.instr.Instr.{Instr}
use Rattle.xc_isa.specs.declared.instr.Instr.TheVariants.{Li, Addi, Binary, Divide, Padd, Psub, Bound, Load, Store, Purge, Fadd, NewSeg, Free, Jmp, Branch, Jal, Jr, Create, Quit, Print, Trap}
use Rattle.xc_isa.specs.Effects.{Regs, Effect, Goes, Asks, Faults, Quits, effect}
use Rattle.xc_isa_streams.specs.Class.{Class, Source, Private, Shared, in_place}
use Rattle.xc_isa_streams.specs.Local.{Own, own_of, first_own, num_after, touch_of}

-- what the rest of a run weighs, from a position with registers
abbrev pub Sum : Type 0
Sum = ℕ → Regs → Own → List Reply → ℕ

abbrev pub sum_asked : ℕ → (ℕ → Regs) → Sum → Own → List Reply → ℕ
sum_asked pc r next o [] = 0
sum_asked pc r next o (Dead ∷ rs) = 0
sum_asked pc r next o (Got v ∷ rs) = next pc (r v) o rs

abbrev pub sum_hid : Option (Reply × List Cell) → ℕ → (ℕ → ℕ) → Segs → ℕ → (ℕ → Regs) → Sum → List Reply → ℕ
sum_hid None g f p pc r next rs = 0
sum_hid (Some (Dead, xs)) g f p pc r next rs = 0
sum_hid (Some (Got v, xs)) g f p pc r next rs = next pc (r v) (own_of f (put p g xs)) rs

abbrev pub sum_privately : Option Touch → ℕ → (ℕ → Regs) → Sum → Own → List Reply → ℕ
sum_privately None pc r next o rs = 0
sum_privately (Some x) pc r next o rs = sum_hid (op x (o.num 0) (o.priv (seg_of x (o.num 0)))) (seg_of x (o.num 0)) (num_after x o.num) o.priv pc r next rs

abbrev pub sum_shared : Option Touch → ℕ → (ℕ → Regs) → Sum → Own → List Reply → ℕ
sum_shared None pc r next o rs = 0
sum_shared (Some x) pc r next o rs = sum_asked pc r next o rs

abbrev pub sum_asks : Class → Request → ℕ → (ℕ → Regs) → Sum → Own → List Reply → ℕ
sum_asks Source q pc r next o rs = sum_asked pc r next o rs
sum_asks Private q pc r next o rs = sum_privately (touch_of q) pc r next o rs
sum_asks Shared q pc r next o rs = sum_shared (touch_of q) pc r next o rs

abbrev pub sum_does : Class → Effect → Sum → Own → List Reply → ℕ
sum_does c (Goes pc r) next o rs = next pc r o rs
sum_does c (Asks q pc r) next o rs = sum_asks c q pc r next o rs
sum_does c (Faults kind) next o rs = 0
sum_does c Quits next o rs = 0

-- what the first k steps weigh; one that asks and gets no reply is the last
abbrev pub tally : (ℕ → ℕ) → (ℕ → Class) → Code → ℕ → Sum
tally weight of code zero pc r o rs = 0
tally weight of code (suc k) pc r o rs =
    weight pc + sum_does (in_place of (slice_get code.instrs pc)) (effect code.formats (slice_get code.instrs pc) pc r) (tally weight of code k) o rs

-- of a thread that begins at a position with a word in r1
abbrev pub tally_from : (ℕ → ℕ) → (ℕ → Class) → Code → ℕ → ℕ → ℕ → (ℕ → ℕ) → List Reply → ℕ
tally_from weight of code k at arg num rs = tally weight of code k at (put (λ x. 0) 1 arg) (first_own num) rs

-- ---- two weights

-- each step weighs 1
abbrev pub by_steps : ℕ → ℕ
by_steps pc = 1

abbrev pub is_access : Option Instr → ℕ
is_access (Some (Load kind d a n)) = 1
is_access (Some (Store kind b a n)) = 1
is_access (Some (Purge a n)) = 1
is_access (Some (Fadd d a n b)) = 1
is_access (Some (NewSeg d a)) = 0
is_access (Some (Free a)) = 0
is_access (Some (Li d n)) = 0
is_access (Some (Addi d a n)) = 0
is_access (Some (Binary o d a b)) = 0
is_access (Some (Divide o d a b)) = 0
is_access (Some (Padd d a b n)) = 0
is_access (Some (Psub d a b)) = 0
is_access (Some (Bound a n)) = 0
is_access (Some (Jmp n)) = 0
is_access (Some (Branch test a n)) = 0
is_access (Some (Jal d n)) = 0
is_access (Some (Jr a)) = 0
is_access (Some (Create d a n)) = 0
is_access (Some Quit) = 0
is_access (Some (Print n)) = 0
is_access (Some (Trap n)) = 0
is_access None = 0

-- a step that accesses a cell of the memory weighs 1
abbrev pub by_accesses : Code → ℕ → ℕ
by_accesses code pc = is_access (slice_get code.instrs pc)
