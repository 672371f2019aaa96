-- Steps within limits on live words and output.
use Rattle.std.specs.Prelude.{◌≡◌, ◌⊎◌, ◌<◌, ◌≤◌, ◌+◌, ℕ, Bool, true, false, nat_lt, if◌then◌else◌, List, [], length, Option, Some, None, slice_get}
use Rattle.xc_meaning_world.specs.World.{On, New, Print, Request, Touch, Reach, Free, Begin, Stop, Tick}
use Rattle.xc_isa.specs.declared.code.Code.{Code}
use Rattle.xc_isa.specs.Effects.{Effect, Goes, Asks, Faults, Quits, effect, read}
use Rattle.xc_isa.specs.Machine.{Slot, Absent, Empty, Live, State, After, At, Trap as TrapsBy, Waits, Spent, step, live_words}
use Rattle.xc_machine.specs.declared.stepped.Stepped.{Stepped}
use Rattle.xc_machine.specs.declared.stepped.Stepped.TheVariants.{Went, NotReady, Trap, WordsFull, OutFull, NoMemory}

-- the most live words, those of the globals included, and the most bytes of output
pub record Limits : Type 0 where
  pub words : ℕ
  pub out : ℕ

-- ---- what a step asks for

abbrev pub cells_of_touch : Touch → ℕ
cells_of_touch (Reach act) = 0
cells_of_touch (New cells) = cells
cells_of_touch (Free g) = 0

-- the cells of a new segment
abbrev pub cells_of_request : Request → ℕ
cells_of_request (On x) = cells_of_touch x
cells_of_request (Print bytes) = 0
cells_of_request (Begin at arg) = 0
cells_of_request Stop = 0
cells_of_request Tick = 0

-- the bytes that are printed
abbrev pub bytes_of_request : Request → List ℕ
bytes_of_request (On x) = []
bytes_of_request (Print bytes) = bytes
bytes_of_request (Begin at arg) = []
bytes_of_request Stop = []
bytes_of_request Tick = []

abbrev pub cells_asked : Effect → ℕ
cells_asked (Goes pc r) = 0
cells_asked (Asks q pc r) = cells_of_request q
cells_asked (Faults kind) = 0
cells_asked Quits = 0

abbrev pub bytes_asked : Effect → List ℕ
bytes_asked (Goes pc r) = []
bytes_asked (Asks q pc r) = bytes_of_request q
bytes_asked (Faults kind) = []
bytes_asked Quits = []

-- of the stream in a slot; nothing is asked where there is none
abbrev pub cells_in : Code → Option Slot → ℕ
cells_in code None = 0
cells_in code (Some Absent) = 0
cells_in code (Some Empty) = 0
cells_in code (Some (Live pc r)) = cells_asked (effect code.formats (slice_get code.instrs pc) pc r)

abbrev pub bytes_in : Code → Option Slot → List ℕ
bytes_in code None = []
bytes_in code (Some Absent) = []
bytes_in code (Some Empty) = []
bytes_in code (Some (Live pc r)) = bytes_asked (effect code.formats (slice_get code.instrs pc) pc r)

-- ---- what a step answers

-- A step is that of the definition, within the limits, or it is refused. What is refused changes nothing.
abbrev pub Does : Limits → Stepped → State → State → After → ℕ → List ℕ → Type 0
Does limits Went old new a cells bytes = (a ≡ At new) × (live_words old + cells ≤ limits.words) × (length old.world.out + length bytes ≤ limits.out)
Does limits NotReady old new a cells bytes = (a ≡ Waits) × (new ≡ old)
Does limits (Trap kind) old new a cells bytes = (a ≡ TrapsBy kind) × (new ≡ old)
Does limits (WordsFull live asked) old new a cells bytes = ((limits.words < live + asked) ⊎ (a ≡ Spent)) × (live ≡ live_words old) × (asked ≡ cells) × (new ≡ old)
Does limits (OutFull len piece) old new a cells bytes = (limits.out < len + piece) × (len ≡ length old.world.out) × (piece ≡ length bytes) × (new ≡ old)
Does limits NoMemory old new a cells bytes = new ≡ old

-- One step of the stream in slot s.
abbrev pub Steps : Code → Limits → ℕ → Stepped → State → State → Type 0
Steps code limits s result old new = Does limits result old new (step code s old) (cells_in code (slice_get old.slots s)) (bytes_in code (slice_get old.slots s))

-- ---- what a slot shows

-- a step that need not wait
abbrev pub can_step : After → Bool
can_step (At st) = true
can_step (TrapsBy kind) = true
can_step Waits = false
can_step Spent = true

-- the position of a stream; none where there is no stream
abbrev pub position_in : Option Slot → Option ℕ
position_in None = None
position_in (Some Absent) = None
position_in (Some Empty) = None
position_in (Some (Live pc r)) = Some pc

-- what a register of a stream holds, where there are both
abbrev pub register_in : Option Slot → ℕ → Option ℕ
register_in None n = None
register_in (Some Absent) n = None
register_in (Some Empty) n = None
register_in (Some (Live pc r)) n = if nat_lt n 32 then Some (read r n) else None
