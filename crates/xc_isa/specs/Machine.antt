-- The machine: processors with slots for streams, over one memory and one output. One step is one instruction of one stream.
use Rattle.std.specs.Prelude.{◌≡◌, ℕ, zero, suc, ◌+◌, ◌-◌, ◌*◌, ◌/◌, ◌^◌, nat_lt, List, [], ◌∷◌, ◌++◌, length, Option, Some, None, map, slice_get, slice_set, replicate, take, drop, if◌then◌else◌}
use Rattle.xc_word.specs.declared.memory.Cell.{Cell}
use Rattle.xc_meaning_world.specs.World.{Segs, World, Touch, Reach, New, Free, Request, On, Print, Begin, Stop, Tick, Reply, Got, Dead, put, serve, world_of}
use Rattle.xc_isa.specs.declared.code.Code.{Code}
use Rattle.xc_isa.specs.declared.instr.TrapKind.{TrapKind}
use Rattle.xc_isa.specs.declared.instr.TrapKind.TheVariants as trap
use Rattle.xc_isa.specs.Texts.{cells_of}
use Rattle.xc_isa.specs.Effects.{Regs, Effect, Goes, Asks, Faults, Quits, effect}

-- A slot is free or has a stream. A number is Absent where its processor has fewer slots.
pub data Slot : Type 0 where
  Absent : Slot
  Empty : Slot
  Live : (pc : ℕ) (r : Regs) → Slot

-- slots has slot i of processor q at 128 * q + i, and ends with the last slot; last is the number of the newest segment
pub record State : Type 0 where
  pub slots : List Slot
  pub world : World
  pub last : ℕ

-- What a step comes to: it is made; it traps; the slot has no stream, or one that waits for a cell; or it asks for a segment, and
-- all the numbers of segments, up to 2^32 - 2, are spent.
pub data After : Type 0 where
  At : (st : State) → After
  Trap : (kind : TrapKind) → After
  Waits : After
  Spent : After

-- the machine numbers its segments one after another
abbrev pub last_of_touch : Touch → ℕ → ℕ
last_of_touch (Reach act) n = n
last_of_touch (New cells) n = suc n
last_of_touch (Free g) n = n

abbrev pub last_after : Request → ℕ → ℕ
last_after (On x) n = last_of_touch x n
last_after (Print bytes) n = n
last_after (Begin at arg) n = n
last_after Stop n = n
last_after Tick n = n

-- why a request traps
abbrev pub kind_of_touch : Touch → TrapKind
kind_of_touch (Reach act) = trap.Place
kind_of_touch (New cells) = trap.Size
kind_of_touch (Free g) = trap.Place

abbrev pub kind_of : Request → TrapKind
kind_of (On x) = kind_of_touch x
kind_of (Print bytes) = trap.Format
kind_of (Begin at arg) = trap.Code
kind_of Stop = trap.Code
kind_of Tick = trap.Code

abbrev pub with_slot : List Slot → ℕ → Slot → World → ℕ → After
with_slot slots s x w n = At (record { slots = slice_set slots s x; world = w; last = n })

-- the world has answered
abbrev pub numbered : ℕ → After → After
numbered last go = if nat_lt last (2 ^ 32 - 1) then go else Spent

abbrev pub served : Request → Option (Reply × World) → ℕ → (ℕ → Regs) → ℕ → List Slot → ℕ → After
served q None pc r s slots n = Waits
served q (Some (Dead, w)) pc r s slots n = Trap (kind_of q)
served q (Some (Got v, w)) pc r s slots n = numbered (last_after q n) (with_slot slots s (Live pc (r v)) w (last_after q n))

-- how many slots a processor may have
abbrev pub slots_each : ℕ
slots_each = 128

abbrev pub live_in : List Slot → ℕ
live_in [] = 0
live_in (Absent ∷ xs) = live_in xs
live_in (Empty ∷ xs) = live_in xs
live_in (Live pc r ∷ xs) = suc (live_in xs)

-- the slots of a processor
abbrev pub of_processor : ℕ → List Slot → List Slot
of_processor q slots = take slots_each (drop (slots_each * q) slots)

-- the live streams of the processor that slot s belongs to
abbrev pub live_beside : List Slot → ℕ → ℕ
live_beside slots s = live_in (of_processor (s / slots_each) slots)

-- of two slots the one whose processor has fewer live streams, and the former where both have as many
abbrev pub less_busy : List Slot → Option ℕ → ℕ → Option ℕ
less_busy slots None s = Some s
less_busy slots (Some b) s = if nat_lt (live_beside slots s) (live_beside slots b) then Some s else Some b

abbrev pub or_free : Option Slot → List Slot → Option ℕ → ℕ → Option ℕ
or_free None slots best s = best
or_free (Some Absent) slots best s = best
or_free (Some Empty) slots best s = less_busy slots best s
or_free (Some (Live pc r)) slots best s = best

-- of the free slots below n the one whose processor has the fewest live streams, the lowest number deciding a tie
abbrev pub free_below : List Slot → ℕ → Option ℕ
free_below slots zero = None
free_below slots (suc n) = or_free (slice_get slots n) slots (free_below slots n) n

-- where a stream starts: of the processors with a free slot the one with the fewest live streams, the lowest number deciding a tie;
-- its lowest free slot
abbrev pub free_slot : List Slot → Option ℕ
free_slot slots = free_below slots (length slots)

-- a stream as it starts: r1 has the word, and the other registers 0
abbrev pub begun : ℕ → ℕ → Slot
begun at arg = Live at (put (λ x. 0) 1 arg)

-- a stream starts in the free slot, and the answer is 1; where there is none the answer is 0
abbrev pub starts : Option ℕ → ℕ → ℕ → ℕ → (ℕ → Regs) → ℕ → List Slot → World → ℕ → After
starts None at arg pc r s slots w n = with_slot slots s (Live pc (r 0)) w n
starts (Some f) at arg pc r s slots w n = with_slot (slice_set slots s (Live pc (r 1))) f (begun at arg) w n

abbrev pub asks : Request → ℕ → (ℕ → Regs) → ℕ → List Slot → World → ℕ → After
asks (Begin at arg) pc r s slots w n = starts (free_slot slots) at arg pc r s slots w n
asks (On x) pc r s slots w n = served (On x) (serve (On x) (suc n) w) pc r s slots n
asks (Print bytes) pc r s slots w n = served (Print bytes) (serve (Print bytes) (suc n) w) pc r s slots n
asks Stop pc r s slots w n = served Stop (serve Stop (suc n) w) pc r s slots n
asks Tick pc r s slots w n = served Tick (serve Tick (suc n) w) pc r s slots n

abbrev pub takes : Effect → ℕ → List Slot → World → ℕ → After
takes (Goes pc r) s slots w n = with_slot slots s (Live pc r) w n
takes (Asks q pc r) s slots w n = asks q pc r s slots w n
takes (Faults kind) s slots w n = Trap kind
takes Quits s slots w n = with_slot slots s Empty w n

abbrev pub in_slot : Code → Option Slot → ℕ → List Slot → World → ℕ → After
in_slot code None s slots w n = Waits
in_slot code (Some Absent) s slots w n = Waits
in_slot code (Some Empty) s slots w n = Waits
in_slot code (Some (Live pc r)) s slots w n = takes (effect code.formats (slice_get code.instrs pc) pc r) s slots w n

-- One step of the stream in slot s.
abbrev pub step : Code → ℕ → State → After
step code s st = in_slot code (slice_get st.slots s) s st.slots st.world st.last

-- slot s has a stream, which need not wait
abbrev pub IsReady : Code → ℕ → State → Type 0
IsReady code s st = step code s st ≡ Waits → ⊥

-- q processors of n slots, all free
abbrev pub free_slots : ℕ → ℕ → List Slot
free_slots zero n = []
free_slots (suc zero) n = replicate n Empty
free_slots (suc (suc q)) n = replicate n Empty ++ (replicate (slots_each - n) Absent ++ free_slots (suc q) n)

-- q processors of n slots, and one stream at the first instruction with all registers 0; the globals are the segments 1, 2 and so on
abbrev pub start : Code → ℕ → ℕ → State
start code q n = record { slots = slice_set (free_slots q n) 0 (Live 0 (λ x. 0)); world = world_of (map cells_of code.globals); last = length code.globals }

-- no slot has a stream
abbrev pub IsIdle : List Slot → Type 0
IsIdle slots = (s pc : ℕ) (r : Regs) → slice_get slots s ≡ Some (Live pc r) → ⊥

abbrev pub HasQuit : State → Type 0
HasQuit st = IsIdle st.slots

-- the words of the segments up to number n
abbrev pub words_up_to : Segs → ℕ → ℕ
words_up_to m zero = length (m zero)
words_up_to m (suc n) = words_up_to m n + length (m (suc n))

-- the words of all live segments; none has a number past the last
abbrev pub live_words : State → ℕ
live_words st = words_up_to st.world.segs st.last
