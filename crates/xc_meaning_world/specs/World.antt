-- The memory and the output, what a thread may ask of them, and what they answer.
use Rattle.std.specs.Prelude.{ℕ, zero, suc, ◌==◌, ◌*◌, ◌^◌, List, [], ◌∷◌, ◌++◌, Option, Some, None, if◌then◌else◌, slice_get, slice_set, replicate, unwrap_or}
use Rattle.xc_word.specs.declared.memory.Access.{Access}
use Rattle.xc_word.specs.declared.memory.Cell.{Cell}
use Rattle.xc_word.specs.Cells.{fresh}
use Rattle.xc_word.specs.Table.{on_cell}

-- the cells of each segment; a segment that is not live has none
abbrev pub Segs : Type 0
Segs = ℕ → List Cell

-- all that the threads share
pub record World : Type 0 where
  pub segs : Segs
  pub out : List ℕ

-- a touch of the memory: one of the eight kinds of access, a new segment of so many cells, the end of a segment
pub data Touch : Type 0 where
  Reach : (act : Access) → Touch
  New : (cells : ℕ) → Touch
  Free : (seg : ℕ) → Touch

-- what a thread asks: a touch of the memory, bytes to be printed, that another one starts at a place with a word, its own trap, or
-- nothing (a statement, a loop test or a call begins)
pub data Request : Type 0 where
  On : (x : Touch) → Request
  Print : (bytes : List ℕ) → Request
  Begin : (at arg : ℕ) → Request
  Stop : Request
  Tick : Request

-- the word that was asked for, or 0 where none was; or that the thread traps here
pub data Reply : Type 0 where
  Got : (word : ℕ) → Reply
  Dead : Reply

-- one action of one thread
pub record Action : Type 0 where
  pub request : Request
  pub reply : Reply

abbrev pub act_of : Request → Reply → Action
act_of q a = record { request = q; reply = a }

-- a function changed at one place
abbrev pub put : {X : Type 0} → (ℕ → X) → ℕ → X → ℕ → X
put f d v x = if x == d then v else f x

-- ---- touches: each is of one segment, num being the number of a new one

abbrev pub seg_of : Touch → ℕ → ℕ
seg_of (Reach act) num = act.place.seg
seg_of (New n) num = num
seg_of (Free g) num = g

abbrev pub left_in : Option (ℕ × Cell) → ℕ → List Cell → Option (Reply × List Cell)
left_in None off xs = None
left_in (Some (v, c)) off xs = Some (Got v, slice_set xs off c)

-- by the table of tagged accesses; where no cell is there, the thread traps
abbrev pub reached : Option Cell → Access → List Cell → Option (Reply × List Cell)
reached None act xs = Some (Dead, xs)
reached (Some c) act xs = left_in (on_cell act.kind act.value c) act.place.off xs

-- cells that are full and 0, and a pointer to the first; a segment has one cell or more
abbrev pub made : ℕ → ℕ → List Cell → Option (Reply × List Cell)
made zero num xs = Some (Dead, xs)
made (suc n) num xs = Some (Got (num * 2 ^ 32), replicate (suc n) fresh)

abbrev pub freed : List Cell → Option (Reply × List Cell)
freed [] = Some (Dead, [])
freed (x ∷ xs) = Some (Got 0, [])

-- what the touch answers, and what it leaves of its segment; none where it waits
abbrev pub op : Touch → ℕ → List Cell → Option (Reply × List Cell)
op (Reach act) num xs = reached (slice_get xs act.place.off) act xs
op (New n) num xs = made n num xs
op (Free g) num xs = freed xs

abbrev pub put_back : Option (Reply × List Cell) → ℕ → Segs → Option (Reply × Segs)
put_back None g m = None
put_back (Some (a, xs)) g m = Some (a, put m g xs)

abbrev pub touched : Touch → ℕ → Segs → Option (Reply × Segs)
touched x num m = put_back (op x num (m (seg_of x num))) (seg_of x num) m

abbrev pub with_out : Option (Reply × Segs) → List ℕ → Option (Reply × World)
with_out None out = None
with_out (Some (a, m)) out = Some (a, record { segs = m; out = out })

-- what the world answers to a request, and the world after it; none where the request has to wait, and of a start, which is not
-- the world's to answer
abbrev pub serve : Request → ℕ → World → Option (Reply × World)
serve (On x) num w = with_out (touched x num w.segs) w.out
serve (Print bytes) num w = Some (Got 0, record { segs = w.segs; out = w.out ++ bytes })
serve (Begin at arg) num w = None
serve Stop num w = Some (Dead, w)
serve Tick num w = Some (Got 0, w)

-- the globals are the segments from 1 on; no other segment is live
abbrev pub segs_of : List (List Cell) → Segs
segs_of globals zero = []
segs_of globals (suc g) = unwrap_or (slice_get globals g) []

abbrev pub world_of : List (List Cell) → World
world_of globals = record { segs = segs_of globals; out = [] }

-- a statement, a loop test or a call begins
abbrev pub tick : Action
tick = act_of Tick (Got 0)
