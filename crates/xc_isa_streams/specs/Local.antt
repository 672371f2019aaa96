-- One stream alone: its requests get the replies of a list, and it keeps its private segments for itself.
use Rattle.std.specs.Prelude.{ℕ, zero, suc, List, [], ◌∷◌, ◌++◌, Option, Some, None, slice_get, map}
use Rattle.xc_word.specs.declared.memory.Cell.{Cell}
use Rattle.xc_meaning_world.specs.World.{Segs, Touch, Reach, New, Free, Request, On, Print, Begin, Stop, Tick, Reply, Got, Dead, put, seg_of, op}
use Rattle.xc_isa.specs.declared.code.Code.{Code}
use Rattle.xc_isa.specs.Effects.{Regs, Effect, Goes, Asks, Faults, Quits, effect}
use Rattle.xc_isa_streams.specs.Class.{Class, Source, Private, Shared, in_place}
use Rattle.xc_isa_streams.specs.Parts.{Ask, Of, Side, Act, act}

-- how a bounded run of a stream ends: it quit, with the replies that are left; it trapped; no reply was left; the bound ran out; or
-- it touched as its own what is not its own
pub data End : Type 0 where
  Ended : (rs : List Reply) (t : List Act) → End
  Fault : (t : List Act) → End
  Short : (t : List Act) → End
  Going : (t : List Act) → End
  Bad : (t : List Act) → End

-- a stream's own segments, and the numbers that its next ones get
pub record Own : Type 0 where
  pub num : ℕ → ℕ
  pub priv : Segs

abbrev pub own_of : (ℕ → ℕ) → Segs → Own
own_of f p = record { num = f; priv = p }

abbrev pub first_own : (ℕ → ℕ) → Own
first_own num = own_of num (λ g. [])

-- the rest of a run, from a position with registers
abbrev pub Next : Type 0
Next = ℕ → Regs → Own → List Reply → List Act → End

abbrev pub resumed : Ask → Reply → ℕ → (ℕ → Regs) → Next → Own → List Reply → List Act → End
resumed k Dead pc r next o rs t = Fault (t ++ act k Dead ∷ [])
resumed k (Got v) pc r next o rs t = next pc (r v) o rs (t ++ act k (Got v) ∷ [])

abbrev pub asked : Ask → ℕ → (ℕ → Regs) → Next → Own → List Reply → List Act → End
asked k pc r next o [] t = Short t
asked k pc r next o (a ∷ rs) t = resumed k a pc r next o rs t

abbrev pub stopped : List Reply → List Act → End
stopped [] t = Short t
stopped (a ∷ rs) t = Fault (t ++ act (Of Stop) a ∷ [])

-- the numbers after a touch
abbrev pub num_after : Touch → (ℕ → ℕ) → ℕ → ℕ
num_after (Reach act) f = f
num_after (New n) f = λ i. f (suc i)
num_after (Free g) f = f

-- a touch of an own segment makes no action
abbrev pub hid : Option (Reply × List Cell) → ℕ → (ℕ → ℕ) → Segs → ℕ → (ℕ → Regs) → Next → List Reply → List Act → End
hid None g f p pc r next rs t = Bad t
hid (Some (Dead, xs)) g f p pc r next rs t = Bad t
hid (Some (Got v, xs)) g f p pc r next rs t = next pc (r v) (own_of f (put p g xs)) rs t

abbrev pub touch_of : Request → Option Touch
touch_of (On x) = Some x
touch_of (Print bytes) = None
touch_of (Begin at arg) = None
touch_of Stop = None
touch_of Tick = None

-- only touches are private, or of what is shared
abbrev pub privately : Option Touch → ℕ → (ℕ → Regs) → Next → Own → List Reply → List Act → End
privately None pc r next o rs t = Bad t
privately (Some x) pc r next o rs t = hid (op x (o.num 0) (o.priv (seg_of x (o.num 0)))) (seg_of x (o.num 0)) (num_after x o.num) o.priv pc r next rs t

abbrev pub shared : Option Touch → ℕ → (ℕ → Regs) → Next → Own → List Reply → List Act → End
shared None pc r next o rs t = Bad t
shared (Some x) pc r next o rs t = asked (Side x) pc r next o rs t

abbrev pub asks : Class → Request → ℕ → (ℕ → Regs) → Next → Own → List Reply → List Act → End
asks Source q pc r next o rs t = asked (Of q) pc r next o rs t
asks Private q pc r next o rs t = privately (touch_of q) pc r next o rs t
asks Shared q pc r next o rs t = shared (touch_of q) pc r next o rs t

abbrev pub does : Class → Effect → Next → Own → List Reply → List Act → End
does c (Goes pc r) next o rs t = next pc r o rs t
does c (Asks q pc r) next o rs t = asks c q pc r next o rs t
does c (Faults kind) next o rs t = stopped rs t
does c Quits next o rs t = Ended rs t

-- at most k steps, where of says whose the pointer in a register is
abbrev pub local : (ℕ → Class) → Code → ℕ → Next
local of code zero pc r o rs t = Going t
local of code (suc k) pc r o rs t = does (in_place of (slice_get code.instrs pc)) (effect code.formats (slice_get code.instrs pc) pc r) (local of code k) o rs t

-- at most k steps of a thread that begins at a position with a word in r1
abbrev pub local_from : (ℕ → Class) → Code → ℕ → ℕ → ℕ → (ℕ → ℕ) → List Reply → End
local_from of code k at arg num rs = local of code k at (put (λ x. 0) 1 arg) (first_own num) rs []

-- more steps change nothing
abbrev pub IsOver : End → Type 0
IsOver (Ended rs t) = Unit {0}
IsOver (Fault t) = Unit {0}
IsOver (Short t) = Unit {0}
IsOver (Going t) = ⊥
IsOver (Bad t) = Unit {0}

abbrev pub end_trace : End → List Act
end_trace (Ended rs t) = t
end_trace (Fault t) = t
end_trace (Short t) = t
end_trace (Going t) = t
end_trace (Bad t) = t

abbrev pub replies_of : List Act → List Reply
replies_of t = map (λ a. a.reply) t
