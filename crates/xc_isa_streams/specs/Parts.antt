-- Actions on the memory in two parts: the source's, and the words that streams share and the source does not have.
use Rattle.std.specs.Prelude.{◌≡◌, ◌⊎◌, ℕ, zero, suc, ◌+◌, ◌*◌, ◌^◌, ◌<◌, ◌≤◌, List, [], ◌∷◌, ◌++◌, length, Some}
use Rattle.xc_meaning_world.specs.World.{Segs, World, Touch, Reach, New, Free, Request, On, Print, Begin, Stop, Tick, Reply, Got, Dead, Action, act_of, touched}
use Rattle.xc_meaning_world.specs.Runs.{Allows, NewIn, Applies}

-- what a stream asks: of the source's world, or a touch of what is shared
pub data Ask : Type 0 where
  Of : (q : Request) → Ask
  Side : (x : Touch) → Ask

-- one action of one stream
pub record Act : Type 0 where
  pub ask : Ask
  pub reply : Reply

abbrev pub act : Ask → Reply → Act
act k a = record { ask = k; reply = a }

pub record Parts : Type 0 where
  pub source : World
  pub side : Segs

-- the part that is asked gives this reply and is left so; the other one stays as it is
abbrev pub AllowsIn : Ask → Reply → ℕ → Parts → Parts → Type 0
AllowsIn (Of q) a num p p' = Allows q a num p.source p'.source × (p.side ≡ p'.side)
AllowsIn (Side x) a num p p' = (touched x num p.side ≡ Some (a, p'.side)) × (p.source ≡ p'.source)

-- the request that it is of the whole memory
abbrev pub request_of : Ask → Request
request_of (Of q) = q
request_of (Side x) = On x

-- a number above n that a new segment may have
abbrev pub IsAbove : ℕ → ℕ → Type 0
IsAbove n num = (n < num) × (num < 2 ^ 32)

-- the last number of a segment, where num is the number of a new one
abbrev pub up_touch : Touch → ℕ → ℕ → ℕ
up_touch (Reach act) n num = n
up_touch (New zero) n num = n
up_touch (New (suc cells)) n num = num
up_touch (Free g) n num = n

abbrev pub up : Ask → ℕ → ℕ → ℕ
up (Of (On x)) n num = up_touch x n num
up (Of (Print bytes)) n num = n
up (Of (Begin at arg)) n num = n
up (Of Stop) n num = n
up (Of Tick) n num = n
up (Side x) n num = up_touch x n num

-- these actions are allowed, one after another, where new segments of either part get ever higher numbers, above n and up to 2^32 - 1
abbrev pub Serves : Parts → ℕ → List (ℕ × Act) → Parts → ℕ → Type 0
Serves p n [] p' n' = (p ≡ p') × (n ≤ n')
Serves p n ((i, a) ∷ l) p' n' = (num : ℕ) × NewIn (IsAbove n) (request_of a.ask) num × (m : Parts) × AllowsIn a.ask a.reply num p m × Serves m (up a.ask n num) l p' n'

-- the actions on the source's part
abbrev pub source_and : ℕ → Ask → Reply → List (ℕ × Action) → List (ℕ × Action)
source_and i (Of q) a l = (i, act_of q a) ∷ l
source_and i (Side x) a l = l

abbrev pub sources : List (ℕ × Act) → List (ℕ × Action)
sources [] = []
sources ((i, a) ∷ l) = source_and i a.ask a.reply (sources l)

-- What both parts allow, the source's world allows, where no segment past the globals was live.
abbrev pub SourcesApply : Type 0
SourcesApply = (globals : ℕ) (p p' : Parts) (l : List (ℕ × Act)) (last : ℕ) → ((g : ℕ) → globals < g → p.source.segs g ≡ []) → Serves p globals l p' last → Applies globals p.source (sources l) p'.source

-- the reply is no trap
abbrev pub IsGot : Reply → Type 0
IsGot (Got v) = Unit {0}
IsGot Dead = ⊥

-- no action is a trap
abbrev pub Alive : List (ℕ × Act) → Type 0
Alive [] = Unit {0}
Alive ((i, a) ∷ l) = IsGot a.reply × Alive l

-- its last action is a trap, and no other
abbrev pub HasTrapped : List (ℕ × Act) → Type 0
HasTrapped l = (front : List (ℕ × Act)) × (s : ℕ) × (k : Ask) × (l ≡ front ++ (s, act k Dead) ∷ []) × Alive front

-- ---- segments

-- the touch made the segment
abbrev pub MakesBy : Touch → Reply → ℕ → Type 0
MakesBy (Reach act) a g = ⊥
MakesBy (New n) Dead g = ⊥
MakesBy (New n) (Got w) g = w ≡ g * 2 ^ 32
MakesBy (Free h) a g = ⊥

abbrev pub Makes : Ask → Reply → ℕ → Type 0
Makes (Of (On x)) a g = MakesBy x a g
Makes (Of (Print bytes)) a g = ⊥
Makes (Of (Begin at arg)) a g = ⊥
Makes (Of Stop) a g = ⊥
Makes (Of Tick) a g = ⊥
Makes (Side x) a g = ⊥

abbrev pub SideMakes : Ask → Reply → ℕ → Type 0
SideMakes (Of q) a g = ⊥
SideMakes (Side x) a g = MakesBy x a g

abbrev pub Made : List (ℕ × Act) → ℕ → Type 0
Made [] g = ⊥
Made ((i, a) ∷ l) g = Makes a.ask a.reply g ⊎ Made l g

abbrev pub SideMade : List (ℕ × Act) → ℕ → Type 0
SideMade [] g = ⊥
SideMade ((i, a) ∷ l) g = SideMakes a.ask a.reply g ⊎ SideMade l g

-- the null pointer's segment, a global, or a segment of the source that the list made, live or not
abbrev pub Known : ℕ → List (ℕ × Act) → ℕ → Type 0
Known globals l g = (g ≤ globals) ⊎ Made l g

-- what it touches is of a known segment of its part
abbrev pub FairTouch : (ℕ → Type 0) → Touch → Type 0
FairTouch P (Reach act) = P act.place.seg
FairTouch P (New n) = Unit {0}
FairTouch P (Free g) = P g

abbrev pub Fair : ℕ → List (ℕ × Act) → Ask → Type 0
Fair globals l (Of (On x)) = FairTouch (Known globals l) x
Fair globals l (Of (Print bytes)) = Unit {0}
Fair globals l (Of (Begin at arg)) = Unit {0}
Fair globals l (Of Stop) = Unit {0}
Fair globals l (Of Tick) = Unit {0}
Fair globals l (Side x) = FairTouch (SideMade l) x

-- ---- threads: those that start later are numbered in the order of their starts

-- where the thread that an action starts begins, and its word
abbrev pub begun_by : Request → Reply → List (ℕ × ℕ)
begun_by (On x) a = []
begun_by (Print bytes) a = []
begun_by (Begin at arg) Dead = []
begun_by (Begin at arg) (Got zero) = []
begun_by (Begin at arg) (Got (suc n)) = (at, arg) ∷ []
begun_by Stop a = []
begun_by Tick a = []

abbrev pub begun : Ask → Reply → List (ℕ × ℕ)
begun (Of q) a = begun_by q a
begun (Side x) a = []

abbrev pub begun_in : List (ℕ × Act) → List (ℕ × ℕ)
begun_in [] = []
begun_in ((i, a) ∷ l) = begun a.ask a.reply ++ begun_in l

-- thread 0 begins at position 0
abbrev pub threads_in : List (ℕ × Act) → List (ℕ × ℕ)
threads_in l = (0, 0) ∷ begun_in l

-- of n threads at first, each acts only after its start
abbrev pub InTurn : ℕ → List (ℕ × Act) → Type 0
InTurn n [] = Unit {0}
InTurn n ((i, a) ∷ l) = (i < n) × InTurn (n + length (begun a.ask a.reply)) l
