-- What is asked of code, and what it then promises of every run of the machine.
use Rattle.std.specs.Prelude.{◌≡◌, ◌⊎◌, ℕ, zero, suc, ◌+◌, ◌<◌, ◌≤◌, ◌==◌, List, [], ◌∷◌, ◌++◌, length, Some, None, slice_get, map, if◌then◌else◌}
use Rattle.xc_meaning_world.specs.World.{Segs, World, Touch, Request, On, Print, Begin, Stop, Tick, Reply, Got, Dead, touched, world_of}
use Rattle.xc_meaning_world.specs.Runs.{part_of}
use Rattle.xc_isa.specs.declared.code.Code.{Code}
use Rattle.xc_isa.specs.Texts.{cells_of}
use Rattle.xc_isa.specs.Effects.{Regs, Asks, effect}
use Rattle.xc_isa.specs.Machine as machine
use Rattle.xc_isa.specs.Machine.{Slot, Absent, Empty, Live, State, After, Waits, slots_each, step, IsReady, start, HasQuit, words_up_to, live_words}
use Rattle.xc_isa.specs.Runs.{Ran, At, Trap, NoRun, run}
use Rattle.xc_isa_streams.specs.Class.{Class}
use Rattle.xc_isa_streams.specs.Parts.{Ask, Of, Side, Act, act, Parts, Serves, Alive, HasTrapped, SideMade, Known, FairTouch, Fair, begun, threads_in, InTurn}
use Rattle.xc_isa_streams.specs.Local.{End, Ended, Bad, Own, own_of, local, local_from, IsOver, end_trace, replies_of}

-- numbers of segments to come: above n, and all different
pub record Fresh (n : ℕ) (f : ℕ → ℕ) : Type 0 where
  pub above : (i : ℕ) → n < f i
  pub apart : (i j : ℕ) → f i ≡ f j → i ≡ j

abbrev pub globals_of : Code → ℕ
globals_of code = length code.globals

-- the globals, and nothing that is shared
abbrev pub first_parts : Code → Parts
first_parts code = record { source = world_of (map cells_of code.globals); side = λ g. [] }

-- a thread may begin at this position with this word in r1: the first one, or one that an instruction asks for
abbrev pub CanStart : Code → ℕ → ℕ → Type 0
CanStart code at arg = ((at ≡ 0) × (arg ≡ 0)) ⊎ ((pc : ℕ) × (r : Regs) × (next : ℕ) × (rf : ℕ → Regs) × (effect code.formats (slice_get code.instrs pc) pc r ≡ Asks (Begin at arg) next rf))

-- With just the replies of t, the thread that begins there makes the actions t, however long it goes on after m steps, and it is not
-- over before.
pub record Shows (of : ℕ → Class) (code : Code) (at arg m : ℕ) (t : List Act) : Type 0 where
  pub num : ℕ → ℕ
  pub fresh : Fresh (globals_of code) num
  pub by : (k : ℕ) → end_trace (local_from of code (m + k) at arg num (replies_of t)) ≡ t
  pub busy : (j : ℕ) → j < m → IsOver (local_from of code j at arg num (replies_of t)) → ⊥

-- Each thread of the list has begun before it acts, and shows its part of the list in so many steps.
pub record Shown (of : ℕ → Class) (code : Code) (l : List (ℕ × Act)) (steps : List ℕ) : Type 0 where
  pub in_turn : InTurn 1 l
  pub each : (a at arg : ℕ) → slice_get (threads_in l) a ≡ Some (at, arg) → CanStart code at arg × (m : ℕ) × (slice_get steps a ≡ Some m) × Shows of code at arg m (part_of a l)
  pub none : (a : ℕ) → slice_get (threads_in l) a ≡ None → part_of a l ≡ []

-- After its actions in l, thread a asks k next.
pub record AsksBy (of : ℕ → Class) (code : Code) (l : List (ℕ × Act)) (a : ℕ) (k : Ask) : Type 0 where
  pub at : ℕ
  pub arg : ℕ
  pub m : ℕ
  pub thread : slice_get (threads_in l) a ≡ Some (at, arg)
  pub shows : Shows of code at arg m (part_of a l ++ act k Dead ∷ [])

-- ---- what is asked of code

-- after actions that the memory allows and the threads show, none a trap, no thread touches as its own what is not its own
abbrev pub AlwaysOwn : (ℕ → Class) → Code → Type 0
AlwaysOwn of code = (l : List (ℕ × Act)) (steps : List ℕ) (p : Parts) (n a at arg m j : ℕ) (t : List Act) → Serves (first_parts code) (globals_of code) l p n → Shown of code l steps → Alive l → slice_get (threads_in l) a ≡ Some (at, arg) → (s : Shows of code at arg m (part_of a l)) → local_from of code j at arg s.num (replies_of (part_of a l)) ≡ Bad t → ⊥

-- After actions l that the memory allows and the threads show, none a trap, some thread asks k next.
pub record AsksNext (of : ℕ → Class) (code : Code) (l : List (ℕ × Act)) (k : Ask) : Type 0 where
  pub steps : List ℕ
  pub parts : Parts
  pub last : ℕ
  pub a : ℕ
  pub at : ℕ
  pub arg : ℕ
  pub m : ℕ
  pub serves : Serves (first_parts code) (globals_of code) l parts last
  pub shown : Shown of code l steps
  pub alive : Alive l
  pub thread : slice_get (threads_in l) a ≡ Some (at, arg)
  pub shows : Shows of code at arg m (part_of a l ++ act k Dead ∷ [])

-- whatever a thread asks next of the source, and of what is shared, is of a segment that this part knows
pub record AlwaysFair (of : ℕ → Class) (code : Code) : Type 0 where
  pub source : (l : List (ℕ × Act)) (q : Request) → AsksNext of code l (Of q) → Fair (globals_of code) l (Of q)
  pub side : (l : List (ℕ × Act)) (x : Touch) → AsksNext of code l (Side x) → FairTouch (SideMade l) x

-- It is enough for AlwaysOwn that no thread does so whatever the replies.
abbrev pub NeverBad : (ℕ → Class) → Code → Type 0
NeverBad of code = (at arg m : ℕ) (num : ℕ → ℕ) (rs : List Reply) (t : List Act) → CanStart code at arg → Fresh (globals_of code) num → local_from of code m at arg num rs ≡ Bad t → ⊥

-- ---- the memory by owners: 0 is the source, 1 what is shared, and suc (suc a) the thread a

abbrev pub view : ℕ → (ℕ → ℕ) → Segs → Segs
view c owner m g = if owner g == c then m g else []

abbrev pub parted : (ℕ → ℕ) → World → Parts
parted owner w = record { source = record { segs = view 0 owner w.segs; out = w.out }; side = view 1 owner w.segs }

-- the segments that thread a has for itself
abbrev pub own_view : ℕ → (ℕ → ℕ) → Segs → Segs
own_view a owner m = view (suc (suc a)) owner m

-- ---- where the threads are

-- what a stream still does
abbrev pub now : (ℕ → Class) → Code → ℕ → Slot → Own → List Reply → List Act → End
now of code k Absent o rs t = Ended rs t
now of code k Empty o rs t = Ended rs t
now of code k (Live pc r) o rs t = local of code k pc r o rs t

abbrev pub cons : ℕ → (ℕ → ℕ) → ℕ → ℕ
cons x f zero = x
cons x f (suc i) = f i

-- the numbers of the list, then the others
abbrev pub upto : List ℕ → (ℕ → ℕ) → ℕ → ℕ
upto [] f = f
upto (x ∷ xs) f = cons x (upto xs f)

-- The thread that began at this position with this word has made the actions t in m steps, has got the numbers ns for its own
-- segments, which are now p, and stands in this slot, or has ended where that has no stream: whatever the replies after those of t, and
-- the numbers after the last.
pub record Stands (of : ℕ → Class) (code : Code) (at arg m : ℕ) (slot : Slot) (p : Segs) (last : ℕ) (t : List Act) : Type 0 where
  pub ns : List ℕ
  pub by : (k : ℕ) (f : ℕ → ℕ) (rs : List Reply) → local_from of code (m + k) at arg (upto ns f) (replies_of t ++ rs) ≡ now of code k slot (own_of f p) rs t
  pub nums : (f : ℕ → ℕ) → Fresh last f → Fresh (globals_of code) (upto ns f)
  pub busy : (j : ℕ) (f : ℕ → ℕ) → j < m → IsOver (local_from of code j at arg (upto ns f) (replies_of t)) → ⊥

-- who sits in the slots: each stream is one of the threads, another one in each slot
pub record Seats (slots : List Slot) (names : ℕ → ℕ) (acts : List Slot) : Type 0 where
  pub live : (s pc : ℕ) (r : Regs) → slice_get slots s ≡ Some (Live pc r) → slice_get acts (names s) ≡ Some (Live pc r)
  pub one : (s s' pc pc' : ℕ) (r r' : Regs) → slice_get slots s ≡ Some (Live pc r) → slice_get slots s' ≡ Some (Live pc' r') → names s ≡ names s' → s ≡ s'
  pub found : (a pc : ℕ) (r : Regs) → slice_get acts a ≡ Some (Live pc r) → (s : ℕ) × (slice_get slots s ≡ Some (Live pc r)) × (names s ≡ a)

-- where each thread of the list stands, after how many steps
pub record Core (of : ℕ → Class) (code : Code) (acts : List Slot) (steps : List ℕ) (own : ℕ → Segs) (last : ℕ) (threads : List (ℕ × ℕ)) (l : List (ℕ × Act)) : Type 0 where
  pub each : (a at arg : ℕ) → slice_get threads a ≡ Some (at, arg) → (slot : Slot) × (m : ℕ) × (slice_get acts a ≡ Some slot) × (slice_get steps a ≡ Some m) × CanStart code at arg × Stands of code at arg m slot (own a) last (part_of a l)
  pub none : (a : ℕ) → slice_get threads a ≡ None → (slice_get acts a ≡ None) × (part_of a l ≡ [])
  pub long : length acts ≡ length threads
  pub counted : length steps ≡ length threads

abbrev pub total : List ℕ → ℕ
total [] = 0
total (m ∷ ms) = m + total ms

-- Actions l that the two parts of the memory allow have led to these slots, this world and this last number, in made steps of all
-- threads.
pub record Stage (of : ℕ → Class) (code : Code) (slots : List Slot) (w : World) (last made : ℕ) : Type 0 where
  pub l : List (ℕ × Act)
  pub names : ℕ → ℕ
  pub acts : List Slot
  pub steps : List ℕ
  pub owner : ℕ → ℕ
  pub seats : Seats slots names acts
  pub core : Core of code acts steps (λ a. own_view a owner w.segs) last (threads_in l) l
  pub in_turn : InTurn 1 l
  pub alive : Alive l
  pub serves : Serves (first_parts code) (globals_of code) l (parted owner w) last
  pub known : (g : ℕ) → Known (globals_of code) l g → (owner g ≡ 0) × (g ≤ last)
  pub sides : (g : ℕ) → SideMade l g → (owner g ≡ 1) × (g ≤ last)
  pub owners : (g : ℕ) → owner g < suc (suc (length acts))
  pub above : (g : ℕ) → last < g → owner g ≡ 0
  pub high : (g : ℕ) → last < g → w.segs g ≡ []
  pub from : globals_of code ≤ last
  pub all_steps : total steps ≡ made

-- Actions l that the two parts of the memory allow, the last of which is a trap.
pub record Fallen (of : ℕ → Class) (code : Code) (made : ℕ) : Type 0 where
  pub l : List (ℕ × Act)
  pub steps : List ℕ
  pub parts : Parts
  pub last : ℕ
  pub shown : Shown of code l steps
  pub serves : Serves (first_parts code) (globals_of code) l parts last
  pub trapped : HasTrapped l
  pub all_steps : total steps ≡ made

-- ---- one step more

-- how many slots are free
abbrev pub frees : List Slot → ℕ
frees [] = 0
frees (Absent ∷ xs) = frees xs
frees (Empty ∷ xs) = suc (frees xs)
frees (Live pc r ∷ xs) = frees xs

-- what a start is answered where so many slots are free
abbrev pub answer : ℕ → ℕ
answer zero = 0
answer (suc n) = 1

-- where so many slots are free, a start is answered so; nothing is said of other replies
abbrev pub AsFree : ℕ → Ask → ℕ → Type 0
AsFree n (Of (Begin at arg)) v = v ≡ answer n
AsFree n (Of (On x)) v = Unit {0}
AsFree n (Of (Print bytes)) v = Unit {0}
AsFree n (Of Stop) v = Unit {0}
AsFree n (Of Tick) v = Unit {0}
AsFree n (Side x) v = Unit {0}

-- The stream in slot s, the thread i, made a step: without an action it goes on, or quits; or the list has one action more,
-- which the thread asks next. A start takes a free slot, if there is one.
pub data Moves (of : ℕ → Class) (code : Code) (slots slots' : List Slot) (s i : ℕ) (l l' : List (ℕ × Act)) : Type 0 where
  goes : l' ≡ l → frees slots' ≡ frees slots → (pc : ℕ) (r : Regs) → slice_get slots' s ≡ Some (Live pc r) → Moves of code slots slots' s i l l'
  quits : l' ≡ l → frees slots' ≡ suc (frees slots) → slice_get slots' s ≡ Some Empty → Moves of code slots slots' s i l l'
  acts : (k : Ask) (v : ℕ) → l' ≡ l ++ (i, act k (Got v)) ∷ [] → AsksBy of code l i k → AsFree (frees slots) k v → frees slots' + length (begun k (Got v)) ≡ frees slots → Moves of code slots slots' s i l l'

-- a Stage one step on, in which each stream that was there is the thread that it was, and the one that stepped has made one step more
pub record Further (of : ℕ → Class) (code : Code) (slots : List Slot) (w : World) (last made : ℕ) (g : Stage of code slots w last made) (s : ℕ) (slots' : List Slot) (w' : World) (last' : ℕ) : Type 0 where
  pub stage : Stage of code slots' w' last' (suc made)
  pub moves : Moves of code slots slots' s (g.names s) g.l stage.l
  pub kept : (t pc : ℕ) (r : Regs) → slice_get slots t ≡ Some (Live pc r) → stage.names t ≡ g.names t
  pub count : (m : ℕ) → slice_get g.steps (g.names s) ≡ Some m → slice_get stage.steps (g.names s) ≡ Some (suc m)

-- the list has one action more, the trap
pub record Falls (of : ℕ → Class) (code : Code) (slots : List Slot) (w : World) (last made : ℕ) (g : Stage of code slots w last made) (s : ℕ) : Type 0 where
  pub fallen : Fallen of code (suc made)
  pub ask : Ask
  pub more : fallen.l ≡ g.l ++ (g.names s, act ask Dead) ∷ []

-- what a step of the stream in slot s comes to
abbrev pub StepsTo : (of : ℕ → Class) (code : Code) (slots : List Slot) (w : World) (last made : ℕ) → Stage of code slots w last made → ℕ → After → Type 0
StepsTo of code slots w last made g s (machine.At st) = Further of code slots w last made g s st.slots st.world st.last
StepsTo of code slots w last made g s (machine.Trap kind) = Falls of code slots w last made g s
StepsTo of code slots w last made g s machine.Waits = Unit {0}
StepsTo of code slots w last made g s machine.Spent = Unit {0}

-- after so many steps, the list being this one and then others
abbrev pub StoodOn : (ℕ → Class) → Code → List (ℕ × Act) → ℕ → Ran → Type 0
StoodOn of code l made (At st) = (g : Stage of code st.slots st.world st.last made) × (t : List (ℕ × Act)) × (g.l ≡ l ++ t)
StoodOn of code l made (Trap kind) = (f : Fallen of code made) × (t : List (ℕ × Act)) × (f.l ≡ l ++ t)
StoodOn of code l made NoRun = Unit {0}

-- the words of the segments of the first so many owners
abbrev pub words_of_owners : ℕ → (ℕ → ℕ) → Segs → ℕ → ℕ
words_of_owners zero owner m last = 0
words_of_owners (suc c) owner m last = words_of_owners c owner m last + words_up_to (view c owner m) last

-- ---- what code promises

-- after so many steps
abbrev pub Stood : (ℕ → Class) → Code → ℕ → Ran → Type 0
Stood of code made (At st) = Stage of code st.slots st.world st.last made
Stood of code made (Trap kind) = Fallen of code made
Stood of code made NoRun = Unit {0}

-- With just the replies of t, the thread that begins there makes the actions t and quits, in m steps.
pub record Ends (of : ℕ → Class) (code : Code) (at arg m : ℕ) (t : List Act) : Type 0 where
  pub num : ℕ → ℕ
  pub fresh : Fresh (globals_of code) num
  pub by : (k : ℕ) → local_from of code (m + k) at arg num (replies_of t) ≡ Ended [] t
  pub busy : (j : ℕ) → j < m → IsOver (local_from of code j at arg num (replies_of t)) → ⊥

-- Actions l that the two parts of the memory allow, in which every thread has ended, in made steps of all; the source's part has the
-- output and the globals, values and states, of this world.
pub record Finished (of : ℕ → Class) (code : Code) (w : World) (made : ℕ) : Type 0 where
  pub l : List (ℕ × Act)
  pub steps : List ℕ
  pub parts : Parts
  pub last : ℕ
  pub in_turn : InTurn 1 l
  pub each : (a at arg : ℕ) → slice_get (threads_in l) a ≡ Some (at, arg) → CanStart code at arg × (m : ℕ) × (slice_get steps a ≡ Some m) × Ends of code at arg m (part_of a l)
  pub none : (a : ℕ) → slice_get (threads_in l) a ≡ None → part_of a l ≡ []
  pub serves : Serves (first_parts code) (globals_of code) l parts last
  pub out : parts.source.out ≡ w.out
  pub globals : (g : ℕ) → g ≤ globals_of code → parts.source.segs g ≡ w.segs g
  pub all_steps : total steps ≡ made

-- the touch has to wait
abbrev pub MustWait : Ask → ℕ → Parts → Type 0
MustWait (Of q) num p = (x : Touch) × (q ≡ On x) × (touched x num p.source.segs ≡ None)
MustWait (Side x) num p = touched x num p.side ≡ None

-- what the thread asks next has to wait
pub record Waiting (of : ℕ → Class) (code : Code) (l : List (ℕ × Act)) (p : Parts) (last a : ℕ) : Type 0 where
  pub ask : Ask
  pub at : ℕ
  pub arg : ℕ
  pub m : ℕ
  pub thread : slice_get (threads_in l) a ≡ Some (at, arg)
  pub shows : Shows of code at arg m (part_of a l ++ act ask Dead ∷ [])
  pub waits : MustWait ask (suc last) p

-- a processor or more, each of 1 to 128 slots
abbrev pub HasSlots : ℕ → ℕ → Type 0
HasSlots q n = (1 ≤ q) × (1 ≤ n) × (n ≤ slots_each)

-- Every run, on any number of processors and slots and in any order, stands for actions of threads, each of which shows its own, in as many steps
-- as it makes; a run that has ended, for those of threads that have ended. The list of a longer run goes on that of its beginning,
-- step by step, and a start is answered 1 exactly where a slot is free at its step. A stream whose step has to wait asks, in its
-- actions, for what has to wait; where no stream is ready, each thread that has not ended does so. The live words are those of the
-- source, those that are shared and those of each thread.
pub record RunsStand (of : ℕ → Class) (code : Code) : Type 0 where
  pub runs : (q n : ℕ) → HasSlots q n → (ss : List ℕ) → Stood of code (length ss) (run code ss (start code q n))
  pub ended : (q n : ℕ) → HasSlots q n → (ss : List ℕ) (st : State) → run code ss (start code q n) ≡ At st → HasQuit st → Finished of code st.world (length ss)
  pub first : (q n : ℕ) → HasSlots q n → (g : Stage of code (start code q n).slots (start code q n).world (start code q n).last 0) × (g.l ≡ [])
  pub steps : (st : State) (made : ℕ) (g : Stage of code st.slots st.world st.last made) (s : ℕ) → StepsTo of code st.slots st.world st.last made g s (step code s st)
  pub onward : (st : State) (made : ℕ) (g : Stage of code st.slots st.world st.last made) (ss : List ℕ) → StoodOn of code g.l (length ss + made) (run code ss st)
  pub words : (st : State) (made : ℕ) (g : Stage of code st.slots st.world st.last made) → live_words st ≡ words_of_owners (suc (suc (length g.acts))) g.owner st.world.segs st.last
  pub waits : (st : State) (made : ℕ) (g : Stage of code st.slots st.world st.last made) (s pc : ℕ) (r : Regs) → slice_get st.slots s ≡ Some (Live pc r) → step code s st ≡ Waits → Waiting of code g.l (parted g.owner st.world) st.last (g.names s)
  pub stuck : (st : State) (made : ℕ) (g : Stage of code st.slots st.world st.last made) → ((s : ℕ) → IsReady code s st → ⊥) → (a pc : ℕ) (r : Regs) → slice_get g.acts a ≡ Some (Live pc r) → Waiting of code g.l (parted g.owner st.world) st.last a
