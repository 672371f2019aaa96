-- The steps of one stream alone, from any stage.
use Rattle.std.specs.Prelude.{◌≡◌, ◌⊎◌, ℕ, ◌+◌, ◌<◌, ◌≤◌, List, [], ◌∷◌, ◌++◌, Some, slice_get, replicate}
use Rattle.xc_meaning_world.specs.World.{Got}
use Rattle.xc_meaning_world.specs.Runs.{part_of}
use Rattle.xc_isa.specs.declared.code.Code.{Code}
use Rattle.xc_isa.specs.Effects.{Regs}
use Rattle.xc_isa.specs.Machine as machine
use Rattle.xc_isa.specs.Machine.{Slot, Empty, Live, State, After, step}
use Rattle.xc_isa.specs.Runs.{At, run}
use Rattle.xc_isa_streams.specs.Class.{Class}
use Rattle.xc_isa_streams.specs.Parts.{Ask, act, threads_in}
use Rattle.xc_isa_streams.specs.Promises.{Shows, AsksBy, parted, Stage, frees, AsFree, Further, Falls, Waiting}

abbrev pub IsLive : List Slot → ℕ → Type 0
IsLive slots s = (pc : ℕ) × (r : Regs) × (slice_get slots s ≡ Some (Live pc r))

-- n steps of the stream in slot s alone, without an action, lead from a stage to one of this state.
pub record Silent (of : ℕ → Class) (code : Code) (st : State) (made : ℕ) (g : Stage of code st.slots st.world st.last made) (s n : ℕ) (st' : State) : Type 0 where
  pub runs : run code (replicate n s) st ≡ At st'
  pub now : ℕ
  pub count : now ≡ n + made
  pub stage : Stage of code st'.slots st'.world st'.last now
  pub same : stage.l ≡ g.l
  pub name : stage.names s ≡ g.names s
  pub live : IsLive st'.slots s
  pub free : frees st'.slots ≡ frees st.slots
  pub counted : (m : ℕ) → slice_get g.steps (g.names s) ≡ Some m → slice_get stage.steps (g.names s) ≡ Some (n + m)

-- the step adds an action that the thread asks next, or the thread ends
abbrev pub ActsOrQuits : (of : ℕ → Class) (code : Code) (st : State) (made : ℕ) → Stage of code st.slots st.world st.last made → ℕ → State → Type 0
ActsOrQuits of code st made g s st' =
    (f : Further of code st.slots st.world st.last made g s st'.slots st'.world st'.last)
    × (((k : Ask) × (v : ℕ) × (f.stage.l ≡ g.l ++ (g.names s, act k (Got v)) ∷ []) × AsksBy of code g.l (g.names s) k × AsFree (frees st.slots) k v)
    ⊎ ((f.stage.l ≡ g.l) × (slice_get st'.slots s ≡ Some Empty)))

-- what a step that is not silent comes to: an action, the end, a trap, a wait for what is asked next, or no number for a segment
abbrev pub Comes : (of : ℕ → Class) (code : Code) (st : State) (made : ℕ) → Stage of code st.slots st.world st.last made → ℕ → After → Type 0
Comes of code st made g s (machine.At st') = ActsOrQuits of code st made g s st'
Comes of code st made g s (machine.Trap kind) = Falls of code st.slots st.world st.last made g s
Comes of code st made g s machine.Waits = Waiting of code g.l (parted g.owner st.world) st.last (g.names s)
Comes of code st made g s machine.Spent = Unit {0}

-- From any stage, the steps of one stream alone are silent, so many as one likes, or after some silent ones comes another.
abbrev pub StreamsAlone : (ℕ → Class) → Code → Type 0
StreamsAlone of code = (st : State) (made : ℕ) (g : Stage of code st.slots st.world st.last made) (s n : ℕ) → IsLive st.slots s →
    ((st' : State) × Silent of code st made g s n st')
    ⊎ ((j : ℕ) × (st' : State) × (q : Silent of code st made g s j st') × (j < n) × Comes of code st' q.now q.stage s (step code s st'))

-- Where a thread shows its actions so far in w steps at most, as its protocol's costs may say, no more than w silent steps of its
-- stream alone come before the next other one.
abbrev pub StreamsComeOn : (ℕ → Class) → Code → Type 0
StreamsComeOn of code = (st : State) (made : ℕ) (g : Stage of code st.slots st.world st.last made) (s at arg w : ℕ) → IsLive st.slots s → slice_get (threads_in g.l) (g.names s) ≡ Some (at, arg) →
    ((m : ℕ) → Shows of code at arg m (part_of (g.names s) g.l) → m ≤ w) →
    (j : ℕ) × (st' : State) × (q : Silent of code st made g s j st') × (j ≤ w) × Comes of code st' q.now q.stage s (step code s st')
