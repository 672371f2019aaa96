-- What holds after any interleaving: of the shared cells, and of all else that the actions of threads change.
use Rattle.std.specs.Prelude.{◌≡◌, ℕ, ◌+◌, List, [], ◌∷◌, ◌++◌, length}
use Rattle.xc_meaning_world.specs.World.{Got, Dead}
use Rattle.xc_meaning_world.specs.Runs.{NewIn}
use Rattle.xc_isa.specs.declared.code.Code.{Code}
use Rattle.xc_isa.specs.Machine.{start}
use Rattle.xc_isa.specs.Runs.{Ran, At, Trap, NoRun, run}
use Rattle.xc_isa_streams.specs.Class.{Class}
use Rattle.xc_isa_streams.specs.Parts.{Ask, Act, act, Parts, AllowsIn, request_of, IsAbove, Serves, Alive, SideMade}
use Rattle.xc_isa_streams.specs.Promises.{globals_of, first_parts, Shown, AsksBy, HasSlots, parted, Stage, Fallen}

-- After actions l that lead to the parts p and that the threads show, none a trap, thread a asks k next, and is answered v.
pub record Happens (of : ℕ → Class) (code : Code) (l : List (ℕ × Act)) (p : Parts) (a : ℕ) (k : Ask) (v : ℕ) (p' : Parts) : Type 0 where
  pub steps : List ℕ
  pub last : ℕ
  pub num : ℕ
  pub serves : Serves (first_parts code) (globals_of code) l p last
  pub shown : Shown of code l steps
  pub alive : Alive l
  pub asks : AsksBy of code l a k
  pub new : NewIn (IsAbove last) (request_of k) num
  pub allows : AllowsIn k (Got v) num p p'

-- it holds at first, and each action of a thread keeps it
pub record IsInvariant (of : ℕ → Class) (code : Code) (Inv : List (ℕ × Act) → Parts → Type 0) : Type 0 where
  pub first : Inv [] (first_parts code)
  pub step : (l : List (ℕ × Act)) (p : Parts) (a : ℕ) (k : Ask) (v : ℕ) (p' : Parts) → Inv l p → Happens of code l p a k v p' → Inv (l ++ (a, act k (Got v)) ∷ []) p'

-- after so many steps it holds; before a trap it held
abbrev pub HoldsIn : (ℕ → Class) → Code → (List (ℕ × Act) → Parts → Type 0) → ℕ → Ran → Type 0
HoldsIn of code Inv made (At st) =
    (g : Stage of code st.slots st.world st.last made) × Inv g.l (parted g.owner st.world) × ((h : ℕ) → SideMade g.l h → (parted g.owner st.world).side h ≡ st.world.segs h)
HoldsIn of code Inv made (Trap kind) =
    (f : Fallen of code made) × (front : List (ℕ × Act)) × (a : ℕ) × (k : Ask) × (f.l ≡ front ++ (a, act k Dead) ∷ [])
    × ((p : Parts) (last : ℕ) → Serves (first_parts code) (globals_of code) front p last → Inv front p)
HoldsIn of code Inv made NoRun = Unit {0}

-- In every run, on any number of processors and slots and in any order, an invariant holds of the source's part and of what is shared;
-- and a segment that was made to be shared has, in the machine's memory, the cells of that part.
abbrev pub Holds : (ℕ → Class) → Code → (List (ℕ × Act) → Parts → Type 0) → Type 0
Holds of code Inv = (q n : ℕ) → HasSlots q n → (ss : List ℕ) → HoldsIn of code Inv (length ss) (run code ss (start code q n))
