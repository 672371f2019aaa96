-- Lists of actions of threads that the memory and the output allow.
use Rattle.std.specs.Prelude.{◌≡◌, ℕ, zero, suc, ◌^◌, ◌<◌, ◌≤◌, ◌==◌, List, [], ◌∷◌, ◌++◌, Some, if◌then◌else◌}
use Rattle.xc_meaning_world.specs.World.{Segs, World, Touch, Reach, New, Free, Request, On, Print, Begin, Stop, Tick, Reply, Got, Dead, Action, act_of, serve}

-- one thread's actions
abbrev pub part_of : {X : Type 0} → ℕ → List (ℕ × X) → List X
part_of s [] = []
part_of s ((i, a) ∷ l) = if i == s then a ∷ part_of s l else part_of s l

-- the world gives this reply and is left so; a start and a tick ask nothing of it; a start is no trap, and its reply is 1 or 0
abbrev pub Allows : Request → Reply → ℕ → World → World → Type 0
Allows (On x) a num w w' = serve (On x) num w ≡ Some (a, w')
Allows (Print bytes) a num w w' = serve (Print bytes) num w ≡ Some (a, w')
Allows (Begin at arg) Dead num w w' = ⊥
Allows (Begin at arg) (Got v) num w w' = (w ≡ w') × (v ≤ 1)
Allows Stop a num w w' = serve Stop num w ≡ Some (a, w')
Allows Tick a num w w' = w ≡ w'

-- a segment that the touch makes has one of these numbers; none is made of no cells, and what makes none asks for no number
abbrev pub NewInTouch : (ℕ → Type 0) → Touch → ℕ → Type 0
NewInTouch P (Reach act) num = Unit {0}
NewInTouch P (New zero) num = Unit {0}
NewInTouch P (New (suc cells)) num = P num
NewInTouch P (Free g) num = Unit {0}

abbrev pub NewIn : (ℕ → Type 0) → Request → ℕ → Type 0
NewIn P (On x) num = NewInTouch P x num
NewIn P (Print bytes) num = Unit {0}
NewIn P (Begin at arg) num = Unit {0}
NewIn P Stop num = Unit {0}
NewIn P Tick num = Unit {0}

-- a number that a new segment may have: above the globals, at most 2^32 - 1, and of no live segment
abbrev pub IsVacant : ℕ → Segs → ℕ → Type 0
IsVacant globals m num = (globals < num) × (num < 2 ^ 32) × (m num ≡ [])

-- the world allows these actions, one after another, where a new segment has any vacant number
abbrev pub Applies : ℕ → World → List (ℕ × Action) → World → Type 0
Applies globals w [] w' = w ≡ w'
Applies globals w ((i, a) ∷ l) w' = (num : ℕ) × NewIn (IsVacant globals w.segs) a.request num × (m : World) × Allows a.request a.reply num w m × Applies globals m l w'

-- its last action is a trap
abbrev pub HasTrapped : List (ℕ × Action) → Type 0
HasTrapped l = (front : List (ℕ × Action)) × (s : ℕ) × (q : Request) × (l ≡ front ++ (s, act_of q Dead) ∷ [])

-- how many ticks the threads made
abbrev pub ticks_in : Request → ℕ → ℕ
ticks_in (On x) n = n
ticks_in (Print bytes) n = n
ticks_in (Begin at arg) n = n
ticks_in Stop n = n
ticks_in Tick n = suc n

abbrev pub ticks : List (ℕ × Action) → ℕ
ticks [] = 0
ticks ((i, a) ∷ l) = ticks_in a.request (ticks l)
