-- Runs along a chooser, and how they end.
use Rattle.std.specs.Prelude.{◌≡◌, ◌⊎◌, ◌<◌, ◌≤◌, ◌+◌, ◌-◌, ◌^◌, ℕ, min, Bool, List, [], ◌∷◌, ◌++◌, length, map, Option, Some, None}
use Rattle.std.specs.List.{range_with_len}
use Rattle.xc_sched.specs.Streams.{streams_of}
use Rattle.xc_isa.specs.declared.code.Code.{Code}
use Rattle.xc_isa.specs.Machine.{State, Trap as TrapsBy, Waits, step, HasQuit}
use Rattle.xc_machine.specs.declared.run.End.{End}
use Rattle.xc_machine.specs.declared.run.End.TheVariants.{Ended, Stuck, Unfinished, BadChoice, Trap, WordsFull, OutFull, NoMemory}
use Rattle.xc_machine.specs.declared.stepped.Stepped.TheVariants as stepped
use Rattle.xc_machine.specs.Limits.{Limits, Steps, can_step}

-- for each slot whether its stream is ready
abbrev pub ready_flags : Code → State → List Bool
ready_flags code st = map (λ s. can_step (step code s st)) (range_with_len 0 (length st.slots))

-- the streams that are ready, in ascending order
abbrev pub ready_streams : Code → State → List ℕ
ready_streams code st = streams_of (ready_flags code st)

-- the count of steps after so many more, up to 2^64 - 1
abbrev pub count_after : ℕ → ℕ → ℕ
count_after n more = min (n + more) (2 ^ 64 - 1)

module _ {C : Type 0} (picks : C → List ℕ → Option ℕ → C → Type 0) (code : Code) (limits : Limits) where
  -- The chooser picks these streams in turn, each from those that are ready, and each step is made within the limits.
  abbrev pub Follows : C → State → List ℕ → C → State → Type 0
  Follows c st [] d new = (c ≡ d) × (st ≡ new)
  Follows c st (s ∷ ss) d new = (e : C) × (mid : State) × picks c (ready_streams code st) (Some s) e × Steps code limits s stepped.Went st mid × Follows e mid ss d new

  -- The chooser picks a stream for one more step, some stream being ready.
  pub record Picks (limit made : ℕ) (c : C) (st : State) (s : ℕ) (d : C) : Type 0 where
    pub within : made < limit
    pub some_ready : ready_streams code st ≡ [] → ⊥
    pub picked : picks c (ready_streams code st) (Some s) d

  -- Why a run ends after so many steps, the chooser being c and then d, with the machine at st; the causes stand in the order
  -- in which they decide.
  abbrev pub Ends : ℕ → ℕ → C → State → C → End → Type 0
  Ends limit made c st d Ended = HasQuit st × (d ≡ c)
  Ends limit made c st d Stuck = (HasQuit st → ⊥) × (ready_streams code st ≡ []) × (d ≡ c)
  Ends limit made c st d Unfinished = (ready_streams code st ≡ [] → ⊥) × (((made ≡ limit) × (d ≡ c)) ⊎ ((made < limit) × picks c (ready_streams code st) None d))
  Ends limit made c st d (BadChoice k) = (s : ℕ) × Picks limit made c st s d × (step code s st ≡ Waits) × (k ≡ made)
  Ends limit made c st d (Trap kind s) = Picks limit made c st s d × (step code s st ≡ TrapsBy kind)
  Ends limit made c st d (WordsFull live asked) = (s : ℕ) × Picks limit made c st s d × Steps code limits s (stepped.WordsFull live asked) st st
  Ends limit made c st d (OutFull len piece) = (s : ℕ) × Picks limit made c st s d × Steps code limits s (stepped.OutFull len piece) st st
  Ends limit made c st d NoMemory = (s : ℕ) × Picks limit made c st s d

  -- the stream that was named for the step that was refused
  abbrev pub refused : (limit made : ℕ) (c : C) (st : State) (d : C) (end : End) → Ends limit made c st d end → List ℕ
  refused limit made c st d Ended h = []
  refused limit made c st d Stuck h = []
  refused limit made c st d Unfinished h = []
  refused limit made c st d (BadChoice k) h = h.0 ∷ []
  refused limit made c st d (Trap kind s) h = s ∷ []
  refused limit made c st d (WordsFull live asked) h = h.0 ∷ []
  refused limit made c st d (OutFull len piece) h = h.0 ∷ []
  refused limit made c st d NoMemory h = h.0 ∷ []

  -- A run from a chooser and a state to others, of at most so many steps; the machine's count of steps goes up by as many.
  pub record RunsTo (limit : ℕ) (c : C) (st : State) (before : ℕ) (d : C) (new : State) (after : ℕ) (end : End) : Type 0 where
    pub streams : List ℕ
    pub last : C
    pub follows : Follows c st streams last new
    pub few : length streams ≤ limit
    pub counted : after ≡ count_after before (length streams)
    pub ends : Ends limit (length streams) last new d end

  -- all streams that the chooser named
  abbrev pub named_in : (limit : ℕ) (c : C) (st : State) (before : ℕ) (d : C) (new : State) (after : ℕ) (end : End) → RunsTo limit c st before d new after end → List ℕ
  named_in limit c st before d new after end run = run.streams ++ refused limit (length run.streams) run.last new d end run.ends

-- ended or stuck; none where a stream is ready
abbrev pub Rests : Code → State → Option End → Type 0
Rests code st None = ready_streams code st ≡ [] → ⊥
Rests code st (Some Ended) = HasQuit st
Rests code st (Some Stuck) = (HasQuit st → ⊥) × (ready_streams code st ≡ [])
Rests code st (Some _) = ⊥
