-- What the choosers pick of the ready streams.
use Rattle.std.specs.Prelude.{◌≡◌, ℕ, ◌+◌, ◌*◌, ◌/◌, ◌%◌, ◌^◌, List, [], ◌∷◌, length, Option, Some, None, slice_get}
use Rattle.std.specs.Option.{option_or}
use Rattle.xc_sched.specs.Streams.{lowest_from}

-- the stream after the one that was chosen, or as before
abbrev pub after : ℕ → Option ℕ → ℕ
after from None = from
after from (Some s) = s + 1

-- Round robin: the lowest ready stream from the one after the last choice on, else the lowest ready one.
abbrev pub PicksInTurn : ℕ → List ℕ → Option ℕ → ℕ → Type 0
PicksInTurn from streams answer next = (answer ≡ option_or (lowest_from from streams) (lowest_from 0 streams)) × (next ≡ after from answer)

-- the generator's next state
abbrev pub next_seed : ℕ → ℕ
next_seed x = (x * 6364136223846793005 + 1442695040888963407) % 2 ^ 64

-- By seed: the generator steps, and its high bits, modulo the number of ready streams, are the place of the choice; none where no stream is ready.
abbrev pub PicksBySeed : ℕ → List ℕ → Option ℕ → ℕ → Type 0
PicksBySeed x streams answer next = (next ≡ next_seed x) × (answer ≡ slice_get streams (next / 2 ^ 33 % length streams))

-- A recorded list of steps: the first is the answer, also where that stream is not ready, and the others are left.
abbrev pub PicksNext : List ℕ → List ℕ → Option ℕ → List ℕ → Type 0
PicksNext [] streams answer left = (answer ≡ None) × (left ≡ [])
PicksNext (s ∷ steps) streams answer left = (answer ≡ Some s) × (left ≡ steps)
