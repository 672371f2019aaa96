-- The machine does what `main` does.
use Rattle.std.specs.Prelude.{◌≡◌, ◌⊎◌, ◌≤◌, ℕ, List}
use Rattle.xc_meaning_world.specs.World.{Reply}
use Rattle.xc_meaning_terms.specs.Terms.{Program}
use Rattle.xc_meaning_threads.specs.Events.{Event, Main, replies_of}
use Rattle.xc_meaning_threads.specs.Meaning.{NoFuel, Outcome, Halts, Exit, run_of, trace_of}
use Rattle.xc_meaning_threads.specs.Traces.{IsTrace}
use Rattle.xc_meaning_threads.specs.Steady.{AddsTo}
use Rattle.xc_meaning_moves.specs.Machine.{moves, start}

-- The machine does what `main` does, whatever the replies: with fuel n, after some number of moves, which is n or more where the fuel
-- runs out.
abbrev pub Interprets : Type 0
Interprets = (prog : Program) (n : ℕ) (rs : List Reply) → (j : ℕ) × (moves prog j (start prog rs) ≡ run_of prog n Main rs)
    × ((t : List Event) → run_of prog n Main rs ≡ Halts NoFuel t → n ≤ j)

-- the fuel ran out
abbrev pub IsLate : Outcome Exit → Type 0
IsLate (Halts NoFuel t) = Unit {0}
IsLate _ = ⊥

-- What the machine stops with, `main` comes to with some fuel.
abbrev pub HaltsRightly : Type 0
HaltsRightly = (prog : Program) (rs : List Reply) (j : ℕ) (o : Outcome Exit) → moves prog j (start prog rs) ≡ o → (IsLate o → ⊥) → (n : ℕ) × (run_of prog n Main rs ≡ o)

-- Whatever fuel does not run out, `main` comes to the same.
abbrev pub OneOutcome : Type 0
OneOutcome = (prog : Program) (rs : List Reply) (m n : ℕ) → (IsLate (run_of prog m Main rs) → ⊥) → (IsLate (run_of prog n Main rs) → ⊥) → run_of prog m Main rs ≡ run_of prog n Main rs

-- Whatever the machine has made so far is a trace of `main`.
abbrev pub StepsAreTraces : Type 0
StepsAreTraces = (prog : Program) (rs : List Reply) (j : ℕ) → IsTrace prog Main (trace_of (moves prog j (start prog rs)))

-- Two traces of `main` with the same replies: one goes on where the other is cut off.
abbrev pub TracesAgree : Type 0
TracesAgree = (prog : Program) (t u : List Event) → IsTrace prog Main t → IsTrace prog Main u → replies_of t ≡ replies_of u → AddsTo t u ⊎ AddsTo u t
