-- The traces of a thread: what it may do, with whatever replies.
use Rattle.std.specs.Prelude.{◌≡◌, ℕ, List, [], ◌∷◌, ◌++◌}
use Rattle.xc_meaning_world.specs.World.{Request, Reply}
use Rattle.xc_meaning_terms.specs.Terms.{Program}
use Rattle.xc_meaning_threads.specs.Events.{Label, Of, Event, event, mark, replies_of, Task}
use Rattle.xc_meaning_threads.specs.Meaning.{Env, point, Gives, Ends, run_of, trace_of}

-- this is what the task does where its requests get the replies of this trace, cut off anywhere
abbrev pub IsTrace : Program → Task → List Event → Type 0
IsTrace p task t = (n : ℕ) × (rest : List Event) × (trace_of (run_of p n task (replies_of t)) ≡ t ++ rest)

-- this is what the task does to its end
abbrev pub IsWhole : Program → Task → List Event → Type 0
IsWhole p task t = (n : ℕ) × (env : Env) × (run_of p n task (replies_of t) ≡ Gives Ends (point env [] t))

-- after these events the task asks this next, however it is answered
abbrev pub Asks : Program → Task → List Event → Request → Type 0
Asks p task t q = (a : Reply) → IsTrace p task (t ++ event (Of q) a ∷ [])

-- after these events it sets this mark next
abbrev pub Marks : Program → Task → List Event → Label → Type 0
Marks p task t k = IsTrace p task (t ++ mark k ∷ [])
