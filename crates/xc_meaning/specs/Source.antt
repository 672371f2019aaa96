-- Source runs: interleavings of the traces of threads, along which the memory is as it says.
use Rattle.std.specs.Prelude.{◌≡◌, ℕ, suc, List, [], ◌∷◌, ◌++◌, length}
use Rattle.xc_meaning_world.specs.World.{World, Request, On, Print, Begin, Stop, Tick, Reply, Action, world_of}
use Rattle.xc_meaning_world.specs.Runs.{part_of, Applies}
use Rattle.xc_meaning.specs.Terms.{Program}
use Rattle.xc_meaning.specs.Meaning.{Outcome, Done, point, outcome_of, ended, trace_of}

-- the replies of a trace; a tick asks nothing and has none
abbrev pub reply_and : Request → Reply → List Reply → List Reply
reply_and (On x) a rs = a ∷ rs
reply_and (Print bytes) a rs = a ∷ rs
reply_and (Begin at arg) a rs = a ∷ rs
reply_and Stop a rs = a ∷ rs
reply_and Tick a rs = rs

abbrev pub replies_of : List Action → List Reply
replies_of [] = []
replies_of (a ∷ t) = reply_and a.request a.reply (replies_of t)

-- what main does where its requests get these replies
abbrev pub main_with : Program → List Reply → Outcome
main_with p rs = ended (outcome_of p.formats p.body (point rs []))

-- this is what main does where its requests get the replies of this trace, cut off anywhere
abbrev pub IsTrace : Program → List Action → Type 0
IsTrace p t = (rest : List Action) × (trace_of (main_with p (replies_of t)) ≡ t ++ rest)

-- this is what main does to its end
abbrev pub IsWhole : Program → List Action → Type 0
IsWhole p t = main_with p (replies_of t) ≡ Done (point [] t)

-- Thread 0 runs main, and no other thread starts.
pub record SourceRun (p : Program) (l : List (ℕ × Action)) (w : World) : Type 0 where
  pub applies : Applies (length p.globals) (world_of p.globals) l w
  pub trace : IsTrace p (part_of 0 l)
  pub only : (s : ℕ) → part_of (suc s) l ≡ []

-- every thread has ended
abbrev pub HasEnded : Program → List (ℕ × Action) → Type 0
HasEnded p l = IsWhole p (part_of 0 l)
