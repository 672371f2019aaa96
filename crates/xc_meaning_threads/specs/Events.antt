-- What the threads of a program do: events, each of a label with a reply, and what the memory and the output see of them.
use Rattle.std.specs.Prelude.{ℕ, List, [], ◌∷◌, ◌++◌, map}
use Rattle.xc_meaning_world.specs.World.{Request, On, Print, Begin, Stop, Tick, Reply, Got, Dead, Action, act_of}
use Rattle.xc_meaning_terms.specs.Terms.{Range, Term, Formal, Command}
use Rattle.xc_meaning_terms.specs.Pointers.{segment_of}
use Rattle.std.specs.Prelude.{Option}

-- What a thread does next: a request of the world, or a mark that asks nothing and that the world does not see.
pub data Label : Type 0 where
  Of : (q : Request) → Label
  -- a call begins, which is a tick, and ends
  CallBegins : Label
  CallEnds : Label
  -- a loop in normal form, which is not Concurrent, is entered with these values of the locals, and is left
  Enter : (range : Range) (test : Option Term) (body : Command) (values : List ℕ) → Label
  Leave : (id : ℕ) → Label
  -- a thread starts with copies of values; its answer comes to a place
  Spawn : (place : ℕ) (captures : List Formal) (values : List ℕ) (body : Command) → Label
  -- a thread starts for each value of the index of a Concurrent loop, with the values of the locals; and all these have ended
  Fork : (id index : ℕ) (iterations values : List ℕ) (body : Command) → Label
  Join : Label

pub record Event : Type 0 where
  pub label : Label
  pub reply : Reply

abbrev pub event : Label → Reply → Event
event k a = record { label = k; reply = a }

-- a mark has no reply of its own
abbrev pub mark : Label → Event
mark k = event k (Got 0)

-- ---- replies

-- a tick asks nothing and has none
abbrev pub request_reply : Request → Reply → List Reply → List Reply
request_reply (On x) a rs = a ∷ rs
request_reply (Print bytes) a rs = a ∷ rs
request_reply (Begin at arg) a rs = a ∷ rs
request_reply Stop a rs = a ∷ rs
request_reply Tick a rs = rs

abbrev pub label_reply : Label → Reply → List Reply → List Reply
label_reply (Of q) a rs = request_reply q a rs
label_reply CallBegins a rs = rs
label_reply CallEnds a rs = rs
label_reply (Enter range test body values) a rs = rs
label_reply (Leave id) a rs = rs
label_reply (Spawn place captures values body) a rs = rs
label_reply (Fork id index iterations values body) a rs = rs
label_reply Join a rs = rs

-- the replies of a trace
abbrev pub replies_of : List Event → List Reply
replies_of [] = []
replies_of (e ∷ t) = label_reply e.label e.reply (replies_of t)

-- the number of the new segment that was answered
abbrev pub number_in : Reply → ℕ
number_in Dead = 0
number_in (Got w) = segment_of w

-- ---- what the world sees

-- of an event the world sees its request; a call is a tick there
abbrev pub seen_of : Label → Reply → List Action
seen_of (Of q) a = act_of q a ∷ []
seen_of CallBegins a = act_of Tick a ∷ []
seen_of CallEnds a = []
seen_of (Enter range test body values) a = []
seen_of (Leave id) a = []
seen_of (Spawn place captures values body) a = []
seen_of (Fork id index iterations values body) a = []
seen_of Join a = []

abbrev pub by_thread : {A : Type 0} → ℕ → List A → List (ℕ × A)
by_thread s acts = map (λ a. (s, a)) acts

abbrev pub seen : List (ℕ × Event) → List (ℕ × Action)
seen [] = []
seen ((s, e) ∷ l) = by_thread s (seen_of e.label e.reply) ++ seen l

-- ---- threads

-- What a thread runs: `main`; the body of a `future` statement, whose answer comes to a place; or one iteration of a Concurrent loop.
pub data Task : Type 0 where
  Main : Task
  Body : (place : ℕ) (captures : List Formal) (values : List ℕ) (body : Command) → Task
  Turn : (index value : ℕ) (values : List ℕ) (body : Command) → Task

-- the threads that an event starts, in order
abbrev pub started_by : Label → List Task
started_by (Spawn place captures values body) = Body place captures values body ∷ []
started_by (Fork id index iterations values body) = map (λ v. Turn index v values body) iterations
started_by (Of q) = []
started_by CallBegins = []
started_by CallEnds = []
started_by (Enter range test body values) = []
started_by (Leave id) = []
started_by Join = []
