-- The meaning goes on in the same way however many replies are left: more of them change nothing of what was done, and each that is
-- used stands in the trace. So traces are closed under prefixes.
use Rattle.std.specs.Prelude.{◌≡◌, ◌⊎◌, ℕ, List, [], ◌∷◌, ◌++◌}
use Rattle.xc_meaning_world.specs.World.{Reply}
use Rattle.xc_meaning_terms.specs.Terms.{Program}
use Rattle.xc_meaning_threads.specs.Events.{Event, label_reply, replies_of, Task}
use Rattle.xc_meaning_threads.specs.Meaning.{Point, Halt, Trapped, NoReply, NoFuel, Outcome, Gives, Halts, Ends, trace_of, run_of}
use Rattle.xc_meaning_threads.specs.Traces.{IsTrace, IsWhole}

-- more replies behind those that are left
abbrev pub with_more : List Reply → Point → Point
with_more more p = record p { replies = p.replies ++ more }

-- the second has further events
abbrev pub AddsTo : List Event → List Event → Type 0
AddsTo t u = (new : List Event) × (u ≡ t ++ new)

-- the event has a reply of its own
abbrev pub Takes : Event → Type 0
Takes e = label_reply e.label e.reply [] ≡ e.reply ∷ []

-- the second has further events, the first of which has a reply
pub record GoesPast (t u : List Event) : Type 0 where
  pub next : Event
  pub rest : List Event
  pub trace : u ≡ t ++ next ∷ rest
  pub takes : Takes next

-- from the one point to the other there are new events, which used the replies between
pub record Leads (p q : Point) : Type 0 where
  pub new : List Event
  pub trace : q.trace ≡ p.trace ++ new
  pub used : p.replies ≡ replies_of new ++ q.replies

-- from this point on there are new events, which used all replies but these
pub record Uses (p : Point) (left : List Reply) (t : List Event) : Type 0 where
  pub new : List Event
  pub trace : t ≡ p.trace ++ new
  pub used : p.replies ≡ replies_of new ++ left

-- the second is what comes of this halt with more replies
abbrev pub ExtendsHalt : {X : Type 0} → Halt → Point → List Event → Outcome X → Type 0
ExtendsHalt Trapped p t o = (o ≡ Halts Trapped t) × (left : List Reply) × Uses p left t
ExtendsHalt NoReply p t o = ((o ≡ Halts NoReply t) ⊎ GoesPast t (trace_of o)) × Uses p [] t
ExtendsHalt NoFuel p t o = (o ≡ Halts NoFuel t) × (left : List Reply) × Uses p left t

-- the second is what the first comes to with more replies
abbrev pub Extends : {X : Type 0} → List Reply → Point → Outcome X → Outcome X → Type 0
Extends more p (Gives x q) o = (o ≡ Gives x (with_more more q)) × Leads p q
Extends more p (Halts how t) o = ExtendsHalt how p t o

-- a trace that is cut off anywhere is one
abbrev pub TracesAreClosed : Type 0
TracesAreClosed = (p : Program) (task : Task) (t u : List Event) → IsTrace p task (t ++ u) → IsTrace p task t

-- what a task does with any replies and fuel is a trace
abbrev pub RunsAreTraces : Type 0
RunsAreTraces = (p : Program) (task : Task) (n : ℕ) (rs : List Reply) → IsTrace p task (trace_of (run_of p n task rs))

-- and it is whole where the task comes to its end
abbrev pub EndsAreWhole : Type 0
EndsAreWhole = (p : Program) (task : Task) (n : ℕ) (rs : List Reply) (q : Point) → run_of p n task rs ≡ Gives Ends q → IsWhole p task q.trace
