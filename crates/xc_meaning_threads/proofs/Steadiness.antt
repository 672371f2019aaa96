-- How the meaning's parts go together: with more replies each goes on in the same way.
use Rattle.std.proofs.Common.{◌≡◌, ℕ, ◌==◌, ◌⊎◌, inl, inr, List, [], ◌∷◌, ◌++◌, Bool, true, false, refl, sym, ap, ◌∙◌, subst, append-nil, append_assoc}
use Rattle.std.specs.Prelude.{Option, Some, None}
use Rattle.xc_meaning_world.specs.World.{Request, On, Print as Shows, Begin, Stop, Tick, Reply, Got, Dead}
use Rattle.xc_meaning_threads.specs.Events.{Label, Of, CallBegins, CallEnds, Enter, Leave, Spawn, Fork, Join, Event, event, mark, label_reply, replies_of}
use Rattle.xc_meaning_threads.specs.Meaning.{Env, Point, point, Halt, Trapped, NoReply, NoFuel, Outcome, Gives, Halts, marked, set, asked, ask, stopped, stop, given, and_then, either, trace_of}
use Rattle.xc_meaning_threads.specs.Steady.{with_more, AddsTo, Takes, GoesPast, Leads, Uses, ExtendsHalt, Extends}

-- ---- replies

pub label_append : (k : Label) (a : Reply) (xs ys : List Reply) → label_reply k a (xs ++ ys) ≡ label_reply k a xs ++ ys
label_append (Of (On x)) a xs ys = refl
label_append (Of (Shows bytes)) a xs ys = refl
label_append (Of (Begin at arg)) a xs ys = refl
label_append (Of Stop) a xs ys = refl
label_append (Of Tick) a xs ys = refl
label_append CallBegins a xs ys = refl
label_append CallEnds a xs ys = refl
label_append (Enter r test body values) a xs ys = refl
label_append (Leave id) a xs ys = refl
label_append (Spawn place captures values body) a xs ys = refl
label_append (Fork id index iterations values body) a xs ys = refl
label_append Join a xs ys = refl

pub replies_append : (t u : List Event) → replies_of (t ++ u) ≡ replies_of t ++ replies_of u
replies_append [] u = refl
replies_append (e ∷ t) u = ap (label_reply e.label e.reply) (replies_append t u) ∙ label_append e.label e.reply (replies_of t) (replies_of u)

-- ---- further events

pub stays_same : (p q : Point) → q.trace ≡ p.trace → p.replies ≡ q.replies → Leads p q
stays_same p q t r = record { new = []; trace = t ∙ sym (append-nil p.trace); used = r }

pub marks : (k : Label) (p : Point) → label_reply k (Got 0) [] ≡ [] → Leads p (marked k p)
marks k p h = record { new = mark k ∷ []; trace = refl; used = ap (λ rs. rs ++ p.replies) (sym h) }

leads_on : (p q r : Point) → Leads p q → Leads q r → Leads p r
leads_on p q r a b = record {
  new = a.new ++ b.new;
  trace = b.trace ∙ ap (λ t. t ++ b.new) a.trace ∙ append_assoc p.trace a.new b.new;
  used = a.used ∙ ap (λ rs. replies_of a.new ++ rs) b.used ∙ sym (append_assoc (replies_of a.new) (replies_of b.new) r.replies)
      ∙ ap (λ rs. rs ++ r.replies) (sym (replies_append a.new b.new));
}

uses_on : (p q : Point) (left : List Reply) (t : List Event) → Leads p q → Uses q left t → Uses p left t
uses_on p q left t a b = record {
  new = a.new ++ b.new;
  trace = b.trace ∙ ap (λ t. t ++ b.new) a.trace ∙ append_assoc p.trace a.new b.new;
  used = a.used ∙ ap (λ rs. replies_of a.new ++ rs) b.used ∙ sym (append_assoc (replies_of a.new) (replies_of b.new) left)
      ∙ ap (λ rs. rs ++ left) (sym (replies_append a.new b.new));
}

pub past_on : (t u v : List Event) → GoesPast t u → AddsTo u v → GoesPast t v
past_on t u v a b = record {
  next = a.next;
  rest = a.rest ++ b.0;
  trace = b.1 ∙ ap (λ t. t ++ b.0) a.trace ∙ append_assoc t (a.next ∷ a.rest) b.0;
  takes = a.takes;
}

-- ---- outcomes

weaken_halt : {X : Type 0} (how : Halt) (p q : Point) (t : List Event) (o : Outcome X) → Leads p q → ExtendsHalt how q t o → ExtendsHalt how p t o
weaken_halt Trapped p q t o l h = (h.0, h.1, uses_on p q h.1 t l h.2)
weaken_halt NoReply p q t o l h = (h.0, uses_on p q [] t l h.1)
weaken_halt NoFuel p q t o l h = (h.0, h.1, uses_on p q h.1 t l h.2)

pub weaken : {X : Type 0} (more : List Reply) (p q : Point) (o o' : Outcome X) → Leads p q → Extends more q o o' → Extends more p o o'
weaken more p q (Gives v r) o' l h = (h.0, leads_on p q r l h.1)
weaken more p q (Halts how t) o' l h = weaken_halt how p q t o' l h

-- a part of the meaning that goes on in the same way
abbrev pub Steady : {X : Type 0} → (Point → Outcome X) → Type 0
Steady f = (p : Point) (more : List Reply) → Extends more p (f p) (f (with_more more p))

halt_adds : {X : Type 0} (how : Halt) (p : Point) (t : List Event) (o : Outcome X) → ExtendsHalt how p t o → AddsTo p.trace t
halt_adds Trapped p t o h = (h.2.new, h.2.trace)
halt_adds NoReply p t o h = (h.1.new, h.1.trace)
halt_adds NoFuel p t o h = (h.2.new, h.2.trace)

pub adds : {X : Type 0} (more : List Reply) (p : Point) (o o' : Outcome X) → Extends more p o o' → AddsTo p.trace (trace_of o)
adds more p (Gives v q) o' h = (h.1.new, h.1.trace)
adds more p (Halts how t) o' h = halt_adds how p t o' h

-- what comes after has further events
grown : {X Y : Type 0} (o : Outcome X) (go : X → Point → Outcome Y) → ((x : X) → Steady (go x)) → AddsTo (trace_of o) (trace_of (and_then o go))
grown (Gives x q) go h = adds [] q (go x q) (go x (with_more [] q)) (h x q [])
grown (Halts how t) go h = ([], sym (append-nil t))

halt_stays : {X Y : Type 0} (how : Halt) (p : Point) (t : List Event) (o : Outcome X) → ExtendsHalt how p t o → (go : X → Point → Outcome Y)
    → ((x : X) → Steady (go x)) → ExtendsHalt how p t (and_then o go)
halt_stays Trapped p t o h go s = (ap (λ z. and_then z go) h.0, h.1, h.2)
halt_stays NoReply p t o (inl e, u) go s = (inl (ap (λ z. and_then z go) e), u)
halt_stays NoReply p t o (inr g, u) go s = (inr (past_on t (trace_of o) (trace_of (and_then o go)) g (grown o go s)), u)
halt_stays NoFuel p t o h go s = (ap (λ z. and_then z go) h.0, h.1, h.2)

pub after : {X Y : Type 0} (more : List Reply) (p : Point) (o o' : Outcome X) → Extends more p o o' → (go : X → Point → Outcome Y)
    → ((x : X) → Steady (go x)) → Extends more p (and_then o go) (and_then o' go)
after more p (Gives x q) o' h go s = subst (λ z. Extends more p (go x q) (and_then z go)) (sym h.0)
    (weaken more p q (go x q) (go x (with_more more q)) h.1 (s x q more))
after more p (Halts how t) o' h go s = halt_stays how p t o' h go s

pub then_steady : {X Y : Type 0} (f : Point → Outcome X) (go : X → Point → Outcome Y) → Steady f → ((x : X) → Steady (go x)) → Steady (λ p. and_then (f p) go)
then_steady f go h s p more = after more p (f p) (f (with_more more p)) (h p more) go s

pub gives_steady : {X : Type 0} (x : X) → Steady (λ p. Gives x p)
gives_steady x p more = (refl, stays_same p p refl refl)

pub marked_steady : {X : Type 0} (f : Point → Outcome X) (k : Label) → label_reply k (Got 0) [] ≡ [] → Steady f → Steady (λ p. f (marked k p))
marked_steady f k h s p more = weaken more p (marked k p) (f (marked k p)) (f (marked k (with_more more p))) (marks k p h) (s (marked k p) more)

pub set_steady : {X : Type 0} (f : Point → Outcome X) (x v : ℕ) → Steady f → Steady (λ p. f (set x v p))
set_steady f x v s p more = weaken more p (set x v p) (f (set x v p)) (f (set x v (with_more more p))) (stays_same p (set x v p) refl refl) (s (set x v p) more)

pub at_env_steady : {X : Type 0} (f : Point → Outcome X) (env : Env) → Steady f → Steady (λ p. f (record p { env = env }))
at_env_steady f env s p more =
    let q : Point = record p { env = env } in
    weaken more p q (f q) (f (with_more more q)) (stays_same p q refl refl) (s q more)

pub either_steady : {X : Type 0} (b : Bool) (f g : Point → Outcome X) → Steady f → Steady g → Steady (either b f g)
either_steady true f g s t p more = s p more
either_steady false f g s t p more = t p more

pub if_zero_steady : {X : Type 0} (n : ℕ) (f g : Point → Outcome X) → Steady f → Steady g → Steady (either (n == 0) f g)
if_zero_steady n f g s t = either_steady (n == 0) f g s t

-- ---- requests

-- a request that has a reply
abbrev pub Answered : Request → Type 0
Answered q = (a : Reply) → Takes (event (Of q) a)

module _ (q : Request) (takes : Answered q) where
  first_reply : (env : Env) (rs : List Reply) (t : List Event) → (asked env q rs t ≡ Halts NoReply t) ⊎ GoesPast t (trace_of (asked env q rs t))
  first_reply env [] t = inl refl
  first_reply env (Dead ∷ rs) t = inr (record { next = event (Of q) Dead; rest = []; trace = refl; takes = takes Dead })
  first_reply env (Got v ∷ rs) t = inr (record { next = event (Of q) (Got v); rest = []; trace = refl; takes = takes (Got v) })

  asks : (env : Env) (rs more : List Reply) (t : List Event) → Extends more (point env rs t) (asked env q rs t) (asked env q (rs ++ more) t)
  asks env [] more t = (first_reply env more t, record { new = []; trace = sym (append-nil t); used = refl })
  asks env (Dead ∷ rs) more t = (refl, rs, record { new = event (Of q) Dead ∷ []; trace = refl; used = ap (λ xs. xs ++ rs) (sym (takes Dead)) })
  asks env (Got v ∷ rs) more t = (refl, record { new = event (Of q) (Got v) ∷ []; trace = refl; used = ap (λ xs. xs ++ rs) (sym (takes (Got v))) })

  pub ask_steady : Steady (ask q)
  ask_steady p more = asks p.env p.replies more p.trace

first_stop : (rs : List Reply) (t : List Event) → (stopped rs t ≡ Halts NoReply t) ⊎ GoesPast t (trace_of (stopped rs t))
first_stop [] t = inl refl
first_stop (a ∷ rs) t = inr (record { next = event (Of Stop) a; rest = []; trace = refl; takes = refl })

stops : (env : Env) (rs more : List Reply) (t : List Event) → Extends more (point env rs t) (stopped rs t) (stopped (rs ++ more) t)
stops env [] more t = (first_stop more t, record { new = []; trace = sym (append-nil t); used = refl })
stops env (a ∷ rs) more t = (refl, rs, record { new = event (Of Stop) a ∷ []; trace = refl; used = refl })

pub stop_steady : Steady stop
stop_steady p more = stops p.env p.replies more p.trace

pub given_steady : (o : Option ℕ) → Steady (given o)
given_steady None p more = stop_steady p more
given_steady (Some v) p more = gives_steady v p more

-- the fuel is out whatever the replies are
pub late_steady : {X : Type 0} → Steady {X = X} (λ p. Halts NoFuel p.trace)
late_steady p more = (refl, p.replies, record { new = []; trace = sym (append-nil p.trace); used = refl })
