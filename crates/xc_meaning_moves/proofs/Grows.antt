-- Each move of the machine adds events at most; so whatever it has made so far is a trace.
use Rattle.std.proofs.Common.{◌≡◌, ℕ, zero, suc, ◌+◌, ◌-◌, ◌≤◌, ◌==◌, List, [], ◌∷◌, ◌++◌, Bool, true, false, refl, sym, ap, ◌∙◌, subst, arith, append-nil, append_assoc, ⊎_elim, ◌⊎◌, inl, inr}
use Rattle.std.specs.Prelude.{◌&&◌, cond, Option, Some, None, slice_get}
use Rattle.xc_word.specs.declared.memory.Kind.{Kind}
use Rattle.xc_word.specs.declared.memory.Kind.TheVariants as kind
use Rattle.xc_meaning_world.specs.World.{New, Free, On, Tick, Reply}
use Rattle.xc_meaning_terms.specs.Terms.{Term, Call, Print, Terms, NoMore, More, Formal, ByValue, InMemory, Mark, Unmarked, Normal, Concurrent, Header, Command, Declare, Object, Return, Commands, End, Then, Items, NoItem, At, Other, Do, Function, Program}
use Rattle.xc_meaning_terms.specs.Pointers.{segment_of, offset_of, element, member_of, operate}
use Rattle.xc_meaning_terms.specs.Ranges.{is_near}
use Rattle.xc_meaning_threads.specs.Events.{Event, Of, mark, CallBegins, CallEnds, Enter, Leave, Spawn, Main, replies_of}
use Rattle.xc_meaning_threads.specs.Meaning.{Point, Outcome, Gives, Halts, Exit, Ends, Breaks, Continues, Returns, and_then, marked, ticked, set, ask, stop, given, touch, write, show, format_at, update_local, purged, freed, values_in, forked, compared, formals_of, nothing_set, run_of, trace_of}
use Rattle.xc_meaning_threads.specs.Traces.{IsTrace}
use Rattle.xc_meaning_threads.specs.Steady.{with_more, AddsTo}
use Rattle.xc_meaning_threads.proofs.Steadiness.{Steady, adds, then_steady, ask_steady, stop_steady, given_steady, either_steady}
use Rattle.xc_meaning_threads.proofs.Goes.{touch_steady, write_steady, show_steady, update_steady}
use Rattle.xc_meaning_threads.proofs.Closed.{runs_are_traces, traces_are_closed}
use Rattle.xc_meaning_moves.specs.Machine.{Finish, UpdatesLocal, Elements, Members, Reads, Writes, Adds, Purges, Updates, Binaries, Truths, Invokes, Prints, After, Nothing, Turns, Frame, Operands, AndThen, OrThen, Chooses, UpdatesAt, Fills, IfThen, IfElses, LoopTests, Limits, Places, Captures, Sequence, ItemsAfter, Freeing, LoopBody, Leaving, CallOf, Control, Evaluate, Gave, Invoke, Execute, Runs, RunsItems, Loops, Ended, Config, Next, Goes, Stops, goes, on_given, valued, past, choose, finished, binds, enters, finishes, operands, one_operand, evaluates, fills, declares, turns, steps_on, tests, begins, captures, runs_items, executes, begins_with, runs, gave, after_body, ends, does, on_next, moves, start}
use Rattle.xc_meaning_moves.specs.Laws.{IsLate, StepsAreTraces, TracesAgree}
use Rattle.xc_meaning_moves.proofs.Interprets.{interprets}
use Rattle.xc_meaning_moves.proofs.Exact.{halted, late_or_not}

nothing : (t : List Event) → AddsTo t t
nothing t = ([], sym (append-nil t))

one : (t : List Event) (e : Event) → AddsTo t (t ++ e ∷ [])
one t e = (e ∷ [], refl)

both : (t u v : List Event) → AddsTo t u → AddsTo u v → AddsTo t v
both t u v a b = (a.0 ++ b.0, b.1 ∙ ap (λ x. x ++ b.0) a.1 ∙ append_assoc t a.0 b.0)

by_steady : {X : Type 0} (f : Point → Outcome X) → Steady f → (p : Point) → AddsTo p.trace (trace_of (f p))
by_steady f h p = adds [] p (f p) (f (with_more [] p)) (h p [])

-- the events after a move
abbrev pub next_trace : Next → List Event
next_trace (Goes c) = c.point.trace
next_trace (Stops o) = trace_of o

-- a move adds events at most
abbrev Adding : Point → Next → Type 0
Adding p x = AddsTo p.trace (next_trace x)

requests : {X : Type 0} (p : Point) (o : Outcome X) (g : X → Point → Next) → AddsTo p.trace (trace_of o) → ((v : X) (q : Point) → Adding q (g v q)) → Adding p (on_given o g)
requests p (Gives v q) g a h = both p.trace q.trace (next_trace (g v q)) a (h v q)
requests p (Halts how t) g a h = a

then_adds : {X Y : Type 0} (p : Point) (o : Outcome X) (go : X → Point → Outcome Y) → AddsTo p.trace (trace_of o) → ((v : X) (q : Point) → AddsTo q.trace (trace_of (go v q)))
    → AddsTo p.trace (trace_of (and_then o go))
then_adds p (Gives v q) go a h = both p.trace q.trace (trace_of (go v q)) a (h v q)
then_adds p (Halts how t) go a h = a

valuing : (p : Point) (o : Outcome ℕ) (k : List Frame) → AddsTo p.trace (trace_of o) → Adding p (valued o k)
valuing p o k a = requests p o (λ v p. goes (Gave v) k p) a (λ v q. nothing q.trace)

chooses : (p : Point) (b : Bool) (f g : Point → Next) → Adding p (f p) → Adding p (g p) → Adding p (choose b f g p)
chooses p true f g x y = x
chooses p false f g x y = y

pasts_add : (exit : Exit) (f : Point → Next) (k : List Frame) (p : Point) → Adding p (f p) → Adding p (past exit f k p)
pasts_add Ends f k p h = h
pasts_add Breaks f k p h = nothing p.trace
pasts_add Continues f k p h = nothing p.trace
pasts_add (Returns v) f k p h = nothing p.trace

finish_adds : (fs : List (List ℕ)) (fin : Finish) (vs : List ℕ) (p : Point) → AddsTo p.trace (trace_of (finished fs fin vs p))
finish_adds fs (UpdatesLocal o post x old) (v ∷ []) p = by_steady (λ p. and_then (given (operate o old v) p) (update_local post x old)) (then_steady (given (operate o old v)) (update_local post x old) (given_steady (operate o old v)) (update_steady post x old)) p
finish_adds fs (Members off) (v ∷ []) p = by_steady (given (member_of v off)) (given_steady (member_of v off)) p
finish_adds fs (Reads kd) (v ∷ []) p = by_steady (touch kd v 0) (touch_steady kd v 0) p
finish_adds fs Purges (v ∷ []) p = by_steady (write kind.Purge v 0 0) (write_steady kind.Purge v 0 0) p
finish_adds fs (Updates o post wr at old) (v ∷ []) p = by_steady (λ p. and_then (given (operate o old v) p) (λ new p. write wr at new (cond post old new) p))
    (then_steady (given (operate o old v)) (λ new p. write wr at new (cond post old new) p) (given_steady (operate o old v)) (λ new. write_steady wr at new (cond post old new))) p
finish_adds fs (Elements bd unsigned size) (v ∷ u ∷ []) p = by_steady (given (element bd unsigned size v u)) (given_steady (element bd unsigned size v u)) p
finish_adds fs (Writes kd) (v ∷ u ∷ []) p = by_steady (write kd v u u) (write_steady kd v u u) p
finish_adds fs Adds (v ∷ u ∷ []) p = by_steady (touch kind.Add v u) (touch_steady kind.Add v u) p
finish_adds fs (Binaries o) (v ∷ u ∷ []) p = by_steady (given (operate o v u)) (given_steady (operate o v u)) p
finish_adds fs (Prints format) vs p = by_steady (show (format_at fs format) vs) (show_steady (format_at fs format) vs) p
finish_adds fs fin [] p = nothing p.trace
finish_adds fs fin (v ∷ []) p = nothing p.trace
finish_adds fs fin (v ∷ u ∷ []) p = nothing p.trace
finish_adds fs fin (v ∷ u ∷ x ∷ vs) p = nothing p.trace

finishes_add : (prog : Program) (fin : Finish) (vs : List ℕ) (k : List Frame) (p : Point) → Adding p (finishes prog fin vs k p)
finishes_add prog (Invokes f) vs k p = one p.trace (mark CallBegins)
finishes_add prog fin vs k p = valuing p (finished prog.formats fin vs p) k (finish_adds prog.formats fin vs p)

operands_add : (prog : Program) (fin : Finish) (done : List ℕ) (es : Terms) (k : List Frame) (p : Point) → Adding p (operands prog fin done es k p)
operands_add prog fin done NoMore k p = finishes_add prog fin done k p
operands_add prog fin done (More e es) k p = nothing p.trace

evaluates_add : (prog : Program) (e : Term) (k : List Frame) (p : Point) → Adding p (evaluates prog e k p)
evaluates_add prog (Call f args) k p = operands_add prog (Invokes f) [] args k p
evaluates_add prog (Print format args) k p = operands_add prog (Prints format) [] args k p
evaluates_add prog e k p = nothing p.trace

new_adds : (cells : ℕ) (p : Point) → AddsTo p.trace (trace_of (ask (On (New cells)) p))
new_adds cells p = by_steady (ask (On (New cells))) (ask_steady (On (New cells)) (λ a. refl)) p

touch_adds : (k : Kind) (at v : ℕ) (p : Point) → AddsTo p.trace (trace_of (touch k at v p))
touch_adds k at v p = by_steady (touch k at v) (touch_steady k at v) p

given_adds : (o : Option ℕ) (p : Point) → AddsTo p.trace (trace_of (given o p))
given_adds o p = by_steady (given o) (given_steady o) p

free_adds : (w : ℕ) (p : Point) → AddsTo p.trace (trace_of (freed w p))
free_adds w p = by_steady (freed w) (either_steady (offset_of w == 0) (ask (On (Free (segment_of w)))) stop (ask_steady (On (Free (segment_of w))) (λ a. refl)) stop_steady) p

purges_add : (w : ℕ) (ks : List ℕ) (p : Point) → AddsTo p.trace (trace_of (purged w ks p))
purges_add w [] p = nothing p.trace
purges_add w (c ∷ ks) p = then_adds p (given (member_of w c) p) _ (given_adds (member_of w c) p) (λ at q. then_adds q (touch kind.Purge at 0 q) _ (touch_adds kind.Purge at 0 q) (λ u r. purges_add w ks r))

binds_add : (fs : List Formal) (vs : List ℕ) (body : Command) (k : List Frame) (p : Point) → Adding p (binds fs vs body k p)
binds_add [] vs body k p = nothing p.trace
binds_add (f ∷ fs) [] body k p = nothing p.trace
binds_add (ByValue x ∷ fs) (v ∷ vs) body k p = binds_add fs vs body k (set x v p)
binds_add (InMemory x ∷ fs) (v ∷ vs) body k p = requests p (ask (On (New 1)) p) (λ w p. on_given (touch kind.WriteXf w v (set x w p)) (λ u p. binds fs vs body (Freeing w ∷ k) p)) (new_adds 1 p) (λ w q.
    requests q (touch kind.WriteXf w v (set x w q)) (λ u p. binds fs vs body (Freeing w ∷ k) p) (touch_adds kind.WriteXf w v (set x w q)) (λ u r. binds_add fs vs body (Freeing w ∷ k) r))

enters_add : (f : Option Function) (vs : List ℕ) (k : List Frame) (p : Point) → Adding p (enters f vs k p)
enters_add None vs k p = valuing p (stop p) k (by_steady stop stop_steady p)
enters_add (Some f) vs k p = binds_add f.formals vs f.body (CallOf p.env ∷ k) (record p { env = nothing_set })

fills_add : (w : ℕ) (is : List (ℕ × Term)) (cs : Commands) (after : After) (k : List Frame) (p : Point) → Adding p (fills w is cs after k p)
fills_add w [] cs after k p = nothing p.trace
fills_add w (i ∷ is) cs after k p = nothing p.trace

declares_add : (x cells : ℕ) (ks : List ℕ) (is : List (ℕ × Term)) (cs : Commands) (after : After) (k : List Frame) (p : Point) → Adding p (declares x cells ks is cs after k p)
declares_add x cells ks is cs after k p = requests p (ask (On (New cells)) p)
    (λ w p. on_given (purged w ks (set x w p)) (λ exit p. past exit (fills w is cs after (Freeing w ∷ k)) (Freeing w ∷ k) p)) (new_adds cells p) (λ w q.
    requests q (purged w ks (set x w q)) (λ exit p. past exit (fills w is cs after (Freeing w ∷ k)) (Freeing w ∷ k) p) (purges_add w ks (set x w q)) (λ exit r.
    pasts_add exit (fills w is cs after (Freeing w ∷ k)) (Freeing w ∷ k) r (fills_add w is cs after (Freeing w ∷ k) r)))

turns_add : (h : Header) (body : Command) (k : List Frame) (p : Point) → Adding p (turns h body k p)
turns_add h body k p = chooses p h.late (goes (Execute body) (LoopBody h body ∷ k)) (goes (Loops h body) k) (nothing p.trace) (nothing p.trace)

steps_on_add : (o : Option Term) (h : Header) (body : Command) (k : List Frame) (p : Point) → Adding p (steps_on o h body k p)
steps_on_add None h body k p = nothing p.trace
steps_on_add (Some e) h body k p = nothing p.trace

tests_add : (o : Option Term) (h : Header) (body : Command) (k : List Frame) (p : Point) → Adding p (tests o h body k p)
tests_add None h body k p = nothing p.trace
tests_add (Some e) h body k p = nothing p.trace

begins_add : (m : Mark) (h : Header) (body : Command) (k : List Frame) (p : Point) → Adding p (begins m h body k p)
begins_add Unmarked h body k p = turns_add h body k p
begins_add (Normal r) h body k p = both p.trace _ (next_trace (begins (Normal r) h body k p)) (one p.trace (mark (Enter r h.test body (values_in r.local_count p.env))))
    (turns_add h body (Leaving r.id ∷ k) (marked (Enter r h.test body (values_in r.local_count p.env)) p))
begins_add (Concurrent r) h body k p = one p.trace (mark (Of Tick))

captures_add : (at : ℕ) (formals : List Formal) (vs : List ℕ) (cs : List (Formal × Term)) (body : Command) (k : List Frame) (p : Point) → Adding p (captures at formals vs cs body k p)
captures_add at formals vs [] body k p = one p.trace (mark (Spawn at formals vs body))
captures_add at formals vs (c ∷ cs) body k p = nothing p.trace

items_add : (is : Items) (k : List Frame) (p : Point) → Adding p (runs_items is k p)
items_add NoItem k p = nothing p.trace
items_add (At n rest) k p = nothing p.trace
items_add (Other rest) k p = nothing p.trace
items_add (Do c rest) k p = nothing p.trace

executes_add : (c : Command) (k : List Frame) (p : Point) → Adding p (executes c k p)
executes_add (Object x cells ks is) k p = declares_add x cells ks is End Nothing k p
executes_add (Declare x None) k p = nothing p.trace
executes_add (Declare x (Some e)) k p = nothing p.trace
executes_add (Return None) k p = nothing p.trace
executes_add (Return (Some e)) k p = nothing p.trace
executes_add c k p = nothing p.trace

-- a tick comes before what follows
tick_first : (x : Next) (p : Point) → Adding (ticked p) x → Adding p x
tick_first x p h = both p.trace (ticked p).trace (next_trace x) (one p.trace (mark (Of Tick))) h

first_add : (c : Command) (cs : Commands) (after : After) (k : List Frame) (p : Point) → Adding p (begins_with c cs after k p)
first_add (Object x cells ks is) cs after k p = tick_first (declares x cells ks is cs after k (ticked p)) p (declares_add x cells ks is cs after k (ticked p))
first_add c cs after k p = nothing p.trace

runs_add : (cs : Commands) (after : After) (k : List Frame) (p : Point) → Adding p (runs cs after k p)
runs_add End Nothing k p = nothing p.trace
runs_add End (Turns h body) k p = begins_add h.mark h body k p
runs_add (Then c cs) after k p = first_add c cs after k p

gave_add : (prog : Program) (v : ℕ) (k : List Frame) (p : Point) → Adding p (gave prog v k p)
gave_add prog v [] p = nothing p.trace
gave_add prog v (Operands fin done rest ∷ k) p = operands_add prog fin (done ++ v ∷ []) rest k p
gave_add prog v (AndThen b ∷ k) p = chooses p (v == 0) (goes (Gave 0) k) (one_operand Truths b k) (nothing p.trace) (nothing p.trace)
gave_add prog v (OrThen b ∷ k) p = chooses p (v == 0) (one_operand Truths b k) (goes (Gave 1) k) (nothing p.trace) (nothing p.trace)
gave_add prog v (Chooses a b ∷ k) p = chooses p (v == 0) (goes (Evaluate b) k) (goes (Evaluate a) k) (nothing p.trace) (nothing p.trace)
gave_add prog v (UpdatesAt o post read wr value ∷ k) p = requests p (touch read v 0 p) (λ old p. one_operand (Updates o post wr v old) value k p) (touch_adds read v 0 p) (λ old q. nothing q.trace)
gave_add prog v (Fills w off rest cs after ∷ k) p = requests p (given (member_of w off) p) (λ at p. on_given (touch kind.WriteXf at v p) (λ u p. fills w rest cs after k p)) (given_adds (member_of w off) p) (λ at q.
    requests q (touch kind.WriteXf at v q) (λ u p. fills w rest cs after k p) (touch_adds kind.WriteXf at v q) (λ u r. fills_add w rest cs after k r))
gave_add prog v (IfThen c ∷ k) p = chooses p (v == 0) (goes (Ended Ends) k) (goes (Execute c) k) (nothing p.trace) (nothing p.trace)
gave_add prog v (IfElses c other ∷ k) p = chooses p (v == 0) (goes (Execute other) k) (goes (Execute c) k) (nothing p.trace) (nothing p.trace)
gave_add prog v (LoopTests h body ∷ k) p = chooses p (v == 0) (goes (Ended Ends) k) (goes (Execute body) (LoopBody h body ∷ k)) (nothing p.trace) (nothing p.trace)
gave_add prog v (Limits r h body ∷ k) p = chooses p (is_near (p.env r.index) && is_near v)
    (λ p. on_given (forked r (p.env r.index) v body p) (λ exit p. goes (Ended exit) k p))
    (choose (compared r.order (p.env r.index) v == 0) (goes (Ended Ends) k) (goes (Execute body) (LoopBody h body ∷ k)))
    (both p.trace (p.trace ++ _ ∷ []) _ (one p.trace _) (one (p.trace ++ _ ∷ []) _))
    (chooses p (compared r.order (p.env r.index) v == 0) (goes (Ended Ends) k) (goes (Execute body) (LoopBody h body ∷ k)) (nothing p.trace) (nothing p.trace))
gave_add prog v (Places cs body ∷ k) p = requests p (touch kind.Purge v 0 p) (λ u p. captures v (formals_of cs) [] cs body k p) (touch_adds kind.Purge v 0 p) (λ u q. captures_add v (formals_of cs) [] cs body k q)
gave_add prog v (Captures at formals vs rest body ∷ k) p = captures_add at formals (vs ++ v ∷ []) rest body k p
gave_add prog v (f ∷ k) p = nothing p.trace

after_adds : (exit : Exit) (h : Header) (body : Command) (k : List Frame) (p : Point) → Adding p (after_body exit h body k p)
after_adds Ends h body k p = steps_on_add h.step h body k p
after_adds Continues h body k p = steps_on_add h.step h body k p
after_adds Breaks h body k p = nothing p.trace
after_adds (Returns v) h body k p = nothing p.trace

ends_add : (exit : Exit) (k : List Frame) (p : Point) → Adding p (ends exit k p)
ends_add exit [] p = nothing p.trace
ends_add exit (Sequence cs after ∷ k) p = pasts_add exit (goes (Runs cs after) k) k p (nothing p.trace)
ends_add exit (ItemsAfter rest ∷ k) p = pasts_add exit (goes (RunsItems rest) k) k p (nothing p.trace)
ends_add exit (Freeing w ∷ k) p = requests p (freed w p) (λ u p. goes (Ended exit) k p) (free_adds w p) (λ u q. nothing q.trace)
ends_add exit (LoopBody h body ∷ k) p = after_adds exit h body k p
ends_add exit (Leaving id ∷ k) p = pasts_add exit (λ p. goes (Ended Ends) k (marked (Leave id) p)) k p (one p.trace (mark (Leave id)))
ends_add exit (CallOf env ∷ k) p = one p.trace (mark CallEnds)
ends_add exit (f ∷ k) p = nothing p.trace

does_add : (prog : Program) (c : Control) (k : List Frame) (p : Point) → Adding p (does prog c k p)
does_add prog (Evaluate e) k p = evaluates_add prog e k p
does_add prog (Gave v) k p = gave_add prog v k p
does_add prog (Invoke f vs) k p = enters_add (slice_get prog.functions f) vs k p
does_add prog (Execute c) k p = tick_first (executes c k (ticked p)) p (executes_add c k (ticked p))
does_add prog (Runs cs after) k p = runs_add cs after k p
does_add prog (RunsItems items) k p = items_add items k p
does_add prog (Loops h body) k p = tick_first (tests h.test h body k (ticked p)) p (tests_add h.test h body k (ticked p))
does_add prog (Ended exit) k p = ends_add exit k p

-- however many moves
steps_add : (prog : Program) (j : ℕ) (c : Config) → AddsTo c.point.trace (trace_of (moves prog j c))
steps_add prog zero c = nothing c.point.trace
steps_add prog (suc j) c = at (does prog c.control c.stack c.point) (does_add prog c.control c.stack c.point) (λ d. steps_add prog j d) where
  at : (x : Next) → Adding c.point x → ((d : Config) → AddsTo d.point.trace (trace_of (moves prog j d))) → AddsTo c.point.trace (trace_of (on_next x (moves prog j)))
  at (Goes d) a go = both c.point.trace d.point.trace (trace_of (moves prog j d)) a (go d)
  at (Stops o) a go = a

-- more moves add events at most
more_steps_add : (prog : Program) (j i : ℕ) (c : Config) → AddsTo (trace_of (moves prog j c)) (trace_of (moves prog (j + i) c))
more_steps_add prog zero i c = let same : 0 + i ≡ i = omega arith in subst (λ m. AddsTo c.point.trace (trace_of (moves prog m c))) (sym same) (steps_add prog i c)
more_steps_add prog (suc j) i c = let same : suc j + i ≡ suc (j + i) = omega arith in
    subst (λ m. AddsTo (trace_of (moves prog (suc j) c)) (trace_of (moves prog m c))) (sym same) (at (does prog c.control c.stack c.point) (λ d. more_steps_add prog j i d)) where
      at : (x : Next) → ((d : Config) → AddsTo (trace_of (moves prog j d)) (trace_of (moves prog (j + i) d))) → AddsTo (trace_of (on_next x (moves prog j))) (trace_of (on_next x (moves prog (j + i))))
      at (Goes d) go = go d
      at (Stops o) go = nothing (trace_of o)

-- what main does with enough fuel has all events of the first j moves
enough : (prog : Program) (rs : List Reply) (j : ℕ) → AddsTo (trace_of (moves prog j (start prog rs))) (trace_of (run_of prog (suc j) Main rs))
enough prog rs j =
    let c = start prog rs in
    let run = interprets prog (suc j) rs in
    let o = run_of prog (suc j) Main rs in
    ⊎_elim
    (λ late.
    let long : suc j ≤ run.0 = run.2 late.0 late.1 in
    let sum : j + (run.0 - j) ≡ run.0 = omega (arith, long) in
    let more = more_steps_add prog j (run.0 - j) c in
    let same : moves prog (j + (run.0 - j)) c ≡ o = ap (λ m. moves prog m c) sum ∙ run.1 in
    subst (λ z. AddsTo (trace_of (moves prog j c)) (trace_of z)) same more)
    (λ not.
    let turn : j + run.0 ≡ run.0 + j = omega arith in
    let more = more_steps_add prog j run.0 c in
    let same : moves prog (j + run.0) c ≡ o = ap (λ m. moves prog m c) turn ∙ halted prog run.0 j c (λ l. not (subst IsLate run.1 l)) ∙ run.1 in
    subst (λ z. AddsTo (trace_of (moves prog j c)) (trace_of z)) same more)
    (late_or_not o)

pub steps_are_traces : StepsAreTraces
steps_are_traces prog rs j =
    let whole = runs_are_traces prog Main (suc j) rs in
    let more = enough prog rs j in
    traces_are_closed prog Main (trace_of (moves prog j (start prog rs))) more.0 (subst (IsTrace prog Main) more.1 whole)

-- of two beginnings of a list one begins the other
comparable : (t u x y : List Event) → t ++ x ≡ u ++ y → AddsTo t u ⊎ AddsTo u t
comparable [] u x y h = inl (u, refl)
comparable (a ∷ t) [] x y h = inr (a ∷ t, refl)
comparable (a ∷ t) (b ∷ u) x y h =
    let head : a ≡ b = cc in
    let tail : t ++ x ≡ u ++ y = cc in
    ⊎_elim
    (λ more. inl (more.0, ap (λ z. z ∷ u) (sym head) ∙ ap (λ z. a ∷ z) more.1))
    (λ more. inr (more.0, ap (λ z. z ∷ t) head ∙ ap (λ z. b ∷ z) more.1))
    (comparable t u x y tail)

pub traces_agree : TracesAgree
traces_agree prog t u (m, x, left) (n, y, right) same =
    let rs = replies_of t in
    let c = start prog rs in
    let a = interprets prog m rs in
    let b = interprets prog n rs in
    let turn : b.0 + a.0 ≡ a.0 + b.0 = omega arith in
    let first = more_steps_add prog a.0 b.0 c in
    let second = more_steps_add prog b.0 a.0 c in
    let left_is : trace_of (moves prog a.0 c) ≡ t ++ x = ap trace_of a.1 ∙ left in
    let right_is : trace_of (moves prog b.0 c) ≡ u ++ y = ap trace_of b.1 ∙ ap (λ z. trace_of (run_of prog n Main z)) same ∙ right in
    let one_way : trace_of (moves prog (a.0 + b.0) c) ≡ t ++ (x ++ first.0) = first.1 ∙ ap (λ z. z ++ first.0) left_is ∙ append_assoc t x first.0 in
    let other_way : trace_of (moves prog (a.0 + b.0) c) ≡ u ++ (y ++ second.0)
    = ap (λ k. trace_of (moves prog k c)) (sym turn) ∙ second.1 ∙ ap (λ z. z ++ second.0) right_is ∙ append_assoc u y second.0 in
    comparable t u (x ++ first.0) (y ++ second.0) (sym one_way ∙ other_way)
