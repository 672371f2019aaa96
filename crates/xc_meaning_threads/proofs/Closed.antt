-- Calls and threads go on in the same way with more replies; so traces are closed under prefixes.
use Rattle.std.proofs.Common.{◌≡◌, ℕ, zero, suc, inl, inr, List, [], ◌∷◌, ◌++◌, refl, sym, ap, ◌∙◌, subst, append-nil, append_assoc, length, length-append, ◌+◌, arith}
use Rattle.std.specs.Prelude.{Option, Some, None, slice_get}
use Rattle.xc_word.specs.declared.memory.Kind.TheVariants as kind
use Rattle.xc_meaning_world.specs.World.{On, Print as Shows, Begin, Stop, Tick, Reply, put}
use Rattle.xc_meaning_terms.specs.Terms.{Formal, Command, Function, Program}
use Rattle.xc_meaning_threads.specs.Events.{Label, Of, CallBegins, CallEnds, Enter, Leave, Spawn, Fork, Join, Event, label_reply, replies_of, Task, Main, Body, Turn}
use Rattle.xc_meaning_threads.specs.Meaning.{Env, Setting, setting, Point, point, Halt, Trapped, NoReply, NoFuel, Outcome, Gives, Halts, Exit, Ends, touch, outcome_of, with_formals, answer_of, marked, nothing_set, run_from, entered, called, ended, answering, env_of, main_of, task_from, run_of, trace_of}
use Rattle.xc_meaning_threads.specs.Steady.{with_more, AddsTo, Takes, GoesPast, Uses, ExtendsHalt, Extends, TracesAreClosed, RunsAreTraces, EndsAreWhole}
use Rattle.xc_meaning_threads.proofs.Steadiness.{label_append, replies_append, Steady, then_steady, gives_steady, marked_steady, at_env_steady, stop_steady, late_steady}
use Rattle.xc_meaning_threads.proofs.Goes.{SteadyCalls, touch_steady, formals_steady, outcomes}

-- ---- calls

run_steady : (s : Setting) → SteadyCalls s → (fs : List Formal) (vs : List ℕ) (body : Command) → Steady (run_from s fs vs body)
run_steady s calls fs vs body = at_env_steady (with_formals fs vs (outcome_of s body)) nothing_set (formals_steady s calls fs vs (outcome_of s body) (outcomes s calls body))

entered_steady : (s : Setting) → SteadyCalls s → (f : Option Function) (vs : List ℕ) → Steady (entered s f vs)
entered_steady s calls None vs p more = stop_steady p more
entered_steady s calls (Some f) vs p more =
    then_steady (run_from s f.formals vs f.body) (λ exit q. Gives (answer_of exit) (marked CallEnds (record q { env = p.env }))) (run_steady s calls f.formals vs f.body)
    (λ exit. at_env_steady (λ q. Gives (answer_of exit) (marked CallEnds q)) p.env (marked_steady (Gives (answer_of exit)) CallEnds refl (gives_steady (answer_of exit)))) p more

pub called_steady : (formats : List (List ℕ)) (fns : List Function) (turns n f : ℕ) (vs : List ℕ) → Steady (called formats fns turns n f vs)
called_steady formats fns turns zero f vs p more = late_steady p more
called_steady formats fns turns (suc n) f vs p more =
    entered_steady (record { formats = formats; call = called formats fns turns n; turns = turns }) (called_steady formats fns turns n) (slice_get fns f) vs p more

-- ---- threads

module _ (s : Setting) (calls : SteadyCalls s) where
  ended_steady : (f : Point → Outcome Exit) → Steady f → Steady (λ p. ended (f p))
  ended_steady f h = then_steady f (λ exit p. Gives Ends p) h (λ exit. gives_steady Ends)

  answering_steady : (place : ℕ) (f : Point → Outcome Exit) → Steady f → Steady (λ p. answering place (f p))
  answering_steady place f h = then_steady f _ h (λ exit. then_steady (touch kind.WriteXf place (answer_of exit)) _ (touch_steady kind.WriteXf place (answer_of exit)) (λ _. gives_steady Ends))

  main_steady : (f : Option Function) → Steady (main_of s f)
  main_steady None p more = gives_steady Ends p more
  main_steady (Some f) p more = run_steady s calls [] [] f.body p more

  task_goes : (p : Program) (task : Task) (rs more : List Reply) →
      (env : Env) × Extends more (point env rs []) (task_from p s task rs) (task_from p s task (rs ++ more))
  task_goes p Main rs more = (nothing_set, ended_steady (main_of s (slice_get p.functions p.main)) (main_steady (slice_get p.functions p.main)) (point nothing_set rs []) more)
  task_goes p (Body place captures vs body) rs more =
      (nothing_set, answering_steady place (run_from s captures vs body) (run_steady s calls captures vs body) (point nothing_set rs []) more)
  task_goes p (Turn index v vs body) rs more =
      (put (env_of vs) index v, ended_steady (outcome_of s body) (outcomes s calls body) (point (put (env_of vs) index v) rs []) more)

-- ---- prefixes

label_same : (k : Label) (a : Reply) (xs ys : List Reply) → label_reply k a xs ≡ label_reply k a ys → xs ≡ ys
label_same (Of (On x)) a xs ys h = cc
label_same (Of (Shows bytes)) a xs ys h = cc
label_same (Of (Begin at arg)) a xs ys h = cc
label_same (Of Stop) a xs ys h = cc
label_same (Of Tick) a xs ys h = h
label_same CallBegins a xs ys h = h
label_same CallEnds a xs ys h = h
label_same (Enter r test body values) a xs ys h = h
label_same (Leave id) a xs ys h = h
label_same (Spawn place captures values body) a xs ys h = h
label_same (Fork id index iterations values body) a xs ys h = h
label_same Join a xs ys h = h

takes_more : (e : Event) (rs : List Reply) → Takes e → label_reply e.label e.reply rs ≡ e.reply ∷ rs
takes_more e rs h = label_append e.label e.reply [] rs ∙ ap (λ xs. xs ++ rs) h

-- a trace whose next event takes a reply is no shorter than one with the same replies
no_shorter : (t u : List Event) (e : Event) (x w : List Event) → u ++ e ∷ x ≡ t ++ w → replies_of u ≡ replies_of t → Takes e → AddsTo t u
no_shorter [] u e x w h r k = (u, refl)
no_shorter (a ∷ t) [] e x w h r k =
    let same : e ≡ a = cc in
    let taken : label_reply a.label a.reply (replies_of t) ≡ a.reply ∷ replies_of t = takes_more a (replies_of t) (subst Takes same k) in
    let none : [] ≡ a.reply ∷ replies_of t = r ∙ taken in cc
no_shorter (a ∷ t) (b ∷ u) e x w h r k =
    let head : b ≡ a = cc in
    let tail : u ++ e ∷ x ≡ t ++ w = cc in
    let left : label_reply a.label a.reply (replies_of u) ≡ label_reply a.label a.reply (replies_of t)
    = subst (λ (z : Event). label_reply z.label z.reply (replies_of u) ≡ label_reply a.label a.reply (replies_of t)) head r in
    let rest = no_shorter t u e x w tail (label_same a.label a.reply (replies_of u) (replies_of t) left) k in
    (rest.0, ap (λ z. z ∷ u) head ∙ ap (λ z. a ∷ z) rest.1)

all_used : (env : Env) (t u : List Event) → Uses (point env (replies_of t) []) [] u → replies_of u ≡ replies_of t
all_used env t u used = ap replies_of used.trace ∙ sym (append-nil (replies_of used.new)) ∙ sym used.used

halt_closes : {X : Type 0} (env : Env) (t w : List Event) (how : Halt) (u : List Event) (o : Outcome X) → ExtendsHalt how (point env (replies_of t) []) u o
    → trace_of o ≡ t ++ w → AddsTo t u
halt_closes env t w Trapped u o h is = (w, sym (ap trace_of h.0) ∙ is)
halt_closes env t w NoReply u o (inl e, used) is = (w, sym (ap trace_of e) ∙ is)
halt_closes env t w NoReply u o (inr past, used) is = no_shorter t u past.next past.rest w (sym past.trace ∙ is) (all_used env t u used) past.takes
halt_closes env t w NoFuel u o h is = (w, sym (ap trace_of h.0) ∙ is)

closes : {X : Type 0} (env : Env) (more : List Reply) (t w : List Event) (o o' : Outcome X) → Extends more (point env (replies_of t) []) o o'
    → trace_of o' ≡ t ++ w → AddsTo t (trace_of o)
closes env more t w (Gives x q) o' h is = (w, sym (ap trace_of h.0) ∙ is)
closes env more t w (Halts how u) o' h is = halt_closes env t w how u o' h is

task_steady : (p : Program) (n : ℕ) (task : Task) (rs more : List Reply) → (env : Env) × Extends more (point env rs []) (run_of p n task rs) (run_of p n task (rs ++ more))
task_steady p n task rs more = task_goes (setting p n) (called_steady p.formats p.functions n n) p task rs more

pub traces_are_closed : TracesAreClosed
traces_are_closed p task t u (n, rest, is) =
    let goes = task_steady p n task (replies_of t) (replies_of u) in
    let whole : trace_of (run_of p n task (replies_of t ++ replies_of u)) ≡ t ++ (u ++ rest)
    = ap (λ rs. trace_of (run_of p n task rs)) (sym (replies_append t u)) ∙ is ∙ append_assoc t u rest in
    let part = closes goes.0 (replies_of u) t (u ++ rest) (run_of p n task (replies_of t)) (run_of p n task (replies_of t ++ replies_of u)) goes.1 whole in
    (n, part.0, part.1)

-- ---- runs are traces

-- the replies of what was done are the first of those that there were
used_to : (env : Env) (rs left : List Reply) (t : List Event) → Uses (point env rs []) left t → rs ≡ replies_of t ++ left
used_to env rs left t u = u.used ∙ ap (λ t. replies_of t ++ left) (sym u.trace)

halt_used : {X : Type 0} (env : Env) (rs : List Reply) (how : Halt) (t : List Event) (o : Outcome X) → ExtendsHalt how (point env rs []) t o
    → (left : List Reply) × (rs ≡ replies_of t ++ left)
halt_used env rs Trapped t o h = (h.1, used_to env rs h.1 t h.2)
halt_used env rs NoReply t o h = ([], used_to env rs [] t h.1)
halt_used env rs NoFuel t o h = (h.1, used_to env rs h.1 t h.2)

used_by : {X : Type 0} (more : List Reply) (env : Env) (rs : List Reply) (o o' : Outcome X) → Extends more (point env rs []) o o' → (left : List Reply) × (rs ≡ replies_of (trace_of o) ++ left)
used_by more env rs (Gives x q) o' h = (q.replies, h.1.used ∙ ap (λ t. replies_of t ++ q.replies) (sym h.1.trace))
used_by more env rs (Halts how t) o' h = halt_used env rs how t o' h

pub runs_are_traces : RunsAreTraces
runs_are_traces p task n rs =
    let u = trace_of (run_of p n task rs) in
    let all = task_steady p n task rs [] in
    let used = used_by [] all.0 rs (run_of p n task rs) (run_of p n task (rs ++ [])) all.1 in
    let goes = task_steady p n task (replies_of u) used.0 in
    let same : trace_of (run_of p n task (replies_of u ++ used.0)) ≡ u ++ [] = ap (λ xs. trace_of (run_of p n task xs)) (sym used.1) ∙ sym (append-nil u) in
    let part = closes goes.0 used.0 u [] (run_of p n task (replies_of u)) (run_of p n task (replies_of u ++ used.0)) goes.1 same in
    (n, part.0, part.1)

-- no reply is left where all that were there at first are
none_left : (xs ys : List Reply) → xs ++ ys ≡ ys → xs ≡ []
none_left [] ys h = refl
none_left (x ∷ xs) ys h = let long : length (x ∷ xs) + length ys ≡ length ys = sym (length-append (x ∷ xs) ys) ∙ ap (λ zs. length zs) h in
    absurd (no_longer (length xs) (length ys) long) where
      no_longer : (m n : ℕ) → suc m + n ≡ n → ⊥
      no_longer m n h = omega (arith, h)

-- a trace does not go past one with all the replies of it
no_further : (t u : List Event) → replies_of u ≡ replies_of t → GoesPast u t → ⊥
no_further t u same past =
    let parts : replies_of t ≡ replies_of u ++ replies_of (past.next ∷ past.rest) = ap replies_of past.trace ∙ replies_append u (past.next ∷ past.rest) in
    let taken : replies_of (past.next ∷ past.rest) ≡ past.next.reply ∷ replies_of past.rest = takes_more past.next (replies_of past.rest) past.takes in
    let long : length (replies_of u) ≡ length (replies_of u) + suc (length (replies_of past.rest))
    = ap (λ zs. length zs) (same ∙ parts) ∙ length-append (replies_of u) (replies_of (past.next ∷ past.rest)) ∙ ap (λ zs. length (replies_of u) + length zs) taken in
    longer (length (replies_of u)) (length (replies_of past.rest)) long where
      longer : (m n : ℕ) → m ≡ m + suc n → ⊥
      longer m n h = omega (arith, h)

halts_not : (how : Halt) (u : List Event) (q : Point) → ◌≡◌ {A = Outcome Exit} (Halts how u) (Gives Ends q) → ⊥
halts_not how u q h = cc

whole_from : (env : Env) (left : List Reply) (t : List Event) (env' : Env) (o o' : Outcome Exit) → Extends left (point env (replies_of t) []) o o' → o' ≡ Gives Ends (point env' left t)
    → (e : Env) × (o ≡ Gives Ends (point e [] t))
whole_from env left t env' (Gives exit q) o' h is =
    let same : ◌≡◌ {A = Outcome Exit} (Gives exit (with_more left q)) (Gives Ends (point env' left t)) = sym h.0 ∙ is in
    let points : with_more left q ≡ point env' left t = cc in
    let ends : exit ≡ Ends = cc in
    let none : q.replies ≡ [] = none_left q.replies left (ap (λ (r : Point). r.replies) points) in
    (q.env, ap (λ x. Gives x q) ends ∙ ap (λ rs. Gives Ends (point q.env rs q.trace)) none ∙ ap (λ u. Gives Ends (point q.env [] u)) (ap (λ (r : Point). r.trace) points))
whole_from env left t env' (Halts Trapped u) o' h is = absurd (halts_not Trapped u (point env' left t) (sym h.0 ∙ is))
whole_from env left t env' (Halts NoReply u) o' (inl e, used) is = absurd (halts_not NoReply u (point env' left t) (sym e ∙ is))
whole_from env left t env' (Halts NoReply u) o' (inr past, used) is = absurd (no_further t u (all_used env t u used) (subst (GoesPast u) (ap trace_of is) past))
whole_from env left t env' (Halts NoFuel u) o' h is = absurd (halts_not NoFuel u (point env' left t) (sym h.0 ∙ is))

pub ends_are_whole : EndsAreWhole
ends_are_whole p task n rs q is =
    let all = task_steady p n task rs [] in
    let told = subst (λ z. Extends [] (point all.0 rs []) z (run_of p n task (rs ++ []))) is all.1 in
    let all_replies : rs ≡ replies_of q.trace ++ q.replies = told.1.used ∙ ap (λ t. replies_of t ++ q.replies) (sym told.1.trace) in
    let goes = task_steady p n task (replies_of q.trace) q.replies in
    let end : run_of p n task (replies_of q.trace ++ q.replies) ≡ Gives Ends q = ap (λ xs. run_of p n task xs) (sym all_replies) ∙ is in
    let whole = whole_from goes.0 q.replies q.trace q.env (run_of p n task (replies_of q.trace)) (run_of p n task (replies_of q.trace ++ q.replies)) goes.1 end in
    (n, whole.0, whole.1)
