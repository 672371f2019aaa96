-- Straight programs have the same traces.
use Rattle.std.specs.Prelude.{◌↔◌}
use Rattle.std.proofs.Common.{◌≡◌, ℕ, List, [], ◌∷◌, ◌++◌, map, refl, sym, ap, ◌∙◌, subst}
use Rattle.std.proofs.lemmas.List.{map-append}
use Rattle.xc_meaning_world.specs.World.{Request, On, Print, Begin, Stop, Tick, Reply, Action, act_of}
use Rattle.xc_meaning.specs.Terms as old
use Rattle.xc_meaning.specs.Meaning as straight
use Rattle.xc_meaning.specs.Source as alone
use Rattle.xc_meaning_threads.specs.Events.{Of, Event, Main, request_reply, replies_of}
use Rattle.xc_meaning_threads.specs.Meaning.{Outcome, Gives, Ends, Exit, Env, Point, point, nothing_set, run_of, trace_of}
use Rattle.xc_meaning_threads.specs.Traces.{IsTrace, IsWhole}
use Rattle.xc_meaning_straight.specs.Straight.{program_for, IsStraight, event_of, events_of, outcome_for, SameTraces, SameWholes}
use Rattle.xc_meaning_straight.proofs.Agrees.{same_runs}

one_reply : (q : Request) (a : Reply) (rs : List Reply) → request_reply q a rs ≡ alone.reply_and q a rs
one_reply (On x) a rs = refl
one_reply (Print bytes) a rs = refl
one_reply (Begin at arg) a rs = refl
one_reply Stop a rs = refl
one_reply Tick a rs = refl

replies_same : (t : List Action) → replies_of (events_of t) ≡ alone.replies_of t
replies_same [] = refl
replies_same (a ∷ t) = one_reply a.request a.reply (replies_of (events_of t)) ∙ ap (alone.reply_and a.request a.reply) (replies_same t)

does : (p : old.Program) → IsStraight p.body → (n : ℕ) (t : List Action) → run_of (program_for p) n Main (replies_of (events_of t)) ≡ outcome_for nothing_set (alone.main_with p (alone.replies_of t))
does p h n t = same_runs p h n (replies_of (events_of t)) ∙ ap (λ rs. outcome_for nothing_set (alone.main_with p rs)) (replies_same t)

traces_same : (o : straight.Outcome) → trace_of (outcome_for nothing_set o) ≡ events_of (straight.trace_of o)
traces_same (straight.Done p) = refl
traces_same (straight.Returned v p) = refl
traces_same (straight.Trapped t) = refl
traces_same (straight.Cut t) = refl

-- an event tells its action
event_tells : (a b : Action) → event_of a ≡ event_of b → a ≡ b
event_tells a b e =
    let label : Of a.request ≡ Of b.request = ap (λ (x : Event). x.label) e in
    let request : a.request ≡ b.request = cc in
    let reply : a.reply ≡ b.reply = ap (λ (x : Event). x.reply) e in
    ap (λ q. act_of q a.reply) request ∙ ap (λ r. act_of b.request r) reply

-- events that begin as those of a list of actions are of a list that begins so
begins_so : (t u : List Action) (rest : List Event) → events_of u ≡ events_of t ++ rest → (r : List Action) × (u ≡ t ++ r)
begins_so [] u rest e = (u, refl)
begins_so (a ∷ t) [] rest e = absurd (cc)
begins_so (a ∷ t) (b ∷ u) rest e =
    let first : event_of b ≡ event_of a = cc in
    let others : events_of u ≡ events_of t ++ rest = cc in
    let same : b ≡ a = event_tells b a first in
    let r = begins_so t u rest others in
    (r.0, ap (λ x. x ∷ u) same ∙ ap (λ l. a ∷ l) r.1)

-- events tell their actions
events_tell : (t u : List Action) → events_of u ≡ events_of t → u ≡ t
events_tell [] [] e = refl
events_tell [] (b ∷ u) e = absurd (cc)
events_tell (a ∷ t) [] e = absurd (cc)
events_tell (a ∷ t) (b ∷ u) e =
    let first : event_of b ≡ event_of a = cc in
    let others : events_of u ≡ events_of t = cc in
    let same : b ≡ a = event_tells b a first in
    ap (λ x. x ∷ u) same ∙ ap (λ l. a ∷ l) (events_tell t u others)

trace_made : (p : old.Program) → IsStraight p.body → (n : ℕ) (t : List Action) → trace_of (run_of (program_for p) n Main (replies_of (events_of t))) ≡ events_of (straight.trace_of (alone.main_with p (alone.replies_of t)))
trace_made p h n t = ap trace_of (does p h n t) ∙ traces_same (alone.main_with p (alone.replies_of t))

pub same_traces : SameTraces
same_traces p h t = (
  λ is. (0, events_of is.0, trace_made p h 0 t ∙ ap events_of is.1 ∙ map-append event_of t is.0),
  λ is. begins_so t (straight.trace_of (alone.main_with p (alone.replies_of t))) is.1 (sym (trace_made p h is.0 t) ∙ is.2),
)

-- what comes to its end by the one definition does by the other
ends_so : (o : straight.Outcome) (env : Env) (t : List Action) → outcome_for nothing_set o ≡ Gives Ends (point env [] (events_of t)) → o ≡ straight.Done (straight.point [] t)
ends_so (straight.Done p) env t e =
    let at : point nothing_set p.replies (events_of p.trace) ≡ point env [] (events_of t) = cc in
    let replies : p.replies ≡ [] = ap (λ (x : Point). x.replies) at in
    let trace : p.trace ≡ t = events_tell t p.trace (ap (λ (x : Point). x.trace) at) in
    ap (λ rs. straight.Done (straight.point rs p.trace)) replies ∙ ap (λ u. straight.Done (straight.point [] u)) trace
ends_so (straight.Returned v p) env t e = absurd (cc)
ends_so (straight.Trapped t') env t e = absurd (cc)
ends_so (straight.Cut t') env t e = absurd (cc)

pub same_wholes : SameWholes
same_wholes p h t = (
  λ is. (0, nothing_set, does p h 0 t ∙ ap (outcome_for nothing_set) is),
  λ is. ends_so (alone.main_with p (alone.replies_of t)) is.1 t (sym (does p h is.0 t) ∙ is.2),
)
