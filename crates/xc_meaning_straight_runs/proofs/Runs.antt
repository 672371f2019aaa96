-- The two definitions of source runs agree on straight programs.
use Rattle.std.proofs.Common.{◌≡◌, ℕ, zero, suc, ◌+◌, ◌<◌, ◌==◌, List, [], ◌∷◌, ◌++◌, length, Bool, true, false, refl, sym, ap, ◌∙◌, subst, arith}
use Rattle.std.specs.Prelude.{Some, slice_get, if◌then◌else◌}
use Rattle.std.proofs.lemmas.List.{map-append}
use Rattle.std.proofs.lemmas.List.Sums.{sum_by-cons}
use Rattle.xc_meaning_world.specs.World.{World, Request, On, Print as Shows, Begin, Stop, Tick, Dead, Action, act_of, world_of}
use Rattle.xc_meaning_world.specs.Runs.{part_of, Applies}
use Rattle.xc_meaning_world.specs.Runs as world
use Rattle.xc_meaning_world.proofs.Puts.{eqb_same, eqb_other}
use Rattle.xc_meaning.specs.Terms as old
use Rattle.xc_meaning.specs.Meaning as straight
use Rattle.xc_meaning.specs.Source as alone
use Rattle.xc_meaning_terms.specs.Terms.{Program}
use Rattle.xc_meaning_threads.specs.Events.{Label, Of, Event, event, seen, started_by, replies_of, Task, Main}
use Rattle.xc_meaning_threads.specs.Meaning.{Env, nothing_set, trace_of}
use Rattle.xc_meaning_threads.specs.Traces.{IsTrace, IsWhole}
use Rattle.xc_meaning_source.specs.Source.{SourceRun, HasEnded, HasTrapped, InTurn, JoinsStand, started_in, tasks_in}
use Rattle.xc_meaning_source.specs.Work as costs
use Rattle.xc_meaning_straight.specs.Straight.{event_of, events_of, outcome_for, program_for, IsStraight}
use Rattle.xc_meaning_straight.proofs.Agrees.{same_runs}
use Rattle.xc_meaning_straight.proofs.Traces.{same_traces, same_wholes}
use Rattle.xc_meaning_straight_runs.specs.StraightRuns.{run_for, SameSourceRuns, NoOtherRuns, SameEnds, SameTraps, SameTicks}

-- ---- one thread's part

part_take : {X : Type 0} (s : ℕ) (a : X) (l : List (ℕ × X)) → part_of s ((s, a) ∷ l) ≡ a ∷ part_of s l
part_take s a l = ap (λ b. if b then a ∷ part_of s l else part_of s l) (eqb_same s s refl)

part_skip : {X : Type 0} (i s : ℕ) (a : X) (l : List (ℕ × X)) → (i ≡ s → ⊥) → part_of s ((i, a) ∷ l) ≡ part_of s l
part_skip i s a l h = ap (λ b. if b then a ∷ part_of s l else part_of s l) (eqb_other i s h)

part_for : (s : ℕ) (l : List (ℕ × Action)) → part_of s (run_for l) ≡ events_of (part_of s l)
part_for s [] = refl
part_for s ((i, a) ∷ l) = at (i == s) (part_for s l) where
  at : (b : Bool) → part_of s (run_for l) ≡ events_of (part_of s l)
      → (if b then event_of a ∷ part_of s (run_for l) else part_of s (run_for l)) ≡ events_of (if b then a ∷ part_of s l else part_of s l)
  at true h = ap (λ t. event_of a ∷ t) h
  at false h = h

-- ---- what the world sees, and what starts

seen_for : (l : List (ℕ × Action)) → seen (run_for l) ≡ l
seen_for [] = refl
seen_for ((s, a) ∷ l) = ap (λ m. (s, a) ∷ m) (seen_for l)

none_started : (l : List (ℕ × Action)) → started_in (run_for l) ≡ []
none_started [] = refl
none_started ((s, a) ∷ l) = none_started l

joins_for : (p : Program) (front : List (ℕ × Event)) (l : List (ℕ × Action)) → JoinsStand p front (run_for l)
joins_for p front [] = tt
joins_for p front ((s, a) ∷ l) = (tt, joins_for p (front ++ (s, event_of a) ∷ []) l)

turn_for : (l : List (ℕ × Action)) → ((s : ℕ) → part_of (suc s) l ≡ []) → InTurn 1 (run_for l)
turn_for [] h = tt
turn_for ((zero, a) ∷ l) h = (first, turn_for l (λ s. sym (part_skip 0 (suc s) a l (λ e. cc)) ∙ h s)) where
  first : 0 < 1
  first = omega arith
turn_for ((suc k, a) ∷ l) h = let none : a ∷ part_of (suc k) l ≡ [] = sym (part_take (suc k) a l) ∙ h k in cc

is_first : (s : ℕ) → s < 1 → s ≡ 0
is_first s h = omega (arith, h)

only_first : (l : List (ℕ × Action)) → InTurn 1 (run_for l) → (s : ℕ) → part_of (suc s) l ≡ []
only_first [] h s = refl
only_first ((i, a) ∷ l) h s = let zero_is = is_first i h.0 in part_skip i (suc s) a l (λ e. let no : 0 ≡ suc s = sym zero_is ∙ e in cc) ∙ only_first l h.1 s

-- the one thread is `main`
lone : (l : List (ℕ × Action)) (P : ℕ → Task → Type 0) → P 0 Main → (s : ℕ) (task : Task) → slice_get (tasks_in (run_for l)) s ≡ Some task → P s task
lone l P h zero task e = let same : Main ≡ task = cc in subst (P 0) same h
lone l P h (suc s) task e = let none : slice_get [] s ≡ Some task = subst (λ ts. slice_get ts s ≡ Some task) (none_started l) e in cc

-- ---- source runs

there : (p : old.Program) → IsStraight p.body → (l : List (ℕ × Action)) (w : World) → alone.SourceRun p l w → SourceRun (program_for p) (run_for l) w
there p is l w r = record {
  applies = subst (λ m. Applies (length p.globals) (world_of p.globals) m w) (sym (seen_for l)) r.applies;
  in_turn = turn_for l r.only;
  traces = lone l (λ s task. IsTrace (program_for p) task (part_of s (run_for l)))
      (subst (IsTrace (program_for p) Main) (sym (part_for 0 l)) ((same_traces p is (part_of 0 l)).0 r.trace));
  joins = joins_for (program_for p) [] l;
}

back : (p : old.Program) → IsStraight p.body → (l : List (ℕ × Action)) (w : World) → SourceRun (program_for p) (run_for l) w → alone.SourceRun p l w
back p is l w r = record {
  applies = subst (λ m. Applies (length p.globals) (world_of p.globals) m w) (seen_for l) r.applies;
  trace = (same_traces p is (part_of 0 l)).1 (subst (IsTrace (program_for p) Main) (part_for 0 l) (r.traces 0 Main refl));
  only = only_first l r.in_turn;
}

pub same_source_runs : SameSourceRuns
same_source_runs p is l w = (there p is l w, back p is l w)

pub same_ends : SameEnds
same_ends p is l = (ends_there, ends_back) where
  ends_there : alone.HasEnded p l → HasEnded (program_for p) (run_for l)
  ends_there h = lone l (λ s task. IsWhole (program_for p) task (part_of s (run_for l)))
      (subst (IsWhole (program_for p) Main) (sym (part_for 0 l)) ((same_wholes p is (part_of 0 l)).0 h))

  ends_back : HasEnded (program_for p) (run_for l) → alone.HasEnded p l
  ends_back h = (same_wholes p is (part_of 0 l)).1 (subst (IsWhole (program_for p) Main) (part_for 0 l) (h 0 Main refl))

-- ---- traps

none_for : (l : List (ℕ × Action)) → run_for l ≡ [] → l ≡ []
none_for [] h = refl
none_for ((s, a) ∷ l) h = cc

trapped_back : (l : List (ℕ × Action)) (front : List (ℕ × Event)) (s : ℕ) (k : Label) → run_for l ≡ front ++ (s, event k Dead) ∷ [] → world.HasTrapped l
trapped_back [] [] s k h = cc
trapped_back [] (f ∷ front) s k h = cc
trapped_back ((i, a) ∷ l) [] s k h =
    let head : ◌≡◌ {A = ℕ × Event} (i, event_of a) (s, event k Dead) = cc in
    let tail : run_for l ≡ [] = cc in
    let dead : a.reply ≡ Dead = ap (λ (e : ℕ × Event). e.1.reply) head in
    ([], i, a.request, ap (λ r. (i, act_of a.request r) ∷ l) dead ∙ ap (λ m. (i, act_of a.request Dead) ∷ m) (none_for l tail))
trapped_back ((i, a) ∷ l) (f ∷ front) s k h =
    let tail : run_for l ≡ front ++ (s, event k Dead) ∷ [] = cc in
    let rest = trapped_back l front s k tail in
    ((i, a) ∷ rest.0, rest.1, rest.2, ap (λ m. (i, a) ∷ m) rest.3)

trapped_there : (l : List (ℕ × Action)) → world.HasTrapped l → HasTrapped (run_for l)
trapped_there l (front, s, q, is) = (run_for front, s, Of q, ap run_for is ∙ map-append _ front ((s, act_of q Dead) ∷ []))

pub same_traps : SameTraps
same_traps l = (trapped_there l, λ h. trapped_back l h.0 h.1 h.2 h.3)

-- ---- ticks

pub same_ticks : SameTicks
same_ticks [] = refl
same_ticks ((s, a) ∷ l) = sum_by-cons (λ (e : ℕ × Event). costs.tick_of e.1.label) (s, event_of a) (run_for l) ∙ at a.request (costs.ticks (run_for l)) (world.ticks l) (same_ticks l) where
  at : (q : Request) (m n : ℕ) → m ≡ n → costs.tick_of (Of q) + m ≡ world.ticks_in q n
  at (On x) m n h = omega (arith, h)
  at (Shows bytes) m n h = omega (arith, h)
  at (Begin place arg) m n h = omega (arith, h)
  at Stop m n h = omega (arith, h)
  at Tick m n h = omega (arith, h)

-- ---- no others

-- what `main` does is a list of requests
actions_in : (env : Env) (o : straight.Outcome) → (u : List Action) × (trace_of (outcome_for env o) ≡ events_of u)
actions_in env (straight.Done p) = (p.trace, refl)
actions_in env (straight.Returned v p) = (p.trace, refl)
actions_in env (straight.Trapped t) = (t, refl)
actions_in env (straight.Cut t) = (t, refl)

actions_before : (u : List Action) (t rest : List Event) → events_of u ≡ t ++ rest → (v : List Action) × (t ≡ events_of v)
actions_before u [] rest h = ([], refl)
actions_before [] (e ∷ t) rest h = cc
actions_before (a ∷ u) (e ∷ t) rest h =
    let head : event_of a ≡ e = cc in
    let tail : events_of u ≡ t ++ rest = cc in
    let more = actions_before u t rest tail in
    (a ∷ more.0, ap (λ d. d ∷ t) (sym head) ∙ ap (λ z. event_of a ∷ z) more.1)

main_actions : (p : old.Program) → IsStraight p.body → (t : List Event) → IsTrace (program_for p) Main t → (v : List Action) × (t ≡ events_of v)
main_actions p is t (n, rest, eq) =
    let made = actions_in nothing_set (alone.main_with p (replies_of t)) in
    actions_before made.0 t rest (sym made.1 ∙ sym (ap trace_of (same_runs p is n (replies_of t))) ∙ eq)

all_actions : (m : List (ℕ × Event)) (v : List Action) → InTurn 1 m → part_of 0 m ≡ events_of v → (l : List (ℕ × Action)) × (m ≡ run_for l)
all_actions [] v h e = ([], refl)
all_actions ((s, d) ∷ m) v h e = by v whole (λ u g f. all_actions m u g f) where
  zero_is : s ≡ 0
  zero_is = is_first s h.0

  whole : d ∷ part_of 0 m ≡ events_of v
  whole = sym (part_take 0 d m) ∙ ap (λ i. part_of 0 ((i, d) ∷ m)) (sym zero_is) ∙ e

  by : (v : List Action) → d ∷ part_of 0 m ≡ events_of v → ((u : List Action) → InTurn 1 m → part_of 0 m ≡ events_of u → (l : List (ℕ × Action)) × (m ≡ run_for l))
      → (l : List (ℕ × Action)) × ((s, d) ∷ m ≡ run_for l)
  by [] f go = cc
  by (a ∷ v) f go =
      let head : d ≡ event_of a = cc in
      let tail : part_of 0 m ≡ events_of v = cc in
      let rest = go v (subst (λ (z : Event). InTurn (1 + length (started_by z.label)) m) head h.1) tail in
      ((0, a) ∷ rest.0, ap (λ i. (i, d) ∷ m) zero_is ∙ ap (λ z. (0, z) ∷ m) head ∙ ap (λ z. (0, event_of a) ∷ z) rest.1)

pub no_other_runs : NoOtherRuns
no_other_runs p is m w r = let acts = main_actions p is (part_of 0 m) (r.traces 0 Main refl) in all_actions m acts.0 r.in_turn acts.1
