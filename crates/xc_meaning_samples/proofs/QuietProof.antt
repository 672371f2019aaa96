-- The program of two threads is Quiet: only `main` enters a loop, the other thread touches its own object and its place alone, and a
-- new segment is no global.
use Rattle.std.proofs.Common.{◌≡◌, ◌≢◌, ◌⊎◌, ℕ, zero, suc, ◌+◌, ◌*◌, ◌^◌, ◌<◌, ◌≤◌, ◌==◌, List, [], ◌∷◌, ◌++◌, length, Bool, true, false, inl, inr, refl, sym, ap, ◌∙◌, subst, arith, append-nil, append_assoc, length-append}
use Rattle.std.specs.Prelude.{Option, Some, None, slice_get, if◌then◌else◌}
use Rattle.xc_meaning_world.specs.World.{World, Segs, Touch, Reach, New, Free, Request, On, Print as Shows, Begin, Stop, Tick, Reply, Got, Dead, serve, put, world_of}
use Rattle.xc_meaning_world.specs.Runs.{part_of, NewInTouch, IsVacant, Applies}
use Rattle.xc_word.specs.declared.memory.Place.{Place}
use Rattle.xc_meaning_world.proofs.Puts.{eqb_same}
use Rattle.xc_meaning_terms.specs.Terms.{Term, Range, Command}
use Rattle.xc_meaning_terms.specs.Pointers.{segment_of, offset_of}
use Rattle.xc_meaning_threads.specs.Events.{Label, Of, CallBegins, CallEnds, Enter, Leave, Spawn, Fork, Join, Event, event, mark, replies_of, seen_of, by_thread, seen, number_in, Task, Main, Body, started_by}
use Rattle.xc_meaning_threads.specs.Meaning.{point, Outcome, Gives, Exit, Ends, and_then, either, ask, stop, nothing_set, answering, trace_of, run_of}
use Rattle.xc_meaning_threads.specs.Traces.{IsTrace, Asks}
use Rattle.xc_meaning_source.specs.Source.{SourceRun, InTurn, started_in, tasks_in}
use Rattle.xc_meaning_source.specs.Cells.{Use, IsAmong, Conflict, cells_taken}
use Rattle.xc_meaning_source.specs.Work.{world_after}
use Rattle.xc_meaning_source.specs.Premises.{HasOpen, ConflictsWith}
use Rattle.xc_meaning_source.proofs.Prefixes.{part_append, started_append, found_before, served, number_back}
use Rattle.xc_meaning_samples.specs.Samples.{range}
use Rattle.xc_meaning_samples.specs.QuietSample.{two_threads, other_body, loop_body, below_one, TwoThreadsAreQuiet}

-- ---- what the two threads do

-- each event of a list fits what those before it leave
abbrev AllFit : (Label → Type 0) → List Event → Type 0
AllFit F [] = Unit {0}
AllFit F (e ∷ t) = F e.label × AllFit F t

fit_before : (F : Label → Type 0) (t u : List Event) → AllFit F (t ++ u) → AllFit F t
fit_before F [] u h = tt
fit_before F (e ∷ t) u h = (h.0, fit_before F t u h.1)

fit_at : (F : Label → Type 0) (t : List Event) (e : Event) (u : List Event) → AllFit F (t ++ e ∷ u) → F e.label
fit_at F [] e u h = h.0
fit_at F (d ∷ t) e u h = fit_at F t e u h.1

abbrev the_body : Task
the_body = Body (2 * 2 ^ 32) [] [] other_body

-- the cell of the first global
abbrev IsFirst : List Use → Type 0
IsFirst uses = (v : Use) → IsAmong v uses → v.place.seg ≡ 1

-- `main` enters the loop alone, whose cells are in the first global, and starts the other thread alone
abbrev MainFits : Label → Type 0
MainFits (Enter r test body values) = (m : Segs) → IsFirst (cells_taken r test body values m)
MainFits (Spawn place captures values body) = Body place captures values body ≡ the_body
MainFits (Fork id index iterations values body) = ⊥
MainFits _ = Unit {0}

-- the number of the segment that the thread has
abbrev Owned : Type 0
Owned = Option ℕ

abbrev owned_by_touch : Touch → Reply → Owned → Owned
owned_by_touch (New cells) a k = Some (number_in a)
owned_by_touch (Reach act) a k = k
owned_by_touch (Free g) a k = k

abbrev owned_by : Label → Reply → Owned → Owned
owned_by (Of (On x)) a k = owned_by_touch x a k
owned_by _ a k = k

-- the other thread asks for a segment of one cell, frees that one, and writes to the second global
abbrev TouchMayBe : Owned → Touch → Type 0
TouchMayBe k (New cells) = cells ≡ 1
TouchMayBe k (Reach act) = act.place.seg ≡ 2
TouchMayBe k (Free g) = k ≡ Some g

abbrev MayBe : Owned → Label → Type 0
MayBe k (Of (On x)) = TouchMayBe k x
MayBe k (Of (Shows bytes)) = ⊥
MayBe k (Of (Begin at arg)) = ⊥
MayBe k (Of Stop) = Unit {0}
MayBe k (Of Tick) = Unit {0}
MayBe k _ = ⊥

abbrev AllMay : Owned → List Event → Type 0
AllMay k [] = Unit {0}
AllMay k (e ∷ t) = MayBe k e.label × AllMay (owned_by e.label e.reply k) t

abbrev owned_after : Owned → List Event → Owned
owned_after k [] = k
owned_after k (e ∷ t) = owned_after (owned_by e.label e.reply k) t

may_before : (k : Owned) (t u : List Event) → AllMay k (t ++ u) → AllMay k t
may_before k [] u h = tt
may_before k (e ∷ t) u h = (h.0, may_before (owned_by e.label e.reply k) t u h.1)

may_at : (k : Owned) (t : List Event) (e : Event) (u : List Event) → AllMay k (t ++ e ∷ u) → MayBe (owned_after k t) e.label
may_at k [] e u h = h.0
may_at k (d ∷ t) e u h = may_at (owned_by d.label d.reply k) t e u h.1

first_alone : (m : Segs) → IsFirst (cells_taken (range 0 1 1) (Some below_one) loop_body (0 ∷ []) m)
first_alone m v (inl e) = ap (λ (u : Use). u.place.seg) e
first_alone m v (inr h) = absurd h

main_fits : (n : ℕ) (rs : List Reply) → AllFit MainFits (trace_of (run_of two_threads n Main rs))
main_fits n [] = (tt, (tt, (tt, tt)))
main_fits n (Dead ∷ rs) = (tt, (tt, (tt, (tt, tt))))
main_fits zero (Got v ∷ rs) = (tt, (tt, (tt, (tt, (refl, (tt, (tt, (first_alone, tt))))))))
main_fits (suc zero) (Got v ∷ []) = (tt, (tt, (tt, (tt, (refl, (tt, (tt, (first_alone, (tt, (tt, tt))))))))))
main_fits (suc zero) (Got v ∷ Dead ∷ rs) = (tt, (tt, (tt, (tt, (refl, (tt, (tt, (first_alone, (tt, (tt, (tt, tt)))))))))))
main_fits (suc zero) (Got v ∷ Got u ∷ rs) = (tt, (tt, (tt, (tt, (refl, (tt, (tt, (first_alone, (tt, (tt, (tt, tt)))))))))))
main_fits (suc (suc n)) (Got v ∷ []) = (tt, (tt, (tt, (tt, (refl, (tt, (tt, (first_alone, (tt, (tt, tt))))))))))
main_fits (suc (suc n)) (Got v ∷ Dead ∷ rs) = (tt, (tt, (tt, (tt, (refl, (tt, (tt, (first_alone, (tt, (tt, (tt, tt)))))))))))
main_fits (suc (suc n)) (Got v ∷ Got u ∷ rs) = (tt, (tt, (tt, (tt, (refl, (tt, (tt, (first_alone, (tt, (tt, (tt, (tt, (tt, tt)))))))))))))

-- what the other thread does behind its declaration, where its segment has the pointer w
abbrev behind : ℕ → Bool → List Reply → Outcome Exit
behind w b rs = answering (2 * 2 ^ 32) (and_then (either b (ask (On (Free (segment_of w)))) stop
    (point (put nothing_set 0 w) rs (mark (Of Tick) ∷ mark (Of Tick) ∷ event (Of (On (New 1))) (Got w) ∷ []))) (λ _ p. Gives Ends p))

behind_may : (w : ℕ) (b : Bool) (rs : List Reply) → AllMay None (trace_of (behind w b rs))
behind_may w true [] = (tt, (tt, (refl, tt)))
behind_may w true (Dead ∷ rs) = (tt, (tt, (refl, (refl, tt))))
behind_may w true (Got v ∷ []) = (tt, (tt, (refl, (refl, tt))))
behind_may w true (Got v ∷ Dead ∷ rs) = (tt, (tt, (refl, (refl, (refl, tt)))))
behind_may w true (Got v ∷ Got u ∷ rs) = (tt, (tt, (refl, (refl, (refl, tt)))))
behind_may w false [] = (tt, (tt, (refl, tt)))
behind_may w false (a ∷ rs) = (tt, (tt, (refl, (tt, tt))))

other_may : (n : ℕ) (rs : List Reply) → AllMay None (trace_of (run_of two_threads n the_body rs))
other_may n [] = (tt, (tt, tt))
other_may n (Dead ∷ rs) = (tt, (tt, (refl, tt)))
other_may n (Got w ∷ rs) = behind_may w (offset_of w == 0) rs

main_trace : (t : List Event) → IsTrace two_threads Main t → AllFit MainFits t
main_trace t (n, rest, is) = fit_before MainFits t rest (subst (AllFit MainFits) is (main_fits n (replies_of t)))

other_trace : (t : List Event) → IsTrace two_threads the_body t → AllMay None t
other_trace t (n, rest, is) = may_before None t rest (subst (AllMay None) is (other_may n (replies_of t)))

-- ---- which threads there are

abbrev AllBody : List Task → Type 0
AllBody [] = Unit {0}
AllBody (k ∷ ks) = (k ≡ the_body) × AllBody ks

body_append : (xs ys : List Task) → AllBody xs → AllBody ys → AllBody (xs ++ ys)
body_append [] ys h g = g
body_append (x ∷ xs) ys h g = (h.0, body_append xs ys h.1 g)

body_before : (xs ys : List Task) → AllBody (xs ++ ys) → AllBody xs
body_before [] ys h = tt
body_before (x ∷ xs) ys h = (h.0, body_before xs ys h.1)

body_found : (xs : List Task) (k : ℕ) (task : Task) → AllBody xs → slice_get xs k ≡ Some task → task ≡ the_body
body_found [] k task h e = cc
body_found (x ∷ xs) zero task h e = let same : x ≡ task = cc in sym same ∙ h.0
body_found (x ∷ xs) (suc k) task h e = body_found xs k task h.1 e

body_at : (xs : List Task) (k : ℕ) → AllBody xs → k < length xs → slice_get xs k ≡ Some the_body
body_at [] k h l = absurd (omega (arith, l))
body_at (x ∷ xs) zero h l = ap Some h.0
body_at (x ∷ xs) (suc k) h l = body_at xs k h.1 (omega (arith, l))

main_starts : (k : Label) → MainFits k → AllBody (started_by k)
main_starts (Spawn place captures values body) h = (h, tt)
main_starts (Fork id index iterations values body) h = absurd h
main_starts (Of q) h = tt
main_starts CallBegins h = tt
main_starts CallEnds h = tt
main_starts (Enter r test body values) h = tt
main_starts (Leave id) h = tt
main_starts Join h = tt

other_starts : (o : Owned) (k : Label) → MayBe o k → AllBody (started_by k)
other_starts o (Of q) h = tt
other_starts o CallBegins h = tt
other_starts o CallEnds h = tt
other_starts o (Enter r test body values) h = tt
other_starts o (Leave id) h = tt
other_starts o (Spawn place captures values body) h = absurd h
other_starts o (Fork id index iterations values body) h = absurd h
other_starts o Join h = tt

turn_at : (n : ℕ) (front : List (ℕ × Event)) (s : ℕ) (e : Event) (rest : List (ℕ × Event)) → InTurn n (front ++ (s, e) ∷ rest) → s < n + length (started_in front)
turn_at n [] s e rest h = let l = h.0 in omega (arith, l)
turn_at n ((i, d) ∷ front) s e rest h =
    let l = turn_at (n + length (started_by d.label)) front s e rest h.1 in
    let sum = length-append (started_by d.label) (started_in front) in omega (arith, l, sum)

part_at : (s : ℕ) (front : List (ℕ × Event)) (e : Event) (rest : List (ℕ × Event)) → part_of s (front ++ (s, e) ∷ rest) ≡ part_of s front ++ e ∷ part_of s rest
part_at s front e rest = part_append s front ((s, e) ∷ rest)
    ∙ ap (λ b. part_of s front ++ (if b then e ∷ part_of s rest else part_of s rest)) (eqb_same s s refl)

-- the event is one of `main`, or of the other thread
abbrev Role : ℕ → Label → Type 0
Role s k = ((s ≡ 0) × MainFits k) ⊎ ((o : Owned) × MayBe o k)

role_by : (w : World) (front : List (ℕ × Event)) (s : ℕ) (e : Event) (rest : List (ℕ × Event)) → SourceRun two_threads (front ++ (s, e) ∷ rest) w
    → AllBody (started_in front) → s < 1 + length (started_in front) → Role s e.label
role_by w front zero e rest r h l =
    let t = subst (IsTrace two_threads Main) (part_at 0 front e rest) (r.traces 0 Main refl) in
    inl (refl, fit_at MainFits (part_of 0 front) e (part_of 0 rest) (main_trace (part_of 0 front ++ e ∷ part_of 0 rest) t))
role_by w front (suc k) e rest r h l =
    let there : slice_get (started_in front ++ started_in ((suc k, e) ∷ rest)) k ≡ Some the_body
    = found_before (started_in front) (started_in ((suc k, e) ∷ rest)) k the_body (body_at (started_in front) k h (omega (arith, l))) in
    let here : slice_get (started_in (front ++ (suc k, e) ∷ rest)) k ≡ Some the_body = ap (λ xs. slice_get xs k) (started_append front ((suc k, e) ∷ rest)) ∙ there in
    let t = subst (IsTrace two_threads the_body) (part_at (suc k) front e rest) (r.traces (suc k) the_body here) in
    inr (owned_after None (part_of (suc k) front), may_at None (part_of (suc k) front) e (part_of (suc k) rest) (other_trace (part_of (suc k) front ++ e ∷ part_of (suc k) rest) t))

role_at : (w : World) (front : List (ℕ × Event)) (s : ℕ) (e : Event) (rest : List (ℕ × Event)) → SourceRun two_threads (front ++ (s, e) ∷ rest) w
    → AllBody (started_in front) → Role s e.label
role_at w front s e rest r h = role_by w front s e rest r h (turn_at 1 front s e rest r.in_turn)

role_starts : (s : ℕ) (k : Label) → Role s k → AllBody (started_by k)
role_starts s k (inl h) = main_starts k h.1
role_starts s k (inr h) = other_starts h.0 k h.1

one_started : (s : ℕ) (e : Event) → started_in ((s, e) ∷ []) ≡ started_by e.label
one_started s e = append-nil (started_by e.label)

bodies : (w : World) (front rest : List (ℕ × Event)) → SourceRun two_threads (front ++ rest) w → AllBody (started_in front) → AllBody (started_in (front ++ rest))
bodies w front [] r h = subst (λ l. AllBody (started_in l)) (sym (append-nil front)) h
bodies w front ((s, e) ∷ rest) r h =
    let same : (front ++ (s, e) ∷ []) ++ rest ≡ front ++ (s, e) ∷ rest = append_assoc front ((s, e) ∷ []) rest in
    let more = role_starts s e.label (role_at w front s e rest r h) in
    let next : AllBody (started_in (front ++ (s, e) ∷ []))
    = subst AllBody (sym (started_append front ((s, e) ∷ []) ∙ ap (λ xs. started_in front ++ xs) (one_started s e))) (body_append (started_in front) (started_by e.label) h more) in
    subst (λ l. AllBody (started_in l)) same (bodies w (front ++ (s, e) ∷ []) rest (subst (λ l. SourceRun two_threads l w) (sym same) r) next)

all_bodies : (w : World) (l : List (ℕ × Event)) → SourceRun two_threads l w → AllBody (started_in l)
all_bodies w l r = bodies w [] l r tt

-- ---- who stands in the loop

opened : (w : World) (front : List (ℕ × Event)) (s : ℕ) (r : Range) (test : Option Term) (body : Command) (values : List ℕ) (rest : List (ℕ × Event))
    → SourceRun two_threads (front ++ (s, mark (Enter r test body values)) ∷ rest) w → (s ≡ 0) × MainFits (Enter r test body values)
opened w front s r test body values rest run = at (role_at w front s (mark (Enter r test body values)) rest run before) where
  before : AllBody (started_in front)
  before = body_before (started_in front) (started_in ((s, mark (Enter r test body values)) ∷ rest))
      (subst AllBody (started_append front ((s, mark (Enter r test body values)) ∷ rest)) (all_bodies w (front ++ (s, mark (Enter r test body values)) ∷ rest) run))

  at : Role s (Enter r test body values) → (s ≡ 0) × MainFits (Enter r test body values)
  at (inl h) = h
  at (inr h) = absurd h.1

opens : (w : World) (l : List (ℕ × Event)) (s : ℕ) (uses : List Use) → SourceRun two_threads l w → HasOpen two_threads (λ id. true) l s uses → (s ≡ 0) × IsFirst uses
opens w l s uses run h =
    let is = opened w h.front s h.range h.test h.body h.values h.rest (subst (λ l. SourceRun two_threads l w) h.entered run) in
    (is.0, subst IsFirst (sym h.cells) (is.1 (world_after (world_of two_threads.globals) h.front).segs))

-- ---- the numbers of new segments

abbrev TouchAbove : Touch → Reply → Type 0
TouchAbove (New zero) a = Unit {0}
TouchAbove (New (suc cells)) a = 2 < number_in a
TouchAbove (Reach act) a = Unit {0}
TouchAbove (Free g) a = Unit {0}

abbrev IsAbove : Label → Reply → Type 0
IsAbove (Of (On x)) a = TouchAbove x a
IsAbove _ a = Unit {0}

abbrev AllAbove : List Event → Type 0
AllAbove [] = Unit {0}
AllAbove (e ∷ t) = IsAbove e.label e.reply × AllAbove t

abbrev EachAbove : List (ℕ × Event) → Type 0
EachAbove [] = Unit {0}
EachAbove ((s, e) ∷ l) = IsAbove e.label e.reply × EachAbove l

part_above : (s : ℕ) (l : List (ℕ × Event)) → EachAbove l → AllAbove (part_of s l)
part_above s [] h = tt
part_above s ((i, e) ∷ l) h = at (i == s) (part_above s l h.1) where
  at : (b : Bool) → AllAbove (part_of s l) → AllAbove (if b then e ∷ part_of s l else part_of s l)
  at true rest = (h.0, rest)
  at false rest = rest

touch_above : (x : Touch) (a : Reply) (num : ℕ) (w m : World) → NewInTouch (IsVacant 2 w.segs) x num → serve (On x) num w ≡ Some (a, m) → TouchAbove x a
touch_above (New zero) a num w m v h = tt
touch_above (New (suc cells)) a num w m v h =
    let is = served a (Got (num * 2 ^ 32)) m _ h in
    subst (λ b. 2 < number_in b) is.0 (subst (λ k. 2 < k) (number_back num) v.0)
touch_above (Reach act) a num w m v h = tt
touch_above (Free g) a num w m v h = tt

all_above : (w w' : World) (l : List (ℕ × Event)) → Applies 2 w (seen l) w' → EachAbove l
all_above w w' [] h = tt
all_above w w' ((s, e) ∷ l) h = at e.label e.reply h (λ v g. all_above v w' l g) where
  at : (k : Label) (a : Reply) → Applies 2 w (by_thread s (seen_of k a) ++ seen l) w' → ((v : World) → Applies 2 v (seen l) w' → EachAbove l)
      → IsAbove k a × EachAbove l
  at (Of (On x)) a (num, vacant, m, allows, rest) go = (touch_above x a num w m vacant allows, go m rest)
  at (Of (Shows bytes)) a (num, vacant, m, allows, rest) go = (tt, go m rest)
  at (Of (Begin p arg)) a (num, vacant, m, allows, rest) go = (tt, go m rest)
  at (Of Stop) a (num, vacant, m, allows, rest) go = (tt, go m rest)
  at (Of Tick) a (num, vacant, m, allows, rest) go = (tt, go m rest)
  at CallBegins a (num, vacant, m, allows, rest) go = (tt, go m rest)
  at CallEnds a h go = (tt, go w h)
  at (Enter r test body values) a h go = (tt, go w h)
  at (Leave id) a h go = (tt, go w h)
  at (Spawn place captures values body) a h go = (tt, go w h)
  at (Fork id index iterations values body) a h go = (tt, go w h)
  at Join a h go = (tt, go w h)

abbrev OwnedAbove : Owned → Type 0
OwnedAbove None = Unit {0}
OwnedAbove (Some g) = 2 < g

touch_owned : (k : Owned) (x : Touch) (a : Reply) → OwnedAbove k → TouchMayBe k x → TouchAbove x a → OwnedAbove (owned_by_touch x a k)
touch_owned k (New zero) a h may above = cc
touch_owned k (New (suc cells)) a h may above = above
touch_owned k (Reach act) a h may above = h
touch_owned k (Free g) a h may above = h

label_owned : (k : Owned) (e : Label) (a : Reply) → OwnedAbove k → MayBe k e → IsAbove e a → OwnedAbove (owned_by e a k)
label_owned k (Of (On x)) a h may above = touch_owned k x a h may above
label_owned k (Of (Shows bytes)) a h may above = h
label_owned k (Of (Begin p arg)) a h may above = h
label_owned k (Of Stop) a h may above = h
label_owned k (Of Tick) a h may above = h
label_owned k CallBegins a h may above = h
label_owned k CallEnds a h may above = h
label_owned k (Enter r test body values) a h may above = h
label_owned k (Leave id) a h may above = h
label_owned k (Spawn place captures values body) a h may above = h
label_owned k (Fork id index iterations values body) a h may above = h
label_owned k Join a h may above = h

owned_above : (k : Owned) (t : List Event) → OwnedAbove k → AllMay k t → AllAbove t → OwnedAbove (owned_after k t)
owned_above k [] h may above = h
owned_above k (e ∷ t) h may above = owned_above (owned_by e.label e.reply k) t (label_owned k e.label e.reply h may.0 above.0) may.1 above.1

-- ---- no conflict

apart : (u v : Use) (g : ℕ) → u.place.seg ≡ g → 2 ≤ g → v.place.seg ≡ 1 → Conflict u v → ⊥
apart u v g e l first h = let same : u.place.seg ≡ v.place.seg = ap (λ (p : Place). p.seg) h.0 in omega (arith, e, l, first, same)

touch_apart : (k : Owned) (m : Segs) (x : Touch) (uses : List Use) → OwnedAbove k → TouchMayBe k x → IsFirst uses → ConflictsWith 2 m (On x) uses → ⊥
touch_apart k m (New cells) uses above may first (a, u, v, answer, makes, among, clash) =
    let l = answer.0 in apart u v (number_in a) makes.0 (omega (arith, l)) (first v among) clash
touch_apart k m (Reach act) uses above may first (a, u, v, answer, makes, among, clash) =
    apart u v 2 (ap (λ (z : Use). z.place.seg) makes.0 ∙ may) (omega arith) (first v among) clash
touch_apart k m (Free g) uses above may first (a, u, v, answer, makes, among, clash) =
    let l : 2 < g = subst OwnedAbove may above in apart u v g makes.0 (omega (arith, l)) (first v among) clash

label_apart : (k : Owned) (m : Segs) (q : Request) (uses : List Use) → OwnedAbove k → MayBe k (Of q) → IsFirst uses → ConflictsWith 2 m q uses → ⊥
label_apart k m (On x) uses above may first h = touch_apart k m x uses above may first h
label_apart k m (Shows bytes) uses above may first h = h.4
label_apart k m (Begin p arg) uses above may first h = h.4
label_apart k m Stop uses above may first h = h.4
label_apart k m Tick uses above may first h = h.4

-- the other thread's next request
asked_apart : (w : World) (l : List (ℕ × Event)) (uses : List Use) (u : ℕ) (task : Task) (q : Request) → SourceRun two_threads l w → IsFirst uses
    → task ≡ the_body → Asks two_threads task (part_of u l) q → ConflictsWith 2 w.segs q uses → ⊥
asked_apart w l uses u task q run first same asks h =
    let t = part_of u l in
    let trace = other_trace (t ++ event (Of q) h.0 ∷ []) (subst (λ k. IsTrace two_threads k (t ++ event (Of q) h.0 ∷ [])) same (asks h.0)) in
    let above = owned_above None t tt (may_before None t (event (Of q) h.0 ∷ []) trace) (part_above u l (all_above (world_of two_threads.globals) w l run.applies)) in
    label_apart (owned_after None t) w.segs q uses above (may_at None t (event (Of q) h.0) [] trace) first h

next_apart : (l : List (ℕ × Event)) (w : World) → SourceRun two_threads l w → (s : ℕ) (uses : List Use) → HasOpen two_threads (λ id. true) l s uses →
    (u : ℕ) (task : Task) (q : Request) → s ≢ u → slice_get (tasks_in l) u ≡ Some task → Asks two_threads task (part_of u l) q →
    ConflictsWith 2 w.segs q uses → ⊥
next_apart l w run s uses stands zero task q other is asks h = other (opens w l s uses run stands).0
next_apart l w run s uses stands (suc k) task q other is asks h =
    asked_apart w l uses (suc k) task q run (opens w l s uses run stands).1 (body_found (started_in l) k task (all_bodies w l run) is) asks h

pub two_threads_are_quiet : TwoThreadsAreQuiet
two_threads_are_quiet = record {
  next = next_apart;
  cells = λ l w run s u us vs other a b h. other ((opens w l s us run a).0 ∙ sym (opens w l u vs run b).0);
}
