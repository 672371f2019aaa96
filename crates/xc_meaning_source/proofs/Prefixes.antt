-- Source runs are closed under prefixes, and their worlds can be told from their events.
use Rattle.std.proofs.Common.{◌≡◌, ℕ, zero, suc, ◌+◌, ◌*◌, ◌^◌, ◌==◌, List, [], ◌∷◌, ◌++◌, length, Bool, true, false, refl, sym, ap, ◌∙◌, subst, arith, append_assoc}
use Rattle.std.specs.Prelude.{Option, Some, slice_get, if◌then◌else◌}
use Rattle.std.proofs.Math.Nat.{mul-div_cancel}
use Rattle.xc_meaning_world.specs.World.{World, Touch, Reach, New, Free, Request, On, Print as Shows, Begin, Stop, Tick, Reply, Got, Dead, Action, put, serve, world_of}
use Rattle.xc_meaning_world.specs.Runs.{part_of, Allows, Applies}
use Rattle.xc_meaning_world.proofs.Puts.{put_same}
use Rattle.xc_meaning_terms.specs.Terms.{Program}
use Rattle.xc_meaning_terms.specs.Pointers.{segment_of}
use Rattle.xc_meaning_threads.specs.Events.{Label, Of, CallBegins, CallEnds, Enter, Leave, Spawn, Fork, Join, Event, seen_of, by_thread, seen, Main, number_in, started_by}
use Rattle.xc_meaning_source.specs.Work.{left_by, world_by, world_after}
use Rattle.xc_meaning_threads.specs.Traces.{IsTrace}
use Rattle.xc_meaning_source.specs.Source.{started_in, InTurn, JoinsStand}
use Rattle.xc_meaning_source.specs.Laws.{SourceRunsAreClosed, WorldIsThatAfter}
use Rattle.xc_meaning_threads.proofs.Closed.{traces_are_closed}

-- ---- parts of a list

pub part_append : (s : ℕ) (l m : List (ℕ × Event)) → part_of s (l ++ m) ≡ part_of s l ++ part_of s m
part_append s [] m = refl
part_append s ((i, e) ∷ l) m = at (i == s) (part_append s l m) where
  at : (b : Bool) → part_of s (l ++ m) ≡ part_of s l ++ part_of s m
      → (if b then e ∷ part_of s (l ++ m) else part_of s (l ++ m)) ≡ (if b then e ∷ part_of s l else part_of s l) ++ part_of s m
  at true h = ap (λ xs. e ∷ xs) h
  at false h = h

seen_append : (l m : List (ℕ × Event)) → seen (l ++ m) ≡ seen l ++ seen m
seen_append [] m = refl
seen_append ((s, e) ∷ l) m = ap (λ xs. by_thread s (seen_of e.label e.reply) ++ xs) (seen_append l m)
    ∙ sym (append_assoc (by_thread s (seen_of e.label e.reply)) (seen l) (seen m))

pub started_append : (l m : List (ℕ × Event)) → started_in (l ++ m) ≡ started_in l ++ started_in m
started_append [] m = refl
started_append ((s, e) ∷ l) m = ap (λ xs. started_by e.label ++ xs) (started_append l m) ∙ sym (append_assoc (started_by e.label) (started_in l) (started_in m))

pub found_before : {X : Type 0} (xs ys : List X) (i : ℕ) (x : X) → slice_get xs i ≡ Some x → slice_get (xs ++ ys) i ≡ Some x
found_before [] ys i x h = cc
found_before (y ∷ xs) ys zero x h = h
found_before (y ∷ xs) ys (suc i) x h = found_before xs ys i x h

applies_before : (globals : ℕ) (w w' : World) (xs ys : List (ℕ × Action)) → Applies globals w (xs ++ ys) w' → (v : World) × Applies globals w xs v
applies_before globals w w' [] ys h = (w, refl)
applies_before globals w w' ((i, a) ∷ xs) ys (num, vacant, m, allows, rest) =
    let later = applies_before globals m w' xs ys rest in (later.0, (num, vacant, m, allows, later.1))

turn_before : (n : ℕ) (l m : List (ℕ × Event)) → InTurn n (l ++ m) → InTurn n l
turn_before n [] m h = tt
turn_before n ((s, e) ∷ l) m h = (h.0, turn_before (n + length (started_by e.label)) l m h.1)

joins_before : (p : Program) (front l m : List (ℕ × Event)) → JoinsStand p front (l ++ m) → JoinsStand p front l
joins_before p front [] m h = tt
joins_before p front ((s, e) ∷ l) m h = (h.0, joins_before p (front ++ (s, e) ∷ []) l m h.1)

pub source_runs_are_closed : SourceRunsAreClosed
source_runs_are_closed p l m w r =
    let applied : Applies (length p.globals) (world_of p.globals) (seen l ++ seen m) w = subst (λ xs. Applies (length p.globals) (world_of p.globals) xs w) (seen_append l m) r.applies in
    let before = applies_before (length p.globals) (world_of p.globals) w (seen l) (seen m) applied in (
      before.0,
      record {
        applies = before.1;
        in_turn = turn_before 1 l m r.in_turn;
        traces = λ s task h. traces_are_closed p task (part_of s l) (part_of s m) (subst (IsTrace p task) (part_append s l m)
            (r.traces s task (subst (λ xs. slice_get (Main ∷ xs) s ≡ Some task) (sym (started_append l m)) (found_before (Main ∷ started_in l) (started_in m) s task h))));
        joins = joins_before p [] l m r.joins;
      },
    )

-- ---- worlds

pub served : (a b : Reply) (v w : World) → ◌≡◌ {A = Option (Reply × World)} (Some (b, w)) (Some (a, v)) → (b ≡ a) × (w ≡ v)
served a b v w h = let e : ◌≡◌ {A = Reply × World} (b, w) (a, v) = cc in (ap (λ (p : Reply × World). p.0) e, ap (λ (p : Reply × World). p.1) e)

pub number_back : (num : ℕ) → num ≡ segment_of (num * 2 ^ 32)
number_back num = sym (mul-div_cancel num (omega arith))

-- a new segment: the number can be told from the reply
new_world : (n num : ℕ) (w m : World) (a : Reply) → serve (On (New n)) num w ≡ Some (a, m) → m ≡ left_by (serve (On (New n)) (number_in a) w) w
new_world zero num w m a h =
    let is = served a Dead m (record { segs = put w.segs num (w.segs num); out = w.out }) h in
    sym is.1 ∙ ap (λ s. record { segs = s; out = w.out }) (put_same w.segs num (w.segs num) refl)
    ∙ ap (λ s. record { segs = s; out = w.out }) (sym (put_same w.segs 0 (w.segs 0) refl))
    ∙ ap (λ b. left_by (serve (On (New zero)) (number_in b) w) w) is.0
new_world (suc n) num w m a h =
    let is = served a (Got (num * 2 ^ 32)) m _ h in
    subst (λ b. m ≡ left_by (serve (On (New (suc n))) (number_in b) w) w) is.0
    (subst (λ k. m ≡ left_by (serve (On (New (suc n))) k w) w) (number_back num) (ap (λ o. left_by o w) (sym h)))

touch_world : (x : Touch) (num : ℕ) (w m : World) (a : Reply) → serve (On x) num w ≡ Some (a, m) → m ≡ left_by (serve (On x) (number_in a) w) w
touch_world (Reach act) num w m a h = ap (λ o. left_by o w) (sym h)
touch_world (New n) num w m a h = new_world n num w m a h
touch_world (Free g) num w m a h = ap (λ o. left_by o w) (sym h)

begun : (at arg num : ℕ) (a : Reply) (w m : World) → Allows (Begin at arg) a num w m → m ≡ w
begun at arg num Dead w m h = elim h [ ]
begun at arg num (Got v) w m h = sym h.0

stop_world : (num : ℕ) (w m : World) (a : Reply) → serve Stop num w ≡ Some (a, m) → m ≡ w
stop_world num w m a h = sym (served a Dead m w h).1

-- what the world allows leaves it as the event says
allowed_world : (q : Request) (num : ℕ) (a : Reply) (w m : World) → Allows q a num w m → m ≡ world_by (Of q) a w
allowed_world (On x) num a w m h = touch_world x num w m a h
allowed_world (Shows bytes) num a w m h = ap (λ o. left_by o w) (sym h)
allowed_world (Begin at arg) num a w m h = begun at arg num a w m h
allowed_world Stop num a w m h = stop_world num w m a h
allowed_world Tick num a w m h = sym h

after_all : (globals : ℕ) (l : List (ℕ × Event)) (w w' : World) → Applies globals w (seen l) w' → w' ≡ world_after w l
after_all globals [] w w' h = sym h
after_all globals ((s, e) ∷ l) w w' h = at e.label e.reply h (λ v. after_all globals l v w') where
  at : (k : Label) (a : Reply) → Applies globals w (by_thread s (seen_of k a) ++ seen l) w'
      → ((v : World) → Applies globals v (seen l) w' → w' ≡ world_after v l) → w' ≡ world_after (world_by k a w) l
  at (Of q) a (num, vacant, m, allows, rest) go = go m rest ∙ ap (λ v. world_after v l) (allowed_world q num a w m allows)
  at CallBegins a (num, vacant, m, allows, rest) go = go m rest ∙ ap (λ v. world_after v l) (sym allows)
  at CallEnds a h go = go w h
  at (Enter r test body values) a h go = go w h
  at (Leave id) a h go = go w h
  at (Spawn place captures values body) a h go = go w h
  at (Fork id index iterations values body) a h go = go w h
  at Join a h go = go w h

pub world_is_that_after : WorldIsThatAfter
world_is_that_after p l w r = after_all (length p.globals) l (world_of p.globals) w r.applies
