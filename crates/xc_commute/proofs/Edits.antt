-- Lists of events with two swapped, and with those of one thread gathered.
use Rattle.std.specs.Prelude.{Some, slice_get, swap, filter}
use Rattle.std.proofs.lemmas.List.{map-append, length-map}
use Rattle.std.proofs.Common.{◌≡◌, ◌≢◌, ap₂, not, ℕ, suc, zero, ◌+◌, ◌<◌, List, [], ◌∷◌, ◌++◌, map, refl, ap, sym, ◌∙◌, Bool, true, false, cond, eqb, arith, add-one, length}
use Rattle.std.proofs.lemmas.Option.{slice_get-map}
use Rattle.xc_commute_histories.specs.History.{Apart, Each, gathered}
use Rattle.xc_commute_histories.proofs.Forward.{swap_next, swap_is_next, play_swapped, play_gathered, GoesFirst}
use Rattle.xc_commute.specs.declared.events.Event.{Event}
use Rattle.xc_commute.specs.Touch.{On}
use Rattle.xc_commute.specs.Replay.{Answered, replay, step_of, thread_of, events_of, CanSwap, Keeps}
use Rattle.xc_commute.proofs.Touches.{independent}

-- events that can be swapped are apart, whatever was answered
apart : (x y : Answered) → CanSwap x.0 y.0 → Apart step_of x y
apart x y c = (independent (On x.0.act) (On y.0.act) x.1 y.1 c.1).0

-- an event of a run at its place among the events
event_at : (run : List Answered) (events : List Event) (k : ℕ) (x : Answered) → events_of run ≡ events → slice_get run k ≡ Some x → slice_get events k ≡ Some x.0
event_at run events k x e p = sym (ap (λ z. slice_get z k) e) ∙ slice_get-map (λ x. x.0) run k ∙ rw p refl

map-swap_next : {X Y : Type 0} (f : X → Y) (xs : List X) (k : ℕ) → map f (swap_next xs k) ≡ swap_next (map f xs) k
map-swap_next f [] k = refl
map-swap_next f (x ∷ []) k = refl
map-swap_next f (x ∷ (y ∷ xs)) zero = refl
map-swap_next f (x ∷ (y ∷ xs)) (suc k) = ap (λ l. f x ∷ l) (map-swap_next f (y ∷ xs) k)

map-swap : {X Y : Type 0} (f : X → Y) (xs : List X) (k : ℕ) → suc k < length xs → map f (swap xs k (suc k)) ≡ swap (map f xs) k (suc k)
map-swap f xs k l =
    let l' : suc k < length (map f xs) = rw (length-map xs f) l in
    ap (λ z. map f z) (swap_is_next xs k l) ∙ map-swap_next f xs k ∙ sym (swap_is_next (map f xs) k l')

swapped_suc : (events : List Event) (k : ℕ) → suc k < length events → ((a b : Event) → slice_get events k ≡ Some a → slice_get events (suc k) ≡ Some b → CanSwap a b) →
    Keeps (λ run. swap run k (suc k)) events (swap events k (suc k))
swapped_suc events k l free = λ run e.
    let l' : suc k < length run = rw (← length-map run (λ (x : Answered). x.0)) (rw e l) in (
      map-swap (λ x. x.0) run k l' ∙ ap (λ z. swap z k (suc k)) e,
      λ m. ap (λ z. replay z m) (swap_is_next run k l') ∙ play_swapped step_of run k (λ x y p q. apart x y (free x.0 y.0 (event_at run events k x e p) (event_at run events (suc k) y e q))) m,
    )

pub swapped : (events : List Event) (k : ℕ) → k + 1 < length events → ((a b : Event) → slice_get events k ≡ Some a → slice_get events (k + 1) ≡ Some b → CanSwap a b) →
    Keeps (λ run. swap run k (k + 1)) events (swap events k (k + 1))
swapped events k l free = rw (add-one) (swapped_suc events k (rw add-one at l) (λ a b p q. free a b p (rw add-one q)))

each_from_get : {X : Type 0} (P : X → Type 0) (xs : List X) → ((k : ℕ) (x : X) → slice_get xs k ≡ Some x → P x) → Each P xs
each_from_get P [] e = tt
each_from_get P (x ∷ xs) e = (e zero x refl, each_from_get P xs (λ k y h. e (suc k) y h))

-- what may be gathered by index may be gathered by recursion
goes_first : (owner : ℕ) (run : List Answered) →
    ((j k : ℕ) (x y : Answered) → j < k → slice_get run j ≡ Some x → slice_get run k ≡ Some y → thread_of x.0 ≢ owner → thread_of y.0 ≡ owner → CanSwap x.0 y.0) →
    GoesFirst step_of (λ x. thread_of x.0) owner run
goes_first owner [] f = tt
goes_first owner (x ∷ xs) f = (
  λ ne. each_from_get (λ y. thread_of y.0 ≡ owner → Apart step_of x y) xs (λ k y h same. apart x y (f zero (suc k) x y (omega arith) refl h ne same)),
  goes_first owner xs (λ j k y z l. f (suc j) (suc k) y z (omega arith)),
)

-- a choice of events, with their answers and without
chosen : (p : Event → Bool) (run : List Answered) → events_of (filter (λ x. p x.0) run) ≡ filter p (events_of run)
chosen p [] = refl
chosen p (x ∷ run) =
    elim (p x.0) as (λ b. events_of (cond b (x ∷ filter (λ x. p x.0) run) (filter (λ x. p x.0) run)) ≡ cond b (x.0 ∷ filter p (events_of run)) (filter p (events_of run))) [
      | true ↦ ap (λ l. x.0 ∷ l) (chosen p run)
      | false ↦ chosen p run
    ]

gathered_events : (owner : ℕ) (run : List Answered) → events_of (gathered (λ x. thread_of x.0) owner run) ≡ gathered thread_of owner (events_of run)
gathered_events owner run =
    map-append (λ (x : Answered). x.0) (filter (λ x. eqb (thread_of x.0) owner) run) (filter (λ x. not (eqb (thread_of x.0) owner)) run)
    ∙ ap₂ (λ a b. a ++ b) (chosen (λ e. eqb (thread_of e) owner) run) (chosen (λ e. not (eqb (thread_of e) owner)) run)

pub gathered_keeps : (owner : ℕ) (events : List Event) →
    ((j k : ℕ) (a b : Event) → j < k → slice_get events j ≡ Some a → slice_get events k ≡ Some b → thread_of a ≢ owner → thread_of b ≡ owner → CanSwap a b) →
    Keeps (gathered (λ x. thread_of x.0) owner) events (gathered thread_of owner events)
gathered_keeps owner events free = λ run e. (
  gathered_events owner run ∙ ap (gathered thread_of owner) e,
  λ m. play_gathered step_of (λ x. thread_of x.0) owner run (goes_first owner run (λ j k x y l p q. free j k x.0 y.0 l (event_at run events j x e p) (event_at run events k y e q))) m,
)
