-- The program of Counter: what its source runs can do, and a team run that ends.
use Rattle.std.specs.Prelude.{◌≡◌, ◌≢◌, ℕ, zero, suc, Some, List, [], ◌∷◌, true, false}
use Rattle.std.proofs.Common.{refl, ap, sym, ◌∙◌, subst, inl, inr}
use Rattle.std.proofs.lemmas.Bool.Decides.{eqb_tells}
use Rattle.xc_commute_histories.specs.History.{Is}
use Rattle.xc_commute_histories.specs.Runs.{Stand, Free, At, Plain, In, put, put_all, Source, begin, act, enter, go_on, TeamRun, begins, acts_alone, enters, member, leaves}
use Rattle.xc_commute_histories.specs.Counter.{Two, Deed, EnterLoop, ReadOne, Fill, WaitFull, SetOne, Spot, Ready, Standing, AtZero, Filling, Leaving, Trapped, Waiting, Setting, Ended, does_it, Goes, goes_in, reads_zero, traps_there, reads_one, fills, goes_out, waits, sets, filled, filled_then_read, out, begin_at, program, InLoop, QuietOfActions}
use Rattle.xc_commute_histories.proofs.OpenLoops.{none_some}

abbrev no_memory_yet : Two
no_memory_yet = record { full = false; one = false }

-- where the threads of source runs can stand
abbrev FineZero : Stand Spot Two → Type 0
FineZero (Free Ready) = Unit {0}
FineZero (Free Standing) = Unit {0}
FineZero (Free AtZero) = Unit {0}
FineZero (Free Trapped) = Unit {0}
FineZero (At Standing e) = Unit {0}
FineZero _ = ⊥

abbrev Fine : ℕ → Stand Spot Two → Type 0
Fine zero x = FineZero x
Fine (suc zero) x = x ≡ Free Waiting
Fine (suc (suc n)) x = x ≡ Free Ended

put_when : {X : Type 0} (Q : X → Type 0) (f : ℕ → X) (u : ℕ) (x : X) (v : ℕ) → (v ≡ u → Q x) → (v ≢ u → Q (f v)) → Q (put f u x v)
put_when Q f u x v q other =
    elim (eqb_tells v u) as (λ _. Q (put f u x v)) [
      | inl h ↦ rw h.0 (q h.1)
      | inr h ↦ rw h.0 (other h.1)
    ]

begins_fine : (u : ℕ) → Fine u (Free (begin_at u))
begins_fine zero = tt
begins_fine (suc zero) = refl
begins_fine (suc (suc n)) = refl

one_step : (u : ℕ) (t n : Spot) (a : Deed) (k : Two) → Fine u (Free t) → Goes t a n → does_it a no_memory_yet ≡ Some k → (k ≡ no_memory_yet) × Fine u (Free n)
one_step zero _ _ _ k f goes_in e = (cc, tt)
one_step zero _ _ _ k f reads_zero e = (cc, tt)
one_step zero _ _ _ k f traps_there e = (cc, tt)
one_step zero _ _ _ k f reads_one e = absurd (none_some k e)
one_step zero _ _ _ k f fills e = absurd f
one_step zero _ _ _ k f goes_out e = absurd f
one_step zero _ _ _ k f waits e = absurd f
one_step zero _ _ _ k f sets e = absurd f
one_step (suc zero) _ _ _ k f goes_in e = absurd (cc)
one_step (suc zero) _ _ _ k f reads_zero e = absurd (cc)
one_step (suc zero) _ _ _ k f traps_there e = absurd (cc)
one_step (suc zero) _ _ _ k f reads_one e = absurd (cc)
one_step (suc zero) _ _ _ k f fills e = absurd (cc)
one_step (suc zero) _ _ _ k f goes_out e = absurd (cc)
one_step (suc zero) _ _ _ k f waits e = absurd (none_some k e)
one_step (suc zero) _ _ _ k f sets e = absurd (cc)
one_step (suc (suc u)) _ _ _ k f goes_in e = absurd (cc)
one_step (suc (suc u)) _ _ _ k f reads_zero e = absurd (cc)
one_step (suc (suc u)) _ _ _ k f traps_there e = absurd (cc)
one_step (suc (suc u)) _ _ _ k f reads_one e = absurd (cc)
one_step (suc (suc u)) _ _ _ k f fills e = absurd (cc)
one_step (suc (suc u)) _ _ _ k f goes_out e = absurd (cc)
one_step (suc (suc u)) _ _ _ k f waits e = absurd (cc)
one_step (suc (suc u)) _ _ _ k f sets e = absurd (cc)

standing_only : (u : ℕ) (n : Spot) (k : Two) → Fine u (Free n) → n ≡ Standing → Fine u (At n k)
standing_only zero n k f e = rw e tt
standing_only (suc zero) n k f e = absurd (cc)
standing_only (suc (suc u)) n k f e = absurd (cc)

goes_on : (u : ℕ) (t : Spot) (e : Two) → Fine u (At t e) → Fine u (Free t)
goes_on zero Standing e f = tt
goes_on zero Ready e f = absurd f
goes_on zero AtZero e f = absurd f
goes_on zero Filling e f = absurd f
goes_on zero Leaving e f = absurd f
goes_on zero Trapped e f = absurd f
goes_on zero Waiting e f = absurd f
goes_on zero Setting e f = absurd f
goes_on zero Ended e f = absurd f
goes_on (suc zero) t e f = absurd (cc)
goes_on (suc (suc u)) t e f = absurd (cc)

-- no source run changes the memory: thread 1 waits for ever, since thread 0 traps before it fills
pub kept : {h : List (ℕ × Deed)} {s : ℕ → Stand Spot Two} {m : Two} → Source program h s m → (m ≡ no_memory_yet) × ((u : ℕ) → Fine u (s u))
kept begin = (refl, begins_fine)
kept (act {s = s} {m = m} src u t n a k is may c e ws starts un) =
    let i = kept src in
    let f : Fine u (Free t) = rw is at (i.1 u) in
    let o = one_step u t n a k f c (ap (does_it a) (sym i.0) ∙ e) in
    (o.0, λ v. subst (λ l. Fine v (put_all Free (put s u (Free n)) l v)) (sym starts) (put_when (λ z. Fine v z) s u (Free n) v (λ g. subst (λ z. Fine z (Free n)) (sym g) o.1) (λ _. i.1 v)))
kept (enter {s = s} {m = m} src u t n a k is may c opens e starts) =
    let i = kept src in
    let f : Fine u (Free t) = rw is at (i.1 u) in
    let o = one_step u t n a k f c (ap (does_it a) (sym i.0) ∙ e) in
    (o.0, λ v. put_when (λ z. Fine v z) s u (At n k) v (λ g. subst (λ z. Fine z (At n k)) (sym g) (standing_only u n k o.1 opens)) (λ _. i.1 v))
kept (go_on {s = s} {m = m} src u t e is) =
    let i = kept src in
    let f : Fine u (At t e) = rw is at (i.1 u) in
    (i.0, λ v. put_when (λ z. Fine v z) s u (Free t) v (λ g. subst (λ z. Fine z (Free t)) (sym g) (goes_on u t e f)) (λ _. i.1 v))

-- no source run of the program has ended
pub never_ends : {h : List (ℕ × Deed)} {s : ℕ → Stand Spot Two} {m : Two} → Source program h s m → s zero ≢ Free Ended
never_ends src e = let z : Fine zero (Free Ended) = rw e at ((kept src).1 zero) in z

-- but this team run has: iteration 1, thread 1 whole, iteration 0
pub ends : TeamRun program (put (put (put (put (λ u. Plain (begin_at u)) 0 (In Standing)) 1 (Plain Setting)) 1 (Plain Ended)) 0 (Plain Ended)) [] ((1, SetOne) ∷ (1, WaitFull) ∷ (0, EnterLoop) ∷ []) (record { full = true; one = true })
ends =
    leaves
    (member
    (acts_alone
    (acts_alone
    (member
    (enters begins 0 Ready Standing EnterLoop _ refl tt goes_in refl refl refl)
    0 Standing Fill (record { full = true; one = false }) refl filled refl)
    1 Waiting Setting WaitFull (record { full = true; one = false }) refl tt waits refl [] refl tt)
    1 Setting Ended SetOne (record { full = true; one = true }) refl tt sets refl [] refl tt)
    0 Standing ReadOne (record { full = true; one = true }) refl filled_then_read refl)
    0 Standing Ended refl out

idle : (v : ℕ) (t n : Spot) (a : Deed) → Fine (suc v) (Free t) → Goes t a n → Is (does_it a no_memory_yet) → ⊥
idle v t n a f g d = elim v as (λ w. Fine (suc w) (Free t) → ⊥) [ zero ↦ (λ h. waiting t n a h g d) | suc w ↦ (λ h. over t n a h g) ] f where
  waiting : (t n : Spot) (a : Deed) → ◌≡◌ {A = Stand Spot Two} (Free t) (Free Waiting) → Goes t a n → Is (does_it a no_memory_yet) → ⊥
  waiting _ _ _ h goes_in d = cc
  waiting _ _ _ h reads_zero d = cc
  waiting _ _ _ h traps_there d = cc
  waiting _ _ _ h reads_one d = cc
  waiting _ _ _ h fills d = cc
  waiting _ _ _ h goes_out d = cc
  waiting _ _ _ h waits d = none_some d.0 d.1
  waiting _ _ _ h sets d = cc

  over : (t n : Spot) (a : Deed) → ◌≡◌ {A = Stand Spot Two} (Free t) (Free Ended) → Goes t a n → ⊥
  over _ _ _ h goes_in = cc
  over _ _ _ h reads_zero = cc
  over _ _ _ h traps_there = cc
  over _ _ _ h reads_one = cc
  over _ _ _ h fills = cc
  over _ _ _ h goes_out = cc
  over _ _ _ h waits = cc
  over _ _ _ h sets = cc

not_open : (u : ℕ) (x : Stand Spot Two) → Fine (suc u) x → InLoop x → ⊥
not_open zero x f o = let z : InLoop (Free Waiting) = rw f at o in z
not_open (suc u) x f o = let z : InLoop (Free Ended) = rw f at o in z

never_acts : (h : List (ℕ × Deed)) (s : ℕ → Stand Spot Two) (m : Two) → Source program h s m → (u v : ℕ) (t n : Spot) (a : Deed) → u ≢ v → InLoop (s u) → s v ≡ Free t → Goes t a n → Is (does_it a m) → ⊥
never_acts h s m src zero zero t n a ne inside is g d = ne refl
never_acts h s m src (suc u) v t n a ne inside is g d = not_open u (s (suc u)) ((kept src).1 (suc u)) inside
never_acts h s m src zero (suc v) t n a ne inside is g d =
    let f : Fine (suc v) (Free t) = subst (λ z. Fine (suc v) z) is ((kept src).1 (suc v)) in
    idle v t n a f g (subst (λ z. Is (does_it a z)) (kept src).0 d)

-- and no action of one thread conflicts with another's open loop in a source run
pub quiet_of_actions : QuietOfActions
quiet_of_actions = record { next = λ h s m src u v t n a c ne inside is g d o. absurd (never_acts h s m src u v t n a ne inside is g d) }
