-- Ready streams, and the choosers that pick one where there is one.
use Rattle.std.proofs.Common.{◌≡◌, ℕ, zero, suc, ◌+◌, ◌/◌, ◌%◌, ◌^◌, ◌<◌, Bool, true, false, cond, List, [], ◌∷◌, length, map, Option, Some, None, get_or, refl, sym, ap, ◌∙◌, subst, arith, inl, inr}
use Rattle.std.proofs.Math.Nat.{mod-lt}
use Rattle.std.proofs.lemmas.Bool.{cases_lt, le-leb}
use Rattle.std.proofs.lemmas.Option.{slice_get-get_or, slice_get_past}
use Rattle.std.specs.Prelude.{slice_get, find, nat_le}
use Rattle.std.specs.Option.{option_or}
use Rattle.std.specs.List.{range_with_len}
use Rattle.xc_sched.specs.Streams.{streams_from, lowest_from}
use Rattle.xc_sched.specs.Choices.{PicksInTurn, PicksBySeed}
use Rattle.xc_isa.specs.declared.code.Code.{Code}
use Rattle.xc_isa.specs.Machine.{State, After, At, Trap, Waits, Spent, in_slot, step, IsReady}
use Rattle.xc_machine.specs.Limits.{can_step}
use Rattle.xc_machine.specs.Runs.{ready_streams}
use Rattle.xc_machine_room.specs.Rooms.{PicksReady}

-- ---- the streams of flags

abbrev flags : (ℕ → Bool) → ℕ → ℕ → List Bool
flags f b n = map f (range_with_len b n)

-- a stream that is named has its flag
named_by : (f : ℕ → Bool) (xs : List Bool) (b i s : ℕ) (t : Bool) → f b ≡ t → ((i : ℕ) → slice_get (streams_from (suc b) xs) i ≡ Some s → f s ≡ true) → slice_get (streams_from b (t ∷ xs)) i ≡ Some s → f s ≡ true
named_by f xs b zero s true e later h = let same : b ≡ s = cc in ap f (sym same) ∙ e
named_by f xs b (suc i) s true e later h = later i h
named_by f xs b i s false e later h = later i h

named_has : (f : ℕ → Bool) (n b i s : ℕ) → slice_get (streams_from b (flags f b n)) i ≡ Some s → f s ≡ true
named_has f zero b i s h = absurd cc
named_has f (suc n) b i s h =
    let next : suc b ≡ b + 1 = omega arith in
    named_by f (flags f (b + 1) n) b i s (f b) refl (λ j k. named_has f n (b + 1) j s (subst (λ x. slice_get (streams_from x (flags f (b + 1) n)) j ≡ Some s) next k)) h

-- where a flag is set, some stream is named
some_by : (f : ℕ → Bool) (xs : List Bool) (b k : ℕ) (t : Bool) → f b ≡ t → f (b + k) ≡ true → ((j : ℕ) → k ≡ suc j → streams_from (suc b) xs ≡ [] → ⊥) → streams_from b (t ∷ xs) ≡ [] → ⊥
some_by f xs b k true e h later none = cc
some_by f xs b zero false e h later none =
    let same : b + 0 ≡ b = omega arith in
    let is : f b ≡ true = ap f (sym same) ∙ h in
    cc
some_by f xs b (suc k) false e h later none = later k refl none

some_named : (f : ℕ → Bool) (n b k : ℕ) → k < n → f (b + k) ≡ true → streams_from b (flags f b n) ≡ [] → ⊥
some_named f zero b k lt h none = absurd (omega arith)
some_named f (suc n) b k lt h none =
    let next : suc b ≡ b + 1 = omega arith in
    some_by f (flags f (b + 1) n) b k (f b) refl h
    (λ j e none.
    let same : b + k ≡ b + 1 + j = omega (arith, e) in
    some_named f n (b + 1) j (omega (arith, e, lt)) (ap f (sym same) ∙ h) (subst (λ x. streams_from x (flags f (b + 1) n) ≡ []) next none))
    none

-- ---- ready streams

steps_when : (a : After) → (a ≡ Waits → ⊥) → can_step a ≡ true
steps_when (At st) h = refl
steps_when (Trap kind) h = refl
steps_when Waits h = absurd (h refl)
steps_when Spent h = refl

never_waits : (a : After) → can_step a ≡ true → a ≡ Waits → ⊥
never_waits a h e = let is : can_step a ≡ false = ap can_step e in cc

pub ready_named : (code : Code) (st : State) (i s : ℕ) → slice_get (ready_streams code st) i ≡ Some s → IsReady code s st
ready_named code st i s h = never_waits (step code s st) (named_has (λ t. can_step (step code t st)) (length st.slots) 0 i s h)

pub some_ready : (code : Code) (st : State) (s : ℕ) → IsReady code s st → ready_streams code st ≡ [] → ⊥
some_ready code st s ready none =
    let same : s ≡ 0 + s = omega arith in
    let steps : can_step (step code (0 + s) st) ≡ true = ap (λ t. can_step (step code t st)) (sym same) ∙ steps_when (step code s st) ready in
    elim (cases_lt s (length st.slots)) [
      | inl lt ↦ some_named (λ t. can_step (step code t st)) (length st.slots) 0 s lt steps none
      | inr le ↦ ready (ap (λ x. in_slot code x s st.slots st.world st.last) (slice_get_past st.slots s le))
    ]

pub first_of : (streams : List ℕ) → (streams ≡ [] → ⊥) → (s : ℕ) × (slice_get streams 0 ≡ Some s)
first_of [] h = absurd (h refl)
first_of (s ∷ streams) h = (s, refl)

-- ---- choosers

found_by : (xs : List ℕ) (x s : ℕ) (rest : Option ℕ) (t : Bool) → (rest ≡ Some s → (i : ℕ) × (slice_get xs i ≡ Some s)) → cond t (Some x) rest ≡ Some s → (i : ℕ) × (slice_get (x ∷ xs) i ≡ Some s)
found_by xs x s rest true later e = (0, e)
found_by xs x s rest false later e = let k = later e in (suc k.0, k.1)

found_in : (f : ℕ → Bool) (xs : List ℕ) (s : ℕ) → find f xs ≡ Some s → (i : ℕ) × (slice_get xs i ≡ Some s)
found_in f [] s h = absurd cc
found_in f (x ∷ xs) s h = found_by xs x s (find f xs) (f x) (found_in f xs s) h

abbrev IsOf : List ℕ → Option ℕ → Type 0
IsOf streams answer = (s : ℕ) × (answer ≡ Some s) × (i : ℕ) × (slice_get streams i ≡ Some s)

lowest_of : (streams : List ℕ) → (streams ≡ [] → ⊥) → IsOf streams (lowest_from 0 streams)
lowest_of [] some = absurd (some refl)
lowest_of (x ∷ streams) some = (x, ap (λ b. cond b (Some x) (find (λ t. nat_le 0 t) streams)) (le-leb 0 x (omega arith)), 0, refl)

turn_of : (from : ℕ) (streams : List ℕ) → (streams ≡ [] → ⊥) → IsOf streams (option_or (lowest_from from streams) (lowest_from 0 streams))
turn_of from streams some = by (lowest_from from streams) refl
  where
    by : (o : Option ℕ) → lowest_from from streams ≡ o → IsOf streams (option_or o (lowest_from 0 streams))
    by None e = lowest_of streams some
    by (Some s) e = let k = found_in (λ t. nat_le from t) streams s e in (s, refl, k.0, k.1)

pub turns_pick_ready : PicksReady PicksInTurn
turns_pick_ready from streams answer next h some = subst (IsOf streams) (sym h.0) (turn_of from streams some)

length_some : (streams : List ℕ) → (streams ≡ [] → ⊥) → 0 < length streams
length_some [] some = absurd (some refl)
length_some (s ∷ streams) some = omega arith

pub seeds_pick_ready : PicksReady PicksBySeed
seeds_pick_ready x streams answer next h some =
    let i = next / 2 ^ 33 % length streams in
    let is = slice_get-get_or streams i 0 (mod-lt (next / 2 ^ 33) (length_some streams some)) in
    (get_or streams i 0, h.1 ∙ is, i, is)
