-- The slot in which a stream starts, processor by processor.
use Rattle.std.proofs.Common.{◌≡◌, ℕ, zero, suc, ◌+◌, ◌-◌, ◌*◌, ◌/◌, ◌<◌, ◌≤◌, List, [], ◌∷◌, ◌++◌, length, get_or, take, drop, map, min, Bool, true, false, cond, Option, Some, None, refl, sym, ap, ◌∙◌, subst, arith, inl, inr}
use Rattle.std.specs.Prelude.{slice_get, position, nat_lt, IfSome, replicate}
use Rattle.std.specs.List.{position_from}
use Rattle.std.specs.Option.{option_map}
use Rattle.std.proofs.lemmas.Bool.{cases_lt, ltb-true, ltb-false}
use Rattle.std.proofs.lemmas.Iterator.Adapters.{position_from-zero}
use Rattle.std.proofs.lemmas.List.{length-map, length-take, take-map, drop-map, take_min, map_more, map-append}
use Rattle.std.proofs.lemmas.Option.{slice_get_within}
use Rattle.xc_isa.specs.Machine.{Slot, Absent, Empty, Live, slots_each, live_in, of_processor, live_beside, free_slot, free_slots}
use Rattle.xc_isa.proofs.Slots.{free_slot_from_first, no_free_slot, free_slots_more, free_slots_length}
use Rattle.xc_machine_slots.specs.declared.seat.Seat.{Seat}
use Rattle.xc_machine_slots.specs.declared.seat.Seat.TheVariants as seat
use Rattle.xc_machine_slots.specs.declared.room.Room.{Room}
use Rattle.xc_machine_slots.specs.Seats.{slot_of}
use Rattle.xc_machine_slots.specs.Seats.{is_free, is_idle}
use Rattle.xc_machine_slots.specs.Picks.{less_busy, IsRoomOf, IsBestOf}

abbrev IsEmptyAt : List Slot → ℕ → Type 0
IsEmptyAt slots s = slice_get slots s ≡ Some Empty

-- ---- the lowest free slot of a list

abbrev lowest_in : List Slot → Option ℕ
lowest_in [] = None
lowest_in (Absent ∷ xs) = option_map suc (lowest_in xs)
lowest_in (Empty ∷ xs) = Some 0
lowest_in (Live pc r ∷ xs) = option_map suc (lowest_in xs)

later : (o : Option ℕ) (i : ℕ) → option_map (λ k. k + (i + 1)) o ≡ option_map (λ k. k + i) (option_map suc o)
later None i = refl
later (Some k) i = let same : k + (i + 1) ≡ suc k + i = omega arith in ap Some same

position_at : (i : ℕ) (xs : List Seat) → position_from (λ o. is_free o) i xs ≡ option_map (λ k. k + i) (lowest_in (map slot_of xs))
position_at i [] = refl
position_at i (seat.Absent ∷ xs) = position_at (i + 1) xs ∙ later (lowest_in (map slot_of xs)) i
position_at i (seat.Free ∷ xs) = let same : i ≡ 0 + i = omega arith in ap Some same
position_at i (seat.Taken t ∷ xs) = position_at (i + 1) xs ∙ later (lowest_in (map slot_of xs)) i

from_zero : (o : Option ℕ) → option_map (λ k. k + 0) o ≡ o
from_zero None = refl
from_zero (Some k) = let same : k + 0 ≡ k = omega arith in ap Some same

position_is : (xs : List Seat) → position (λ o. is_free o) xs ≡ lowest_in (map slot_of xs)
position_is xs = position_from-zero (λ o. is_free o) xs ∙ position_at 0 xs ∙ from_zero (lowest_in (map slot_of xs))

abbrev IsLowest : List Slot → Option ℕ → Type 0
IsLowest xs None = (i : ℕ) → IsEmptyAt xs i → ⊥
IsLowest xs (Some f) = IsEmptyAt xs f × ((i : ℕ) → IsEmptyAt xs i → f ≤ i)

passes : (x : Slot) (xs : List Slot) (o : Option ℕ) → (x ≡ Empty → ⊥) → IsLowest xs o → IsLowest (x ∷ xs) (option_map suc o)
passes x xs None ne h = at
  where
    at : (i : ℕ) → IsEmptyAt (x ∷ xs) i → ⊥
    at zero e = ne cc
    at (suc i) e = h i e
passes x xs (Some f) ne h = (h.0, at)
  where
    at : (i : ℕ) → IsEmptyAt (x ∷ xs) i → suc f ≤ i
    at zero e = absurd (ne cc)
    at (suc i) e = omega (arith, h.1 i e)

lowest : (xs : List Slot) → IsLowest xs (lowest_in xs)
lowest [] = λ i e. cc
lowest (Absent ∷ xs) = passes Absent xs (lowest_in xs) (λ e. cc) (lowest xs)
lowest (Empty ∷ xs) = (refl, λ i e. omega arith)
lowest (Live pc r ∷ xs) = passes (Live pc r) xs (lowest_in xs) (λ e. cc) (lowest xs)

-- ---- live streams

live_append : (xs ys : List Slot) → live_in (xs ++ ys) ≡ live_in xs + live_in ys
live_append [] ys = omega arith
live_append (Absent ∷ xs) ys = live_append xs ys
live_append (Empty ∷ xs) ys = live_append xs ys
live_append (Live pc r ∷ xs) ys = omega (arith, live_append xs ys)

live_few : (xs : List Slot) → live_in xs ≤ length xs
live_few [] = omega arith
live_few (Absent ∷ xs) = omega (arith, live_few xs)
live_few (Empty ∷ xs) = omega (arith, live_few xs)
live_few (Live pc r ∷ xs) = omega (arith, live_few xs)

-- there are no more than seats so far
pub live_below : (xs : List Seat) (i : ℕ) → i < length xs → live_in (map slot_of (take i xs)) < length xs
live_below xs i lt =
    let a = live_few (map slot_of (take i xs)) in
    let b = length-map (take i xs) slot_of in
    let k = length-take i xs in
    omega (arith, a, b, k, lt)

one_live : (o : Seat) (b : Bool) → is_idle o ≡ b → live_in (slot_of o ∷ []) ≡ cond b 0 1
one_live seat.Absent true e = refl
one_live seat.Absent false e = absurd cc
one_live seat.Free true e = refl
one_live seat.Free false e = absurd cc
one_live (seat.Taken t) true e = absurd cc
one_live (seat.Taken t) false e = refl

-- one seat more
pub live_more : (xs : List Seat) (i : ℕ) (o d : Seat) (b : Bool) → i < length xs → o ≡ get_or xs i d → is_idle o ≡ b → live_in (map slot_of (take (i + 1) xs)) ≡ live_in (map slot_of (take i xs)) + cond b 0 1
live_more xs i o d b lt is idle =
    ap live_in (map_more slot_of xs i d lt)
    ∙ live_append (map slot_of (take i xs)) (slot_of (get_or xs i d) ∷ [])
    ∙ ap (λ x. live_in (map slot_of (take i xs)) + live_in (slot_of x ∷ [])) (sym is)
    ∙ ap (λ n. live_in (map slot_of (take i xs)) + n) (one_live o b idle)

-- ---- one processor

get_take : (n i : ℕ) (xs : List Slot) → i < n → slice_get (take n xs) i ≡ slice_get xs i
get_take zero i xs lt = absurd (omega (arith, lt))
get_take (suc n) i [] lt = refl
get_take (suc n) zero (x ∷ xs) lt = refl
get_take (suc n) (suc i) (x ∷ xs) lt = get_take n i xs (omega (arith, lt))

get_drop : (n i : ℕ) (xs : List Slot) → slice_get (drop n xs) i ≡ slice_get xs (n + i)
get_drop zero i xs = let same : i ≡ 0 + i = omega arith in ap (slice_get xs) same
get_drop (suc n) i [] = refl
get_drop (suc n) i (x ∷ xs) = get_drop n i xs ∙ (let same : suc (n + i) ≡ suc n + i = omega arith in ap (slice_get (x ∷ xs)) same)

get_own : (slots : List Slot) (q i : ℕ) → i < slots_each → slice_get (of_processor q slots) i ≡ slice_get slots (slots_each * q + i)
get_own slots q i lt = get_take slots_each i (drop (slots_each * q) slots) lt ∙ get_drop (slots_each * q) i slots

own_within : (slots : List Slot) (q i : ℕ) → IsEmptyAt (of_processor q slots) i → i < slots_each
own_within slots q i e =
    let a = slice_get_within (of_processor q slots) i Empty e in
    let b = length-take slots_each (drop (slots_each * q) slots) in
    omega (arith, a, b)

-- what the code has looked at is what the processor has
own_is : (xs : List Seat) (first q : ℕ) → first ≡ slots_each * q → map slot_of (take (min (length (drop first xs)) slots_each) (drop first xs)) ≡ of_processor q (map slot_of xs)
own_is xs first q e =
    let rest = drop first xs in
    let same : min (length rest) slots_each ≡ min slots_each (length rest) = omega arith in
    ap (λ n. map slot_of (take n rest)) same
    ∙ ap (map slot_of) (take_min slots_each rest)
    ∙ sym (take-map slot_of slots_each rest)
    ∙ ap (take slots_each) (sym (drop-map slot_of first xs))
    ∙ ap (λ n. take slots_each (drop n (map slot_of xs))) e

pub no_room : (xs own : List Seat) (first q : ℕ) → first ≡ slots_each * q → own ≡ take (min (length (drop first xs)) slots_each) (drop first xs) → position (λ o. is_free o) own ≡ None
    → IsRoomOf (map slot_of xs) q None
no_room xs own first q e is none =
    let slots = map slot_of xs in
    let own_slots : map slot_of own ≡ of_processor q slots = ap (map slot_of) is ∙ own_is xs first q e in
    let at : lowest_in (of_processor q slots) ≡ None = ap lowest_in (sym own_slots) ∙ sym (position_is own) ∙ none in
    let h = subst (IsLowest (of_processor q slots)) at (lowest (of_processor q slots)) in
    λ i lt free. h i (get_own slots q i lt ∙ free)

pub has_room : (xs own : List Seat) (first q f live : ℕ) → first ≡ slots_each * q → own ≡ take (min (length (drop first xs)) slots_each) (drop first xs) → position (λ o. is_free o) own ≡ Some f → live ≡ live_in (map slot_of own)
    → IsRoomOf (map slot_of xs) q (Some (record { slot = first + f; live = live }))
has_room xs own first q f live e is some counted =
    let slots = map slot_of xs in
    let own_slots : map slot_of own ≡ of_processor q slots = ap (map slot_of) is ∙ own_is xs first q e in
    let at : lowest_in (of_processor q slots) ≡ Some f = ap lowest_in (sym own_slots) ∙ sym (position_is own) ∙ some in
    let h = subst (IsLowest (of_processor q slots)) at (lowest (of_processor q slots)) in
    let lt = own_within slots q f h.0 in
    let place : first + f ≡ slots_each * q + f = omega (arith, e) in (
      ap (slice_get slots) place ∙ sym (get_own slots q f lt) ∙ h.0,
      f,
      lt,
      place,
      counted ∙ ap live_in own_slots,
      λ i less free. let k = h.1 i (get_own slots q i less ∙ free) in omega (arith, place, k),
    )

-- ---- all processors

beside_is : (slots : List Slot) (q i : ℕ) → i < slots_each → live_beside slots (slots_each * q + i) ≡ live_in (of_processor q slots)
beside_is slots q i lt = let same : (slots_each * q + i) / slots_each ≡ q = omega (arith, lt) in ap (λ p. live_in (of_processor p slots)) same

-- a number is one of an earlier processor, or of the last
split : (q s : ℕ) → s < slots_each * (q + 1) → (s < slots_each * q → ⊥) → (i : ℕ) × (i < slots_each) × (s ≡ slots_each * q + i)
split q s lt past = elim (cases_lt s (slots_each * q)) [
  | inl less ↦ absurd (past less)
  | inr le ↦ (s - slots_each * q, omega (arith, lt, le), omega (arith, le))
]

pub better : (slots : List Slot) (q : ℕ) (best room : Option Room) → IsBestOf slots (slots_each * q) best → IsRoomOf slots q room → IsBestOf slots (slots_each * (q + 1)) (less_busy best room)
better slots q None None b r = λ s lt free. elim (cases_lt s (slots_each * q)) [
  | inl less ↦ b s less free
  | inr le ↦ let k = split q s lt (λ less. omega (arith, le, less)) in r k.0 k.1 (ap (slice_get slots) (sym k.2) ∙ free)
]
better slots q None (Some m) b r = (
  r.0,
  omega (arith, r.2, r.3),
  r.4 ∙ sym (beside_is slots q r.1 r.2) ∙ ap (live_beside slots) (sym r.3),
  λ s lt free. elim (cases_lt s (slots_each * q)) [
    | inl less ↦ absurd (b s less free)
    | inr le ↦
        let k = split q s lt (λ less. omega (arith, le, less)) in
        let same : live_beside slots s ≡ m.live = ap (live_beside slots) k.2 ∙ beside_is slots q k.0 k.1 ∙ sym r.4 in
        (omega (arith, same), λ _. let least = r.5 k.0 k.1 (ap (slice_get slots) (sym k.2) ∙ free) in omega (arith, least, k.2))
  ],
)
better slots q (Some n) None b r = (
  b.0,
  omega (arith, b.1),
  b.2,
  λ s lt free. elim (cases_lt s (slots_each * q)) [
    | inl less ↦ b.3 s less free
    | inr le ↦ let k = split q s lt (λ less. omega (arith, le, less)) in absurd (r k.0 k.1 (ap (slice_get slots) (sym k.2) ∙ free))
  ],
)
better slots q (Some n) (Some m) b r = at (nat_lt m.live n.live) refl
  where
    own : (s : ℕ) (i : ℕ) → i < slots_each → s ≡ slots_each * q + i → live_beside slots s ≡ m.live
    own s i lt e = ap (live_beside slots) e ∙ beside_is slots q i lt ∙ sym r.4

    at : (c : Bool) → nat_lt m.live n.live ≡ c → IsBestOf slots (slots_each * (q + 1)) (Some (cond c m n))
    at true e =
        let fewer = ltb-true m.live n.live e in (
          r.0,
          omega (arith, r.2, r.3),
          sym (own m.slot r.1 r.2 r.3),
          λ s lt free. elim (cases_lt s (slots_each * q)) [
            | inl less ↦ let k = b.3 s less free in (omega (arith, fewer, k.0), λ le. absurd (omega (arith, fewer, k.0, le)))
            | inr le ↦
                let k = split q s lt (λ less. omega (arith, le, less)) in
                let same = own s k.0 k.1 k.2 in
                (omega (arith, same), λ _. let least = r.5 k.0 k.1 (ap (slice_get slots) (sym k.2) ∙ free) in omega (arith, least, k.2))
          ],
        )
    at false e =
        let more = ltb-false m.live n.live e in (
          b.0,
          omega (arith, b.1),
          b.2,
          λ s lt free. elim (cases_lt s (slots_each * q)) [
            | inl less ↦ b.3 s less free
            | inr le ↦
                let k = split q s lt (λ less. omega (arith, le, less)) in
                let same = own s k.0 k.1 k.2 in
                (omega (arith, same, more), λ _. omega (arith, le, b.1))
          ],
        )

abbrev pub slot_in : Option Room → Option ℕ
slot_in best = option_map (λ (r : Room). r.slot) best

pub picked : (slots : List Slot) (n : ℕ) (best : Option Room) → length slots ≤ n → IsBestOf slots n best → slot_in best ≡ free_slot slots
picked slots n None le b = sym (no_free_slot slots (λ s free. b s (let lt = slice_get_within slots s Empty free in omega (arith, lt, le)) free))
picked slots n (Some r) le b =
    sym (free_slot_from_first slots r.slot b.0 (λ s free.
    let lt = slice_get_within slots s Empty free in
    let k = b.3 s (omega (arith, lt, le)) free in
    (omega (arith, k.0, b.2), λ fewer. k.1 (omega (arith, fewer, b.2)))))

pub picked_within : (xs : List Seat) (n : ℕ) (best : Option Room) → IsBestOf (map slot_of xs) n best → IfSome (slot_in best) (λ k. k < length xs)
picked_within xs n None b = tt
picked_within xs n (Some r) b =
    let lt = slice_get_within (map slot_of xs) r.slot Empty b.0 in
    let same = length-map xs slot_of in
    omega (arith, lt, same)

-- ---- the seats as code begins

free_is : (n : ℕ) → map slot_of (replicate n seat.Free) ≡ replicate n Empty
free_is zero = refl
free_is (suc n) = ap (λ xs. Empty ∷ xs) (free_is n)

absent_is : (n : ℕ) → map slot_of (replicate n seat.Absent) ≡ replicate n Absent
absent_is zero = refl
absent_is (suc n) = ap (λ xs. Absent ∷ xs) (absent_is n)

-- those of the first processor
pub first_seats : (old new : List Seat) (n : ℕ) → old ≡ [] → new ≡ old ++ replicate n seat.Free → map slot_of new ≡ free_slots 1 n
first_seats old new n none is = ap (map slot_of) is ∙ ap (λ xs. map slot_of (xs ++ replicate n seat.Free)) none ∙ free_is n

-- those of one processor more
pub more_seats : (old mid new : List Seat) (q n : ℕ) → 1 ≤ q → map slot_of old ≡ free_slots q n → mid ≡ old ++ replicate (slots_each - n) seat.Absent → new ≡ mid ++ replicate n seat.Free
    → map slot_of new ≡ free_slots (q + 1) n
more_seats old mid new zero n some before gap is = absurd (omega (arith, some))
more_seats old mid new (suc q) n some before gap is =
    let more : suc q + 1 ≡ suc (suc q) = omega arith in
    ap (map slot_of) is
    ∙ map-append slot_of mid (replicate n seat.Free)
    ∙ ap (λ xs. map slot_of xs ++ map slot_of (replicate n seat.Free)) gap
    ∙ ap (λ xs. xs ++ map slot_of (replicate n seat.Free)) (map-append slot_of old (replicate (slots_each - n) seat.Absent))
    ∙ ap (λ xs. (xs ++ map slot_of (replicate (slots_each - n) seat.Absent)) ++ map slot_of (replicate n seat.Free)) before
    ∙ ap (λ xs. (free_slots (suc q) n ++ xs) ++ map slot_of (replicate n seat.Free)) (absent_is (slots_each - n))
    ∙ ap (λ xs. (free_slots (suc q) n ++ replicate (slots_each - n) Absent) ++ xs) (free_is n)
    ∙ sym (free_slots_more q n)
    ∙ ap (λ k. free_slots k n) (sym more)

pub count_of_seats : (xs : List Seat) (q n : ℕ) → 1 ≤ q → n ≤ slots_each → map slot_of xs ≡ free_slots q n → length xs ≡ 128 * (q - 1) + n
count_of_seats xs zero n some few is = absurd (omega (arith, some))
count_of_seats xs (suc q) n some few is =
    let a = length-map xs slot_of in
    let b : length (map slot_of xs) ≡ length (free_slots (suc q) n) = ap length is in
    omega (arith, a, b, free_slots_length q n few)
