-- What a step asks for is within the limits where the state that it leads to is.
use Rattle.std.proofs.Common.{◌≡◌, ℕ, zero, suc, ◌+◌, ◌-◌, ◌*◌, ◌^◌, ◌≤◌, Bool, true, false, cond, List, ◌++◌, length, Option, Some, None, refl, ap, ◌∙◌, arith, inl, inr, length-append}
use Rattle.std.proofs.lemmas.List.{length-replicate}
use Rattle.std.specs.Prelude.{◌⊎◌, nat_lt, slice_get, slice_set, replicate}
use Rattle.xc_word.specs.Cells.{fresh}
use Rattle.xc_meaning_world.specs.World.{World, Touch, Reach, New, Free, Request, On, Print, Begin, Stop, Tick, put}
use Rattle.xc_isa.specs.declared.code.Code.{Code}
use Rattle.xc_isa.specs.Effects.{Regs, Effect, Goes, Asks, Faults, Quits, effect}
use Rattle.xc_isa.specs.Machine.{Slot, Absent, Empty, Live, State, After, At, Spent, asks, takes, in_slot, step, live_words}
use Rattle.xc_machine.specs.Limits.{cells_of_request, bytes_of_request, cells_asked, bytes_asked, cells_in, bytes_in}
use Rattle.xc_machine.proofs.WordCounts.{words_above}

-- nothing is asked for, or no number is left, or the step is made and there is so much more
abbrev Gains : (State → ℕ) → ℕ → ℕ → After → Type 0
Gains of before asked a = (asked ≡ 0) ⊎ ((a ≡ Spent) ⊎ ((new : State) × (a ≡ At new) × (of new ≡ before + asked)))

-- so what is asked for is within a limit on what there is
gains_fit : (of : State → ℕ) (before asked most : ℕ) (a : After) → before ≤ most → (a ≡ Spent → ⊥) → ((new : State) → a ≡ At new → of new ≤ most) → Gains of before asked a → before + asked ≤ most
gains_fit of before asked most a le spent within (inl none) = omega (arith, none, le)
gains_fit of before asked most a le spent within (inr (inl e)) = absurd (spent e)
gains_fit of before asked most a le spent within (inr (inr h)) = omega (arith, h.2, within h.0 h.1)

-- a step that is made where a number is left
numbered_gains : (of : State → ℕ) (before asked : ℕ) (new : State) (b : Bool) → of new ≡ before + asked → Gains of before asked (cond b (At new) Spent)
numbered_gains of before asked new true e = inr (inr (new, refl, e))
numbered_gains of before asked new false e = inr (inl refl)

abbrev printed : State → ℕ
printed st = length st.world.out

-- ---- words

touch_gains_words : (x : Touch) (pc : ℕ) (r : ℕ → Regs) (s : ℕ) (slots : List Slot) (w : World) (last : ℕ)
    → Gains live_words (live_words (record { slots = slots; world = w; last = last })) (cells_of_request (On x)) (asks (On x) pc r s slots w last)
touch_gains_words (Reach act) pc r s slots w last = inl refl
touch_gains_words (Free g) pc r s slots w last = inl refl
touch_gains_words (New zero) pc r s slots w last = inl refl
touch_gains_words (New (suc k)) pc r s slots w last =
    let cells = replicate (suc k) fresh in
    let st : State = record { slots = slots; world = w; last = last } in
    let new : State = record { slots = slice_set slots s (Live pc (r (suc last * 2 ^ 32))); world = record { segs = put w.segs (suc last) cells; out = w.out }; last = suc last } in
    let gained : live_words new ≡ live_words st + suc k = words_above w.segs last cells ∙ ap (λ n. live_words st + n) (length-replicate (suc k) fresh) in
    numbered_gains live_words (live_words st) (suc k) new (nat_lt (suc last) (2 ^ 32 - 1)) gained

ask_gains_words : (q : Request) (pc : ℕ) (r : ℕ → Regs) (s : ℕ) (slots : List Slot) (w : World) (last : ℕ)
    → Gains live_words (live_words (record { slots = slots; world = w; last = last })) (cells_of_request q) (asks q pc r s slots w last)
ask_gains_words (On x) pc r s slots w last = touch_gains_words x pc r s slots w last
ask_gains_words (Print bytes) pc r s slots w last = inl refl
ask_gains_words (Begin at arg) pc r s slots w last = inl refl
ask_gains_words Stop pc r s slots w last = inl refl
ask_gains_words Tick pc r s slots w last = inl refl

-- ---- output

ask_gains_output : (q : Request) (pc : ℕ) (r : ℕ → Regs) (s : ℕ) (slots : List Slot) (w : World) (last : ℕ)
    → Gains printed (length w.out) (length (bytes_of_request q)) (asks q pc r s slots w last)
ask_gains_output (On x) pc r s slots w last = inl refl
ask_gains_output (Print bytes) pc r s slots w last =
    let new : State = record { slots = slice_set slots s (Live pc (r 0)); world = record { segs = w.segs; out = w.out ++ bytes }; last = last } in
    numbered_gains printed (length w.out) (length bytes) new (nat_lt last (2 ^ 32 - 1)) (length-append w.out bytes)
ask_gains_output (Begin at arg) pc r s slots w last = inl refl
ask_gains_output Stop pc r s slots w last = inl refl
ask_gains_output Tick pc r s slots w last = inl refl

-- ---- steps

takes_gains_words : (e : Effect) (s : ℕ) (slots : List Slot) (w : World) (last : ℕ)
    → Gains live_words (live_words (record { slots = slots; world = w; last = last })) (cells_asked e) (takes e s slots w last)
takes_gains_words (Goes pc r) s slots w last = inl refl
takes_gains_words (Asks q pc r) s slots w last = ask_gains_words q pc r s slots w last
takes_gains_words (Faults kind) s slots w last = inl refl
takes_gains_words Quits s slots w last = inl refl

takes_gains_output : (e : Effect) (s : ℕ) (slots : List Slot) (w : World) (last : ℕ) → Gains printed (length w.out) (length (bytes_asked e)) (takes e s slots w last)
takes_gains_output (Goes pc r) s slots w last = inl refl
takes_gains_output (Asks q pc r) s slots w last = ask_gains_output q pc r s slots w last
takes_gains_output (Faults kind) s slots w last = inl refl
takes_gains_output Quits s slots w last = inl refl

slot_gains_words : (code : Code) (x : Option Slot) (s : ℕ) (slots : List Slot) (w : World) (last : ℕ)
    → Gains live_words (live_words (record { slots = slots; world = w; last = last })) (cells_in code x) (in_slot code x s slots w last)
slot_gains_words code None s slots w last = inl refl
slot_gains_words code (Some Absent) s slots w last = inl refl
slot_gains_words code (Some Empty) s slots w last = inl refl
slot_gains_words code (Some (Live pc r)) s slots w last = takes_gains_words (effect code.formats (slice_get code.instrs pc) pc r) s slots w last

slot_gains_output : (code : Code) (x : Option Slot) (s : ℕ) (slots : List Slot) (w : World) (last : ℕ) → Gains printed (length w.out) (length (bytes_in code x)) (in_slot code x s slots w last)
slot_gains_output code None s slots w last = inl refl
slot_gains_output code (Some Absent) s slots w last = inl refl
slot_gains_output code (Some Empty) s slots w last = inl refl
slot_gains_output code (Some (Live pc r)) s slots w last = takes_gains_output (effect code.formats (slice_get code.instrs pc) pc r) s slots w last

pub words_fit : (code : Code) (s : ℕ) (st : State) (most : ℕ) → live_words st ≤ most → (step code s st ≡ Spent → ⊥) → ((new : State) → step code s st ≡ At new → live_words new ≤ most) → live_words st + cells_in code (slice_get st.slots s) ≤ most
words_fit code s st most le spent within =
    gains_fit live_words (live_words st) (cells_in code (slice_get st.slots s)) most (step code s st) le spent within (slot_gains_words code (slice_get st.slots s) s st.slots st.world st.last)

pub output_fits : (code : Code) (s : ℕ) (st : State) (most : ℕ) → length st.world.out ≤ most → (step code s st ≡ Spent → ⊥) → ((new : State) → step code s st ≡ At new → length new.world.out ≤ most) → length st.world.out + length (bytes_in code (slice_get st.slots s)) ≤ most
output_fits code s st most le spent within =
    gains_fit printed (length st.world.out) (length (bytes_in code (slice_get st.slots s))) most (step code s st) le spent within (slot_gains_output code (slice_get st.slots s) s st.slots st.world st.last)
