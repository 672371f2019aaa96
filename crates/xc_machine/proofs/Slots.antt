-- Slots, as streams come and go on.
use Rattle.std.proofs.Common.{◌≡◌, ℕ, suc, ◌+◌, ◌<◌, inl, inr, List, map, length, get_or, Option, Some, None, refl, sym, ap, ◌∙◌, subst, arith}
use Rattle.std.specs.Prelude.{IsSome, slice_set}
use Rattle.xc_meaning_world.specs.World.{World}
use Rattle.std.proofs.lemmas.Bool.{cases_lt}
use Rattle.std.proofs.lemmas.List.{map-set}
use Rattle.std.proofs.lemmas.Option.{slice_get_read, slice_get_past}
use Rattle.xc_isa.specs.Effects.{Regs}
use Rattle.xc_isa.specs.Machine.{Slot, Live, State, After, At, free_slot, starts, begun}
use Rattle.xc_machine_slots.specs.declared.stream.Stream.{Stream}
use Rattle.xc_machine_slots.specs.declared.seat.Seat.{Seat}
use Rattle.xc_machine_slots.specs.declared.seat.Seat.TheVariants.{Absent, Free, Taken}
use Rattle.xc_machine_slots.specs.Registers.{regs_of}
use Rattle.xc_machine_slots.specs.Registers.{answered}
use Rattle.xc_machine_slots.specs.Seats.{slot_of}
use Rattle.xc_machine.specs.InnerShows.{stream_of, stream_in, regs_at}

-- a slot with a stream is there
pub within : (xs : List Seat) (s : ℕ) → IsSome (stream_in xs s) → s < length xs
within xs s h = elim (cases_lt s (length xs)) [
  | inl lt ↦ lt
  | inr le ↦ absurd (let none : stream_in xs s ≡ None = ap stream_of (slice_get_past xs s le) in let some = subst IsSome none h in cc)
]

-- the stream in a slot
pub found : (xs : List Seat) (s : ℕ) (o : Seat) → s < length xs → o ≡ get_or xs s o → stream_in xs s ≡ stream_of (Some o)
found xs s o lt e = ap stream_of (slice_get_read xs (length xs) s o refl lt e)

-- a stream is there
pub taken : (o : Seat) → IsSome (stream_of (Some o)) → (t : Stream) × (o ≡ Taken t)
taken Absent h = absurd cc
taken Free h = absurd cc
taken (Taken t) h = (t, refl)

-- something is put into a slot
pub slots_put : (xs : List Seat) (s : ℕ) (o : Seat) (x : Slot) → slot_of o ≡ x → map slot_of (slice_set xs s o) ≡ slice_set (map slot_of xs) s x
slots_put xs s o x e = map-set slot_of xs s o ∙ ap (slice_set (map slot_of xs) s) e

-- a stream goes on
pub gone_on : (xs : List Seat) (s at : ℕ) (to : Option ℕ) (word : ℕ) (old new : Stream) → stream_in xs s ≡ Some old → new.at ≡ at → regs_of new.regs ≡ answered (regs_of old.regs) to word
    → map slot_of (slice_set xs s (Taken new)) ≡ slice_set (map slot_of xs) s (Live at (answered (regs_at (stream_in xs s)) to word))
gone_on xs s at to word old new here pc regs =
    slots_put xs s (Taken new) (Live at (answered (regs_at (stream_in xs s)) to word))
    (ap (λ p. Live p (regs_of new.regs)) pc ∙ ap (Live at) (regs ∙ ap (λ o. answered (regs_at o) to word) (sym here)))

-- a stream starts in the free slot
pub started : (slots : List Slot) (new : State) (f s start word at n : ℕ) (r : ℕ → Regs) (w : World) → free_slot slots ≡ Some f → new ≡ record { slots = slice_set slots s (Live (at + 1) (r 1)); world = w; last = n }
    → starts (free_slot slots) start word (suc at) r s slots w n ≡ At (record new { slots = slice_set new.slots f (begun start word) })
started slots new f s start word at n r w there e =
    let next : suc at ≡ at + 1 = omega arith in
    let put_begun : State → After = λ st. At (record st { slots = slice_set st.slots f (begun start word) }) in
    ap (λ o. starts o start word (suc at) r s slots w n) there
    ∙ ap (λ p. put_begun (record { slots = slice_set slots s (Live p (r 1)); world = w; last = n })) next
    ∙ ap put_begun (sym e)

-- there is none
pub not_started : (slots : List Slot) (new : State) (s start word at n : ℕ) (r : ℕ → Regs) (w : World) → free_slot slots ≡ None → new ≡ record { slots = slice_set slots s (Live (at + 1) (r 0)); world = w; last = n }
    → starts (free_slot slots) start word (suc at) r s slots w n ≡ At new
not_started slots new s start word at n r w none e =
    let next : suc at ≡ at + 1 = omega arith in
    ap (λ o. starts o start word (suc at) r s slots w n) none
    ∙ ap (λ p. At (record { slots = slice_set slots s (Live p (r 0)); world = w; last = n })) next
    ∙ ap At (sym e)
