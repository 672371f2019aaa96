-- What only private functions and proofs speak of: processors that have room for a stream.
use Rattle.std.specs.Prelude.{◌≡◌, ◌<◌, ◌≤◌, ◌+◌, ◌*◌, ℕ, List, Option, Some, None, nat_lt, slice_get, if◌then◌else◌}
use Rattle.xc_isa.specs.Machine.{Slot, Empty, slots_each, live_in, of_processor, live_beside}
use Rattle.xc_machine_slots.specs.declared.room.Room.{Room}

-- the room whose processor runs fewer streams, and the former where both run as many
abbrev pub less_busy : Option Room → Option Room → Option Room
less_busy None other = other
less_busy (Some b) None = Some b
less_busy (Some b) (Some r) = Some (if nat_lt r.live b.live then r else b)

-- what a processor has: its lowest free slot, and how many streams it runs; or none of its slots is free
abbrev pub IsRoomOf : List Slot → ℕ → Option Room → Type 0
IsRoomOf slots q None = (i : ℕ) → i < slots_each → slice_get slots (slots_each * q + i) ≡ Some Empty → ⊥
IsRoomOf slots q (Some r) =
    (slice_get slots r.slot ≡ Some Empty) × (i : ℕ) × (i < slots_each) × (r.slot ≡ slots_each * q + i) × (r.live ≡ live_in (of_processor q slots))
    × ((i : ℕ) → i < slots_each → slice_get slots (slots_each * q + i) ≡ Some Empty → r.slot ≤ slots_each * q + i)

-- of the free slots below n the one in which a stream starts, and how many streams its processor runs
abbrev pub IsBestOf : List Slot → ℕ → Option Room → Type 0
IsBestOf slots n None = (s : ℕ) → s < n → slice_get slots s ≡ Some Empty → ⊥
IsBestOf slots n (Some r) =
    (slice_get slots r.slot ≡ Some Empty) × (r.slot < n) × (r.live ≡ live_beside slots r.slot)
    × ((s : ℕ) → s < n → slice_get slots s ≡ Some Empty → (r.live ≤ live_beside slots s) × (live_beside slots s ≤ r.live → r.slot ≤ s))
