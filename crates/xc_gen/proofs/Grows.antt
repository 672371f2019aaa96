-- The output of a machine only grows.
use Rattle.std.proofs.Common.{◌≡◌, ℕ, zero, suc, ◌-◌, ◌^◌, ◌≤◌, Bool, true, false, cond, List, [], ◌++◌, length, Option, Some, None, ap, subst, arith, length-append}
use Rattle.std.specs.Prelude.{nat_lt, slice_get}
use Rattle.xc_meaning_world.specs.World.{Segs, World, Request, On, Print, Begin, Stop, Tick, Reply, Got, Dead, touched, with_out}
use Rattle.xc_isa.specs.declared.code.Code.{Code}
use Rattle.xc_isa.specs.Effects.{Regs, Effect, Goes, Asks, Faults, Quits, effect}
use Rattle.xc_isa.specs.Machine.{Slot, Absent, Empty, Live, State, After, At, Trap, Waits, Spent, last_after, with_slot, served, free_slot, starts, asks, takes, in_slot, step}
use Rattle.xc_isa.proofs.Follows.{Conf, state_of}
use Rattle.xc_gen.proofs.Ways.{Way}

-- where a step is made, no less is printed than before
abbrev Grows : ℕ → After → Type 0
Grows n (At st) = n ≤ length st.world.out
Grows n (Trap kind) = Unit {0}
Grows n Waits = Unit {0}
Grows n Spent = Unit {0}

numbered_grows : (n : ℕ) (a : After) (b : Bool) → Grows n a → Grows n (cond b a Spent)
numbered_grows n a true h = h
numbered_grows n a false h = tt

served_grows : (n : ℕ) (q : Request) (v : ℕ) (w : World) (pc : ℕ) (r : ℕ → Regs) (s : ℕ) (slots : List Slot) (last : ℕ) → n ≤ length w.out → Grows n (served q (Some (Got v, w)) pc r s slots last)
served_grows n q v w pc r s slots last h = numbered_grows n (with_slot slots s (Live pc (r v)) w (last_after q last)) (nat_lt (last_after q last) (2 ^ 32 - 1)) h

touched_grows : (o : Option (Reply × Segs)) (q : Request) (out : List ℕ) (pc : ℕ) (r : ℕ → Regs) (s : ℕ) (slots : List Slot) (last : ℕ) → Grows (length out) (served q (with_out o out) pc r s slots last)
touched_grows None q out pc r s slots last = tt
touched_grows (Some (Dead, m)) q out pc r s slots last = tt
touched_grows (Some (Got v, m)) q out pc r s slots last = served_grows (length out) q v (record { segs = m; out = out }) pc r s slots last (omega arith)

starts_grows : (f : Option ℕ) (at arg pc : ℕ) (r : ℕ → Regs) (s : ℕ) (slots : List Slot) (w : World) (last : ℕ) → Grows (length w.out) (starts f at arg pc r s slots w last)
starts_grows None at arg pc r s slots w last = omega arith
starts_grows (Some f) at arg pc r s slots w last = omega arith

asks_grows : (q : Request) (pc : ℕ) (r : ℕ → Regs) (s : ℕ) (slots : List Slot) (w : World) (last : ℕ) → Grows (length w.out) (asks q pc r s slots w last)
asks_grows (Begin at arg) pc r s slots w last = starts_grows (free_slot slots) at arg pc r s slots w last
asks_grows (On x) pc r s slots w last = touched_grows (touched x (suc last) w.segs) (On x) w.out pc r s slots last
asks_grows (Print bytes) pc r s slots w last =
    served_grows (length w.out) (Print bytes) 0 (record { segs = w.segs; out = w.out ++ bytes }) pc r s slots last (omega (arith, length-append w.out bytes))
asks_grows Stop pc r s slots w last = tt
asks_grows Tick pc r s slots w last = served_grows (length w.out) Tick 0 w pc r s slots last (omega arith)

takes_grows : (e : Effect) (s : ℕ) (slots : List Slot) (w : World) (last : ℕ) → Grows (length w.out) (takes e s slots w last)
takes_grows (Goes pc r) s slots w last = omega arith
takes_grows (Asks q pc r) s slots w last = asks_grows q pc r s slots w last
takes_grows (Faults kind) s slots w last = tt
takes_grows Quits s slots w last = omega arith

slot_grows : (code : Code) (x : Option Slot) (s : ℕ) (slots : List Slot) (w : World) (last : ℕ) → Grows (length w.out) (in_slot code x s slots w last)
slot_grows code None s slots w last = tt
slot_grows code (Some Absent) s slots w last = tt
slot_grows code (Some Empty) s slots w last = tt
slot_grows code (Some (Live pc r)) s slots w last = takes_grows (effect code.formats (slice_get code.instrs pc) pc r) s slots w last

step_grows : (code : Code) (s : ℕ) (st new : State) → step code s st ≡ At new → length st.world.out ≤ length new.world.out
step_grows code s st new e = subst (Grows (length st.world.out)) e (slot_grows code (slice_get st.slots s) s st.slots st.world st.last)

pub way_grows : (code : Code) (P : Conf → Type 0) (k : ℕ) (c d : Conf) → Way code P k c d → length c.world.out ≤ length d.world.out
way_grows code P zero c d f = let same : length c.world.out ≡ length d.world.out = ap (λ (x : Conf). length x.world.out) f in omega (arith, same)
way_grows code P (suc k) c d f = omega (arith, step_grows code 0 (state_of [] c) (state_of [] f.1) (f.2 []), way_grows code P k f.1 d f.3)
