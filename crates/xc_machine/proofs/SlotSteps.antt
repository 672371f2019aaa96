-- The step of the stream in a slot.
use Rattle.std.proofs.Common.{◌≡◌, ℕ, suc, List, map, Option, Some, None, refl, sym, ap, ◌∙◌, subst}
use Rattle.std.specs.Prelude.{slice_get}
use Rattle.std.specs.Option.{option_map}
use Rattle.std.proofs.lemmas.Option.{slice_get-map}
use Rattle.xc_word.specs.declared.memory.Kind.TheVariants.{Purge, Add}
use Rattle.xc_isa.specs.declared.code.Code.{Code}
use Rattle.xc_isa.specs.declared.instr.Instr.{Instr}
use Rattle.xc_isa.specs.declared.instr.Instr.TheVariants as instr
use Rattle.xc_isa.specs.Effects.{Regs, effect, reaches, read, load_kind, store_kind}
use Rattle.xc_isa.specs.Machine.{Live, State, Waits, in_slot, step}
use Rattle.xc_machine_slots.specs.declared.stream.Stream.{Stream}
use Rattle.xc_machine_slots.specs.declared.seat.Seat.{Seat}
use Rattle.xc_machine_slots.specs.declared.seat.Seat.TheVariants as seat
use Rattle.xc_machine_slots.specs.declared.seat.Seat.TheVariants.{Free, Taken}
use Rattle.xc_machine.specs.declared.target.Target.{Target}
use Rattle.xc_machine.specs.declared.machine.Machine.{Machine}
use Rattle.xc_machine.specs.declared.stepped.Stepped.{Stepped}
use Rattle.xc_machine_slots.specs.Registers.{regs_of}
use Rattle.xc_machine_slots.specs.Registers.{answered}
use Rattle.xc_machine_slots.specs.Seats.{slot_of}
use Rattle.xc_machine.specs.InnerShows.{stream_of, stream_in, regs_at}
use Rattle.xc_machine.specs.Targets.{target_of}
use Rattle.xc_machine.specs.Limits.{Does, Steps, cells_in, bytes_in}
use Rattle.xc_machine.specs.InnerLimits.{Makes}
use Rattle.xc_machine.specs.Machines.{state_of, code_of, limits_of}

-- what an instruction that makes an access does
pub target_effect : (formats : List (List ℕ)) (i : Instr) (pc : ℕ) (r : Regs) (t : Target) → target_of r i ≡ Some t → reaches t.kind t.pointer t.off t.value (suc pc) (answered r t.to) ≡ effect formats (Some i) pc r
target_effect formats (instr.Load kind d a n) pc r t e =
    let given : Target = record { kind = load_kind kind; pointer = read r a; off = n; value = 0; to = Some d } in
    let same : given ≡ t = cc in
    ap (λ (x : Target). reaches x.kind x.pointer x.off x.value (suc pc) (answered r x.to)) (sym same)
target_effect formats (instr.Store kind b a n) pc r t e =
    let given : Target = record { kind = store_kind kind; pointer = read r a; off = n; value = read r b; to = None } in
    let same : given ≡ t = cc in
    ap (λ (x : Target). reaches x.kind x.pointer x.off x.value (suc pc) (answered r x.to)) (sym same)
target_effect formats (instr.Purge a n) pc r t e =
    let given : Target = record { kind = Purge; pointer = read r a; off = n; value = 0; to = None } in
    let same : given ≡ t = cc in
    ap (λ (x : Target). reaches x.kind x.pointer x.off x.value (suc pc) (answered r x.to)) (sym same)
target_effect formats (instr.Fadd d a n b) pc r t e =
    let given : Target = record { kind = Add; pointer = read r a; off = n; value = read r b; to = Some d } in
    let same : given ≡ t = cc in
    ap (λ (x : Target). reaches x.kind x.pointer x.off x.value (suc pc) (answered r x.to)) (sym same)
target_effect formats _ pc r t e = absurd cc

there : (o : Option Seat) (t : Stream) → stream_of o ≡ Some t → o ≡ Some (Taken t)
there None t e = absurd cc
there (Some seat.Absent) t e = absurd cc
there (Some Free) t e = absurd cc
there (Some (Taken u)) t e = let same : u ≡ t = cc in ap (λ x. Some (Taken x)) same

-- the slot of a stream
pub slot_live : (xs : List Seat) (s : ℕ) (t : Stream) → stream_in xs s ≡ Some t → slice_get (map slot_of xs) s ≡ Some (Live t.at (regs_of t.regs))
slot_live xs s t e = slice_get-map slot_of xs s ∙ ap (option_map slot_of) (there (slice_get xs s) t e)

-- a slot where no stream is
no_slot : (code : Code) (o : Option Seat) (s : ℕ) (st : State) → stream_of o ≡ None → in_slot code (option_map slot_of o) s st.slots st.world st.last ≡ Waits
no_slot code None s st e = refl
no_slot code (Some seat.Absent) s st e = refl
no_slot code (Some Free) s st e = refl
no_slot code (Some (Taken t)) s st e = absurd cc

pub step_none : (m : Machine) (s : ℕ) → stream_in m.seats.items s ≡ None → step (code_of m) s (state_of m) ≡ Waits
step_none m s e = ap (λ o. in_slot (code_of m) o s (state_of m).slots (state_of m).world (state_of m).last) (slice_get-map slot_of m.seats.items s) ∙ no_slot (code_of m) (slice_get m.seats.items s) s (state_of m) e

pub step_live : (m : Machine) (s : ℕ) (t : Stream) (result : Stepped) (new : State) → stream_in m.seats.items s ≡ Some t
    → Makes (limits_of m) result (state_of m) new s (effect (code_of m).formats (slice_get (code_of m).instrs t.at) t.at (regs_at (stream_in m.seats.items s)))
    → Steps (code_of m) (limits_of m) s result (state_of m) new
step_live m s t result new e h =
    let st = state_of m in
    let code = code_of m in
    subst (λ o. Does (limits_of m) result st new (in_slot code o s st.slots st.world st.last) (cells_in code o) (bytes_in code o)) (sym (slot_live m.seats.items s t e))
    (subst (λ o. Makes (limits_of m) result st new s (effect code.formats (slice_get code.instrs t.at) t.at (regs_at o))) e h)

-- the stream that is at a position
pub stream_at : (o : Option Stream) (at : ℕ) → option_map (λ t. t.at) o ≡ Some at → (t : Stream) × (o ≡ Some t) × (t.at ≡ at)
stream_at None at e = absurd cc
stream_at (Some t) at e = (t, refl, cc)

-- a step by the instruction at the stream's position; none: there is none
pub step_at : (m : Machine) (s at : ℕ) (i : Option Instr) (result : Stepped) (new : State) → option_map (λ t. t.at) (stream_in m.seats.items s) ≡ Some at → slice_get (code_of m).instrs at ≡ i
    → Makes (limits_of m) result (state_of m) new s (effect (code_of m).formats i at (regs_at (stream_in m.seats.items s)))
    → Steps (code_of m) (limits_of m) s result (state_of m) new
step_at m s at i result new e f h =
    let t = stream_at (stream_in m.seats.items s) at e in
    let regs = regs_at (stream_in m.seats.items s) in
    let code = code_of m in
    step_live m s t.0 result new t.1
    (subst (λ p. Makes (limits_of m) result (state_of m) new s (effect code.formats (slice_get code.instrs p) p regs)) (sym t.2)
    (subst (λ o. Makes (limits_of m) result (state_of m) new s (effect code.formats o at regs)) (sym f) h))
