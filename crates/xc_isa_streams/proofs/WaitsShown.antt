-- A stream that has to wait waits for what it asks in its actions.
use Rattle.std.proofs.Common.{◌≡◌, ℕ, zero, suc, ◌-◌, ◌^◌, List, [], ◌∷◌, Option, Some, None, Bool, true, false, cond, refl, sym, ap, ◌∙◌, subst}
use Rattle.std.specs.Prelude.{nat_lt, slice_get}
use Rattle.xc_word.specs.declared.memory.Cell.{Cell}
use Rattle.xc_meaning_world.specs.World.{World, Touch, Reach, New, Free, Request, On, Print, Begin, Stop, Tick, Reply, Got, Dead, seg_of, op, put_back, touched, with_out, serve}
use Rattle.xc_meaning_world.proofs.Puts.{by_same}
use Rattle.xc_isa.specs.declared.code.Code.{Code}
use Rattle.xc_isa.specs.Effects.{Regs, Effect, Goes, Asks, Faults, Quits, effect}
use Rattle.xc_isa.specs.Machine as machine
use Rattle.xc_isa.specs.Machine.{Slot, Live, State, After, At, Trap, Waits, Spent, last_after, numbered, served, free_slot, starts, takes, in_slot, step, IsReady}
use Rattle.xc_isa_streams.specs.Class.{Class, Source, Private, Shared, in_place}
use Rattle.xc_isa_streams.specs.Parts.{Ask, Of, Side}
use Rattle.xc_meaning_world.specs.Runs.{part_of}
use Rattle.xc_isa_streams.specs.Local.{Bad, Own, asks, local}
use Rattle.xc_isa_streams.specs.Promises.{AlwaysOwn, AlwaysFair, view, parted, Stage, MustWait, Waiting}
use Rattle.xc_isa_streams.proofs.Views.{view_mine, view_not, owned_op, Mine}
use Rattle.xc_isa_streams.proofs.Steps.{Asking, thread, one, dead_next, mine_for, not_bad, other_bad, private_step}

-- ---- what a step that waits is

numbered_goes : (n : ℕ) (st : State) → numbered n (At st) ≡ Waits → ⊥
numbered_goes n st = at (nat_lt n (2 ^ 32 - 1))
  where
    at : (b : Bool) → cond b (At st) Spent ≡ Waits → ⊥
    at true e = cc
    at false e = cc

served_waits : (q : Request) (o : Option (Reply × World)) (pc : ℕ) (rf : ℕ → Regs) (s : ℕ) (slots : List Slot) (n : ℕ) → served q o pc rf s slots n ≡ Waits → o ≡ None
served_waits q None pc rf s slots n e = refl
served_waits q (Some (Dead, w)) pc rf s slots n e = cc
served_waits q (Some (Got v, w)) pc rf s slots n e = absurd (numbered_goes (last_after q n) _ e)

starts_goes : (o : Option ℕ) (at arg pc : ℕ) (rf : ℕ → Regs) (s : ℕ) (slots : List Slot) (w : World) (n : ℕ) → starts o at arg pc rf s slots w n ≡ Waits → ⊥
starts_goes None at arg pc rf s slots w n e = cc
starts_goes (Some f) at arg pc rf s slots w n e = cc

not_ready : (x : After) → ((x ≡ Waits → ⊥) → ⊥) → x ≡ Waits
not_ready (At st) h = absurd (h (λ e. cc))
not_ready (Trap kind) h = absurd (h (λ e. cc))
not_ready Waits h = refl
not_ready Spent h = absurd (h (λ e. cc))

-- only a touch waits
touch_waits : (q : Request) (pc : ℕ) (rf : ℕ → Regs) (s : ℕ) (slots : List Slot) (w : World) (n : ℕ) → machine.asks q pc rf s slots w n ≡ Waits → (x : Touch) × (q ≡ On x) × (serve (On x) (suc n) w ≡ None)
touch_waits (On x) pc rf s slots w n e = (x, refl, served_waits (On x) (serve (On x) (suc n) w) pc rf s slots n e)
touch_waits (Print bytes) pc rf s slots w n e = absurd (let bad = served_waits (Print bytes) (serve (Print bytes) (suc n) w) pc rf s slots n e in cc)
touch_waits (Begin at arg) pc rf s slots w n e = absurd (starts_goes (free_slot slots) at arg pc rf s slots w n e)
touch_waits Stop pc rf s slots w n e = absurd (let bad = served_waits Stop (serve Stop (suc n) w) pc rf s slots n e in cc)
touch_waits Tick pc rf s slots w n e = absurd (let bad = served_waits Tick (serve Tick (suc n) w) pc rf s slots n e in cc)

op_waits : (x : Touch) (num : ℕ) (w : World) → serve (On x) num w ≡ None → op x num (w.segs (seg_of x num)) ≡ None
op_waits x num w e = at (op x num (w.segs (seg_of x num))) e
  where
    at : (o : Option (Reply × List Cell)) → with_out (put_back o (seg_of x num) w.segs) w.out ≡ None → o ≡ None
    at None e = refl
    at (Some (a, ys)) e = cc

-- the part that has the segment has to wait too
part_waits : (c : ℕ) (owner : ℕ → ℕ) (x : Touch) (num : ℕ) (w : World) → owner (seg_of x num) ≡ c → serve (On x) num w ≡ None → touched x num (view c owner w.segs) ≡ None
part_waits c owner x num w mine e = ap (λ o. put_back o (seg_of x num) (view c owner w.segs)) (owned_op c owner x num w.segs mine ∙ op_waits x num w e)

-- only an access waits
made_goes : (n num : ℕ) (xs : List Cell) → op (New n) num xs ≡ None → ⊥
made_goes zero num xs e = cc
made_goes (suc n) num xs e = cc

freed_goes : (h num : ℕ) (xs : List Cell) → op (Free h) num xs ≡ None → ⊥
freed_goes h num [] e = cc
freed_goes h num (x ∷ xs) e = cc

module _ (of : ℕ → Class) (code : Code) (always : AlwaysOwn of code) (fair : AlwaysFair of code) where
  module _ (s pc : ℕ) (r : Regs) (slots : List Slot) (w : World) (last made : ℕ) (g : Stage of code slots w last made) (at_slot : slice_get slots s ≡ Some (Live pc r)) where
    abbrev Waits_here : Type 0
    Waits_here = Waiting of code g.l (parted g.owner w) last (g.names s)

    -- by an action
    by_action : (k : Ask) (pc' : ℕ) (rf : ℕ → Regs) → Asking of code always fair s pc r slots w last made g at_slot k pc' rf → MustWait k (suc last) (parted g.owner w) → Waits_here
    by_action k pc' rf asking waits = thread of code always fair s pc r slots w last made g at_slot Waits_here (λ at arg h.
        let x = dead_next of code always fair s pc r slots w last made g at_slot k pc' rf asking at arg h in
        record { ask = k; at = at; arg = arg; m = suc x.0; thread = h; shows = x.2; waits = waits })

    of_source : (q : Request) (x : Touch) (pc' : ℕ) (rf : ℕ → Regs) → Asking of code always fair s pc r slots w last made g at_slot (Of q) pc' rf → q ≡ On x → serve (On x) (suc last) w ≡ None → Waits_here
    of_source q x pc' rf asking is none =
        let mine : Mine g.owner (Of (On x)) (suc last) = subst (λ q. Mine g.owner (Of q) (suc last)) is (mine_for of code always fair s pc r slots w last made g at_slot (Of q) pc' rf asking) in
        by_action (Of q) pc' rf asking (x, is, part_waits 0 g.owner x (suc last) w mine none)

    of_shared : (x : Touch) (pc' : ℕ) (rf : ℕ → Regs) → Asking of code always fair s pc r slots w last made g at_slot (Side x) pc' rf → serve (On x) (suc last) w ≡ None → Waits_here
    of_shared (Reach a) pc' rf asking none = by_action (Side (Reach a)) pc' rf asking (part_waits 1 g.owner (Reach a) (suc last) w (mine_for of code always fair s pc r slots w last made g at_slot (Side (Reach a)) pc' rf asking) none)
    of_shared (New n) pc' rf asking none = absurd (made_goes n (suc last) (w.segs (suc last)) (op_waits (New n) (suc last) w none))
    of_shared (Free h) pc' rf asking none = absurd (freed_goes h (suc last) (w.segs h) (op_waits (Free h) (suc last) w none))

    -- a thread does not wait for its own segments
    of_own : (x : Touch) (pc' : ℕ) (rf : ℕ → Regs) → in_place of (slice_get code.instrs pc) ≡ Private → effect code.formats (slice_get code.instrs pc) pc r ≡ Asks (On x) pc' rf → serve (On x) (suc last) w ≡ None → Waits_here
    of_own (Reach a) pc' rf ec ef none = by_same _ (g.owner a.place.seg) (suc (suc (g.names s)))
        (λ same. not_bad of code always fair s pc r slots w last made g at_slot Waits_here (Reach a) (λ f. private_step of code always fair s pc r slots w last made g at_slot (Reach a) pc' rf ec ef (w.segs a.place.seg) (view_mine (suc (suc (g.names s))) g.owner w.segs a.place.seg same) None (op_waits (Reach a) (suc last) w none) 0 f []))
        (λ ne. not_bad of code always fair s pc r slots w last made g at_slot Waits_here (Reach a) (λ f. private_step of code always fair s pc r slots w last made g at_slot (Reach a) pc' rf ec ef [] (view_not (suc (suc (g.names s))) g.owner w.segs a.place.seg ne) (Some (Dead, [])) refl 0 f []))
    of_own (New n) pc' rf ec ef none = absurd (made_goes n (suc last) (w.segs (suc last)) (op_waits (New n) (suc last) w none))
    of_own (Free h) pc' rf ec ef none = absurd (freed_goes h (suc last) (w.segs h) (op_waits (Free h) (suc last) w none))

    bad_here : (c : Class) (q : Request) (pc' : ℕ) (rf : ℕ → Regs) → in_place of (slice_get code.instrs pc) ≡ c → effect code.formats (slice_get code.instrs pc) pc r ≡ Asks q pc' rf → ((o : Own) → asks c q pc' rf (local of code 0) o [] (part_of (g.names s) g.l) ≡ Bad (part_of (g.names s) g.l)) → Waits_here
    bad_here c q pc' rf ec ef bad = other_bad of code always fair s pc r slots w last made g at_slot Waits_here c q pc' rf ec ef bad

    by_asks : (c : Class) (q : Request) (pc' : ℕ) (rf : ℕ → Regs) → in_place of (slice_get code.instrs pc) ≡ c → effect code.formats (slice_get code.instrs pc) pc r ≡ Asks q pc' rf → machine.asks q pc' rf s slots w last ≡ Waits → Waits_here
    by_asks Source q pc' rf ec ef e = let t = touch_waits q pc' rf s slots w last e in of_source q t.0 pc' rf (λ n o rs u. one of code always fair s pc r slots w last made g at_slot Source (Asks q pc' rf) ec ef n o rs u) t.1 t.2
    by_asks Private (On x) pc' rf ec ef e = of_own x pc' rf ec ef (served_waits (On x) (serve (On x) (suc last) w) pc' rf s slots last e)
    by_asks Private (Print bytes) pc' rf ec ef e = bad_here Private (Print bytes) pc' rf ec ef (λ o. refl)
    by_asks Private (Begin at arg) pc' rf ec ef e = bad_here Private (Begin at arg) pc' rf ec ef (λ o. refl)
    by_asks Private Stop pc' rf ec ef e = bad_here Private Stop pc' rf ec ef (λ o. refl)
    by_asks Private Tick pc' rf ec ef e = bad_here Private Tick pc' rf ec ef (λ o. refl)
    by_asks Shared (On x) pc' rf ec ef e = of_shared x pc' rf (λ n o rs u. one of code always fair s pc r slots w last made g at_slot Shared (Asks (On x) pc' rf) ec ef n o rs u) (served_waits (On x) (serve (On x) (suc last) w) pc' rf s slots last e)
    by_asks Shared (Print bytes) pc' rf ec ef e = bad_here Shared (Print bytes) pc' rf ec ef (λ o. refl)
    by_asks Shared (Begin at arg) pc' rf ec ef e = bad_here Shared (Begin at arg) pc' rf ec ef (λ o. refl)
    by_asks Shared Stop pc' rf ec ef e = bad_here Shared Stop pc' rf ec ef (λ o. refl)
    by_asks Shared Tick pc' rf ec ef e = bad_here Shared Tick pc' rf ec ef (λ o. refl)

    by_effect : (f : Effect) → effect code.formats (slice_get code.instrs pc) pc r ≡ f → takes f s slots w last ≡ Waits → Waits_here
    by_effect (Goes pc' r') ef e = cc
    by_effect (Asks q pc' rf) ef e = by_asks (in_place of (slice_get code.instrs pc)) q pc' rf refl ef e
    by_effect (Faults kind) ef e = cc
    by_effect Quits ef e = cc

  pub waits_shown : (st : State) (made : ℕ) (g : Stage of code st.slots st.world st.last made) (s pc : ℕ) (r : Regs) → slice_get st.slots s ≡ Some (Live pc r) → step code s st ≡ Waits → Waiting of code g.l (parted g.owner st.world) st.last (g.names s)
  waits_shown st made g s pc r here e =
      by_effect s pc r st.slots st.world st.last made g here (effect code.formats (slice_get code.instrs pc) pc r) refl
      (sym (ap (λ o. in_slot code o s st.slots st.world st.last) here) ∙ e)

  pub stuck_waits : (st : State) (made : ℕ) (g : Stage of code st.slots st.world st.last made) → ((s : ℕ) → IsReady code s st → ⊥) → (a pc : ℕ) (r : Regs) → slice_get g.acts a ≡ Some (Live pc r) → Waiting of code g.l (parted g.owner st.world) st.last a
  stuck_waits st made g none a pc r here =
      let f = g.seats.found a pc r here in
      subst (Waiting of code g.l (parted g.owner st.world) st.last) f.2 (waits_shown st made g f.0 pc r f.1 (not_ready (step code f.0 st) (none f.0)))
