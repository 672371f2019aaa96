-- Every run of the machine stands for actions of its threads.
use Rattle.std.proofs.Common.{◌≡◌, ◌≤◌, ◌+◌, ℕ, zero, suc, ◌<◌, List, [], ◌∷◌, ◌++◌, length, Option, Some, None, refl, sym, ap, ◌∙◌, subst, arith, inl, ⊎_elim, append-nil, append_assoc}
use mathlib.Core.Path.{fun_ext}
use Rattle.std.specs.Prelude.{slice_get, slice_set, map, unwrap_or}
use Rattle.std.proofs.lemmas.Option.{slice_get_past}
use Rattle.std.proofs.lemmas.List.{length-map}
use Rattle.xc_word.specs.declared.memory.Cell.{Cell}
use Rattle.xc_meaning_world.specs.World.{World, Got, Dead, put, segs_of, world_of}
use Rattle.xc_meaning_world.proofs.Puts.{put_same}
use Rattle.xc_isa.specs.declared.code.Code.{Code}
use Rattle.xc_isa.specs.Texts.{cells_of}
use Rattle.xc_isa.specs.Effects.{Regs, effect}
use Rattle.xc_isa.specs.Machine as machine
use Rattle.xc_isa.specs.Machine.{Slot, Absent, Empty, Live, State, After, free_slots, in_slot, step, start}
use Rattle.xc_isa.proofs.Slots.{start_live, start_one}
use Rattle.xc_isa.specs.Runs as ran
use Rattle.xc_isa.specs.Runs.{Ran, onward, run}
use Rattle.xc_isa_streams.specs.Class.{Class}
use Rattle.xc_isa_streams.specs.Parts.{Act, act}
use Rattle.xc_isa_streams.specs.Promises.{globals_of, first_parts, HasSlots, AlwaysOwn, AlwaysFair, view, parted, own_view, Seats, Core, Stage, Stood, Fallen, Moves, goes, quits, acts, StepsTo, StoodOn}
use Rattle.xc_isa_streams.proofs.Views.{view_mine, view_none}
use Rattle.xc_isa_streams.proofs.Cores.{core_new}
use Rattle.xc_isa_streams.proofs.Steps.{takes_inv}

-- no segment past the globals is live
pub globals_high : (globals : List (List Cell)) (g : ℕ) → length globals < g → segs_of globals g ≡ []
globals_high globals zero lt = absurd (omega arith)
globals_high globals (suc g) lt = ap (λ o. unwrap_or o []) (slice_get_past globals g (omega arith))

module _ (of : ℕ → Class) (code : Code) where
  abbrev first_world : World
  first_world = world_of (map cells_of code.globals)

  -- all segments are the source's
  abbrev first_owner : ℕ → ℕ
  first_owner g = 0

  whole : (m : ℕ → List Cell) → m ≡ view 0 first_owner m
  whole m = fun_ext (λ g. sym (view_mine 0 first_owner m g refl))

  nothing : (c : ℕ) (m : ℕ → List Cell) → view (suc c) first_owner m ≡ (λ g. [])
  nothing c m = view_none (suc c) first_owner m (λ g e. omega (arith, e))

  first_is : first_parts code ≡ parted first_owner first_world
  first_is =
      ap (λ m. record { source = record { segs = m; out = [] }; side = λ g. [] }) (whole first_world.segs)
      ∙ ap (λ m. record { source = record { segs = view 0 first_owner first_world.segs; out = [] }; side = m }) (sym (nothing 0 first_world.segs))

  abbrev first_slots : ℕ → ℕ → Regs → List Slot
  first_slots q n r = slice_set (free_slots q n) 0 (Live 0 r)

  -- all registers are 0
  abbrev no_regs : Regs
  no_regs x = 0

  same_regs : no_regs ≡ put no_regs 1 0
  same_regs = sym (put_same no_regs 1 0 refl)

  first_live : (q n : ℕ) → HasSlots q n → slice_get (first_slots q n (put (λ x. 0) 1 0)) 0 ≡ Some (Live 0 (put (λ x. 0) 1 0))
  first_live q n has = subst (λ r. slice_get (first_slots q n r) 0 ≡ Some (Live 0 r)) same_regs (start_live code q n has.0 has.1 has.2)

  first_one : (q n s pc : ℕ) (r : Regs) → slice_get (first_slots q n (put (λ x. 0) 1 0)) s ≡ Some (Live pc r) → s ≡ 0
  first_one q n s pc r h = start_one code q n s pc r (subst (λ u. slice_get (first_slots q n u) s ≡ Some (Live pc r)) (sym same_regs) h)

  first_seats : (q n : ℕ) → HasSlots q n → Seats (first_slots q n (put (λ x. 0) 1 0)) (λ s. s) (Live 0 (put (λ x. 0) 1 0) ∷ [])
  first_seats q n has = record {
    live = λ s pc r h. live s pc r (first_one q n s pc r h) h;
    one = λ s s' pc pc' r r' h h' e. e;
    found = found;
  }
    where
      live : (s pc : ℕ) (r : Regs) → s ≡ 0 → slice_get (first_slots q n (put (λ x. 0) 1 0)) s ≡ Some (Live pc r) → slice_get (Live 0 (put (λ x. 0) 1 0) ∷ []) s ≡ Some (Live pc r)
      live zero pc r e h = sym (first_live q n has) ∙ h
      live (suc s) pc r e h = absurd (omega (arith, e))

      found : (a pc : ℕ) (r : Regs) → slice_get (Live 0 (put (λ x. 0) 1 0) ∷ []) a ≡ Some (Live pc r) → (s : ℕ) × (slice_get (first_slots q n (put (λ x. 0) 1 0)) s ≡ Some (Live pc r)) × (s ≡ a)
      found zero pc r h = (0, first_live q n has ∙ h, refl)
      found (suc a) pc r h = cc

  first_core : Core of code (Live 0 (put (λ x. 0) 1 0) ∷ []) (0 ∷ []) (λ a. own_view a first_owner first_world.segs) (globals_of code) ((0, 0) ∷ []) []
  first_core = core_new of code [] [] [] (λ a. own_view a first_owner first_world.segs) (globals_of code) [] 0 0 (record { each = λ a at arg h. cc; none = λ a h. (refl, refl); long = refl; counted = refl }) (omega arith) (inl (refl, refl)) (nothing 1 first_world.segs)

  first_high : (g : ℕ) → globals_of code < g → first_world.segs g ≡ []
  first_high g lt = globals_high (map cells_of code.globals) g (omega (arith, lt, length-map code.globals cells_of))

  abbrev unread_stage : (q n : ℕ) → HasSlots q n → Stage of code (first_slots q n (put (λ x. 0) 1 0)) first_world (globals_of code) 0
  unread_stage q n has = record {
    l = [];
    names = λ s. s;
    acts = Live 0 (put (λ x. 0) 1 0) ∷ [];
    steps = 0 ∷ [];
    owner = first_owner;
    seats = first_seats q n has;
    core = first_core;
    in_turn = tt;
    alive = tt;
    serves = (first_is, omega arith);
    known = λ g h. (refl, ⊎_elim (λ le. le) (λ no. absurd no) h);
    sides = λ g h. absurd h;
    owners = λ g. omega arith;
    above = λ g lt. refl;
    high = first_high;
    from = omega arith;
    all_steps = refl;
  }

  -- the machine starts with all registers 0
  pub first_stage : (q n : ℕ) → HasSlots q n → (g : Stage of code (start code q n).slots (start code q n).world (start code q n).last 0) × (g.l ≡ [])
  first_stage q n has = subst (λ r. (g : Stage of code (first_slots q n r) first_world (globals_of code) 0) × (g.l ≡ [])) (sym same_regs) (unread_stage q n has, refl)

  -- ---- a list that goes on another one

  grown : (slots slots' : List Slot) (s i : ℕ) (l l' : List (ℕ × Act)) → Moves of code slots slots' s i l l' → (t : List (ℕ × Act)) × (l' ≡ l ++ t)
  grown slots slots' s i l l' (goes e f pc r h) = ([], e ∙ sym (append-nil l))
  grown slots slots' s i l l' (quits e f q) = ([], e ∙ sym (append-nil l))
  grown slots slots' s i l l' (acts k v e a b f) = ((i, act k (Got v)) ∷ [], e)

  stood_under : (l l' t : List (ℕ × Act)) (made : ℕ) (x : Ran) → l' ≡ l ++ t → StoodOn of code l' made x → StoodOn of code l made x
  stood_under l l' t made (ran.At st) e h = (h.0, t ++ h.1, h.2 ∙ ap (λ u. u ++ h.1) e ∙ append_assoc l t h.1)
  stood_under l l' t made (ran.Trap kind) e h = (h.0, t ++ h.1, h.2 ∙ ap (λ u. u ++ h.1) e ∙ append_assoc l t h.1)
  stood_under l l' t made ran.NoRun e h = tt

  stood_of : (l : List (ℕ × Act)) (made : ℕ) (x : Ran) → StoodOn of code l made x → Stood of code made x
  stood_of l made (ran.At st) h = h.0
  stood_of l made (ran.Trap kind) h = h.0
  stood_of l made ran.NoRun h = tt

  after_step : (slots : List Slot) (w : World) (last made : ℕ) (g : Stage of code slots w last made) (s : ℕ) (ss : List ℕ) (x : After) (go : State → Ran) → StepsTo of code slots w last made g s x → ((st : State) (g : Stage of code st.slots st.world st.last (suc made)) → StoodOn of code g.l (length ss + suc made) (go st)) → StoodOn of code g.l (length ss + suc made) (onward x ss go)
  after_step slots w last made g s ss (machine.At st) go h next =
      let t = grown slots st.slots s (g.names s) g.l h.stage.l h.moves in
      stood_under g.l h.stage.l t.0 (length ss + suc made) (go st) t.1 (next st h.stage)
  after_step slots w last made g s [] (machine.Trap kind) go h next =
      let n : suc made ≡ 0 + suc made = omega arith in
      subst (λ n. (f : Fallen of code n) × (t : List (ℕ × Act)) × (f.l ≡ g.l ++ t)) n (h.fallen, (g.names s, act h.ask Dead) ∷ [], h.more)
  after_step slots w last made g s (s' ∷ ss) (machine.Trap kind) go h next = tt
  after_step slots w last made g s ss machine.Waits go h next = tt
  after_step slots w last made g s ss machine.Spent go h next = tt

  module _ (always : AlwaysOwn of code) (fair : AlwaysFair of code) where
    slot_inv : (s : ℕ) (slots : List Slot) (w : World) (last made : ℕ) (g : Stage of code slots w last made) (o : Option Slot) → slice_get slots s ≡ o → StepsTo of code slots w last made g s (in_slot code o s slots w last)
    slot_inv s slots w last made g None here = tt
    slot_inv s slots w last made g (Some Absent) here = tt
    slot_inv s slots w last made g (Some Empty) here = tt
    slot_inv s slots w last made g (Some (Live pc r)) here = takes_inv of code always fair s pc r slots w last made g here (effect code.formats (slice_get code.instrs pc) pc r) refl

    pub steps_to : (st : State) (made : ℕ) (g : Stage of code st.slots st.world st.last made) (s : ℕ) → StepsTo of code st.slots st.world st.last made g s (step code s st)
    steps_to st made g s = slot_inv s st.slots st.world st.last made g (slice_get st.slots s) refl

    pub onward_from : (st : State) (made : ℕ) (g : Stage of code st.slots st.world st.last made) (ss : List ℕ) → StoodOn of code g.l (length ss + made) (run code ss st)
    onward_from st made g [] = let n : made ≡ 0 + made = omega arith in subst (λ n. (h : Stage of code st.slots st.world st.last n) × (t : List (ℕ × Act)) × (h.l ≡ g.l ++ t)) n (g, [], sym (append-nil g.l))
    onward_from st made g (s ∷ ss) =
        let n : length ss + suc made ≡ suc (length ss) + made = omega arith in
        subst (λ n. StoodOn of code g.l n (run code (s ∷ ss) st)) n
        (after_step st.slots st.world st.last made g s ss (step code s st) (run code ss) (steps_to st made g s) (λ st g. onward_from st (suc made) g ss))

    pub projected : (q n : ℕ) → HasSlots q n → (ss : List ℕ) → Stood of code (length ss) (run code ss (start code q n))
    projected q n has ss =
        let k : length ss + 0 ≡ length ss = omega arith in
        let g = first_stage q n has in
        subst (λ k. Stood of code k (run code ss (start code q n))) k (stood_of g.0.l (length ss + 0) (run code ss (start code q n)) (onward_from (start code q n) 0 g.0 ss))
