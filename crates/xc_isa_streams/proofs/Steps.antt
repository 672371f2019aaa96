-- One step of the machine, as a step of a thread: by the kind of its effect, and by whose it is.
use Rattle.std.proofs.Common.{◌≡◌, ℕ, zero, suc, ◌+◌, ◌-◌, ◌*◌, ◌^◌, ◌<◌, ◌≤◌, List, [], ◌∷◌, ◌++◌, length, Option, Some, None, Bool, true, false, cond, refl, sym, ap, ◌∙◌, subst, arith, inl, inr, ⊎_elim, append-nil, length-append}
use Rattle.std.specs.Prelude.{nat_lt, slice_get, slice_set}
use Rattle.std.proofs.lemmas.Bool.{ltb-true}
use Rattle.std.proofs.lemmas.Option.{slice_get_within}
use Rattle.std.proofs.Math.ListN.{length-set}
use Rattle.xc_word.specs.declared.memory.Cell.{Cell}
use Rattle.xc_meaning_world.specs.World.{Segs, World, Touch, Reach, New, Free, Request, On, Print, Begin, Stop, Tick, Reply, Got, Dead, put, seg_of, op, put_back, with_out, serve}
use Rattle.xc_meaning_world.specs.Runs.{part_of, Allows, NewInTouch, NewIn}
use Rattle.xc_meaning_world.proofs.Puts.{by_same, put_at, put_other, get_set_same, get_set_other}
use Rattle.xc_isa.specs.declared.code.Code.{Code}
use Rattle.xc_isa.specs.Effects.{Regs, Effect, Goes, Asks, Faults, Quits, effect}
use Rattle.xc_isa.specs.Machine as machine
use Rattle.xc_isa.specs.Machine.{Slot, Empty, Live, After, At, Trap, Waits, Spent, last_of_touch, last_after, with_slot, numbered, served, free_slot, starts, takes}
use Rattle.xc_isa.proofs.Slots.{free_slot_is_free}
use Rattle.xc_isa_streams.specs.Class.{Class, Source, Private, Shared, in_place}
use Rattle.xc_isa_streams.specs.Parts.{Ask, Of, Side, Act, act, AllowsIn, request_of, IsAbove, up, Serves, Alive, MakesBy, Makes, SideMakes, SideMade, Known, FairTouch, Fair, begun, begun_in, threads_in, InTurn}
use Rattle.xc_isa_streams.specs.Local.{Bad, Own, own_of, asked, hid, asks, does, local, replies_of, local_from}
use Rattle.xc_isa_streams.specs.Promises.{globals_of, first_parts, CanStart, Shows, Shown, AsksBy, AlwaysOwn, AsksNext, AlwaysFair, view, parted, own_view, now, upto, Stands, Core, total, Stage, frees, AsFree, Moves, goes, quits, acts, Further, Falls, StepsTo}
use Rattle.xc_isa_streams.proofs.Lists.{get_left, part_same, part_other, made_more, side_more, begun_more, alive_more, in_turn_more, serves_more, serves_up}
use Rattle.xc_isa_streams.proofs.Views.{view_mine, view_not, view_none, view_put, view_skip, given, given_old, given_view, given_above, given_below, given_by, by_old, by_view, touch_grows, last_grows, by_above, by_below, some_fst, some_snd, Mine, allows_parted, allows_others, touch_high, allows_high}
use Rattle.xc_isa_streams.proofs.Seats.{frees_as, frees_live, frees_quit, frees_start, seats_put, seats_new}
use Rattle.xc_isa_streams.proofs.Standing.{numbers_from, fresh_from, nums_for, fresh_for, privately_is, stands_on, stands_hid, stands_more, stands_up, shows, shows_fault, shows_with}
use Rattle.xc_isa_streams.proofs.Cores.{bump, bump_same, bump_other, bump_total, total_more, is_here, not_here, core_set, core_new}

up_low : (k : Ask) (n : ℕ) → up k n (suc n) ≤ last_after (request_of k) n
up_low (Of (On (Reach a))) n = omega arith
up_low (Of (On (New zero))) n = omega arith
up_low (Of (On (New (suc c)))) n = omega arith
up_low (Of (On (Free g))) n = omega arith
up_low (Of (Print bytes)) n = omega arith
up_low (Of (Begin at arg)) n = omega arith
up_low (Of Stop) n = omega arith
up_low (Of Tick) n = omega arith
up_low (Side (Reach a)) n = omega arith
up_low (Side (New zero)) n = omega arith
up_low (Side (New (suc c))) n = omega arith
up_low (Side (Free g)) n = omega arith

-- the next number is one for a new segment, where the numbers are not spent
touch_next : (x : Touch) (n : ℕ) → last_of_touch x n < 2 ^ 32 - 1 → NewInTouch (IsAbove n) x (suc n)
touch_next (Reach a) n lt = tt
touch_next (New zero) n lt = tt
touch_next (New (suc c)) n lt = (omega arith, omega (arith, lt))
touch_next (Free g) n lt = tt

next_in : (k : Ask) (n : ℕ) → last_after (request_of k) n < 2 ^ 32 - 1 → NewIn (IsAbove n) (request_of k) (suc n)
next_in (Of (On x)) n lt = touch_next x n lt
next_in (Of (Print bytes)) n lt = tt
next_in (Of (Begin at arg)) n lt = tt
next_in (Of Stop) n lt = tt
next_in (Of Tick) n lt = tt
next_in (Side x) n lt = touch_next x n lt

-- what traps makes no segment
touch_dead : (x : Touch) (num n : ℕ) (w w' : World) → serve (On x) num w ≡ Some (Dead, w') → NewInTouch (IsAbove n) x num
touch_dead (Reach a) num n w w' e = tt
touch_dead (New zero) num n w w' e = tt
touch_dead (New (suc c)) num n w w' e = let bad : Got (num * 2 ^ 32) ≡ Dead = some_fst e in cc
touch_dead (Free g) num n w w' e = tt

dead_in : (k : Ask) (num n : ℕ) (w w' : World) → Allows (request_of k) Dead num w w' → NewIn (IsAbove n) (request_of k) num
dead_in (Of (On x)) num n w w' e = touch_dead x num n w w' e
dead_in (Of (Print bytes)) num n w w' e = tt
dead_in (Of (Begin at arg)) num n w w' e = tt
dead_in (Of Stop) num n w w' e = tt
dead_in (Of Tick) num n w w' e = tt
dead_in (Side x) num n w w' e = touch_dead x num n w w' e

begun_dead : (k : Ask) → begun k Dead ≡ []
begun_dead (Of (On x)) = refl
begun_dead (Of (Print bytes)) = refl
begun_dead (Of (Begin at arg)) = refl
begun_dead (Of Stop) = refl
begun_dead (Of Tick) = refl
begun_dead (Side x) = refl

-- the same threads after an action that begins none
same_threads : (l : List (ℕ × Act)) (i : ℕ) (k : Ask) (a : Reply) → begun k a ≡ [] → threads_in (l ++ (i, act k a) ∷ []) ≡ threads_in l
same_threads l i k a quiet = ap (λ u. (0, 0) ∷ u) (begun_more l i k a ∙ ap (λ u. begun_in l ++ u) quiet ∙ append-nil (begun_in l))

module _ (of : ℕ → Class) (code : Code) (always : AlwaysOwn of code) (fair : AlwaysFair of code) where
  abbrev globals : ℕ
  globals = globals_of code

  -- one step of the stream in slot s
  module _ (s pc : ℕ) (r : Regs) (slots : List Slot) (w : World) (last made : ℕ) (g : Stage of code slots w last made) (at_slot : slice_get slots s ≡ Some (Live pc r)) where
    abbrev pub i : ℕ
    i = g.names s

    abbrev Reached : After → Type 0
    Reached x = StepsTo of code slots w last made g s x

    abbrev Later : List Slot → World → ℕ → Type 0
    Later slots' w' last' = Further of code slots w last made g s slots' w' last'

    abbrev pub mine_now : Segs
    mine_now = own_view (g.names s) g.owner w.segs

    abbrev pub so_far : List Act
    so_far = part_of (g.names s) g.l

    here : slice_get g.acts i ≡ Some (Live pc r)
    here = g.seats.live s pc r at_slot

    next_free : w.segs (suc last) ≡ []
    next_free = g.high (suc last) (omega arith)

    stands : (at arg : ℕ) → slice_get (threads_in g.l) i ≡ Some (at, arg) → CanStart code at arg × (m : ℕ) × (slice_get g.steps i ≡ Some m) × Stands of code at arg m (Live pc r) mine_now last so_far
    stands at arg h = is_here of code (threads_in g.l) g.acts g.steps (λ a. own_view a g.owner w.segs) last g.l g.core i pc r here at arg h

    pub thread : (P : Type 0) → ((at arg : ℕ) → slice_get (threads_in g.l) i ≡ Some (at, arg) → P) → P
    thread P f = found (slice_get (threads_in g.l) i) refl
      where
        found : (o : Option (ℕ × ℕ)) → slice_get (threads_in g.l) i ≡ o → P
        found None h = absurd (not_here of code (threads_in g.l) g.acts g.steps (λ a. own_view a g.owner w.segs) last g.l g.core i pc r here i h refl)
        found (Some (at, arg)) h = f at arg h

    lower : i < 1 + length (begun_in g.l)
    lower = let a = slice_get_within g.acts i (Live pc r) here in omega (arith, a, g.core.long)

    shown : Shown of code g.l g.steps
    shown = record {
      in_turn = g.in_turn;
      each = λ a at arg h. let x = g.core.each a at arg h in (x.4, x.1, x.3, shows of code at arg x.1 x.0 (own_view a g.owner w.segs) last (part_of a g.l) x.5);
      none = λ a h. (g.core.none a h).1;
    }

    pub one : (c : Class) (f : Effect) → in_place of (slice_get code.instrs pc) ≡ c → effect code.formats (slice_get code.instrs pc) pc r ≡ f → (n : ℕ) (o : Own) (rs : List Reply) (t : List Act) → local of code (suc n) pc r o rs t ≡ does c f (local of code n) o rs t
    one c f ec ef n o rs t = ap (λ u. does u (effect code.formats (slice_get code.instrs pc) pc r) (local of code n) o rs t) ec ∙ ap (λ u. does c u (local of code n) o rs t) ef

    counted : i < length g.steps
    counted = let a = slice_get_within g.acts i (Live pc r) here in omega (arith, a, g.core.long, g.core.counted)

    bumped : total (bump g.steps i) ≡ suc made
    bumped = bump_total g.steps i counted ∙ ap suc g.all_steps

    -- the thread has become this slot, and no thread has begun
    changed : (slot : Slot) (w' : World) (last' : ℕ) (owner' : ℕ → ℕ) (l' : List (ℕ × Act)) → threads_in l' ≡ threads_in g.l → last ≤ last' → ((at arg m : ℕ) → Stands of code at arg m (Live pc r) mine_now last so_far → Stands of code at arg (suc m) slot (own_view i owner' w'.segs) last' (part_of i l')) → ((a : ℕ) → (a ≡ i → ⊥) → own_view a owner' w'.segs ≡ own_view a g.owner w.segs) → ((a : ℕ) → (a ≡ i → ⊥) → part_of a l' ≡ part_of a g.l) → InTurn 1 l' → Alive l' → Moves of code slots (slice_set slots s slot) s i g.l l' → Serves (first_parts code) globals l' (parted owner' w') last' → ((y : ℕ) → Known globals l' y → (owner' y ≡ 0) × (y ≤ last')) → ((y : ℕ) → SideMade l' y → (owner' y ≡ 1) × (y ≤ last')) → ((y : ℕ) → owner' y < suc (suc (length g.acts))) → ((y : ℕ) → last' < y → owner' y ≡ 0) → ((y : ℕ) → last' < y → w'.segs y ≡ []) → Later (slice_set slots s slot) w' last'
    changed slot w' last' owner' l' same le mine views parts turn alive moves serves known sides owners above high = record {
      moves = moves;
      kept = λ t pc r h. refl;
      count = λ m h. bump_same g.steps i m h;
      stage = record {
        l = l';
        names = g.names;
        acts = slice_set g.acts i slot;
        steps = bump g.steps i;
        owner = owner';
        seats = seats_put slots g.names g.acts g.seats s pc r slot at_slot;
        core = subst (λ u. Core of code (slice_set g.acts i slot) (bump g.steps i) (λ a. own_view a owner' w'.segs) last' u l') (sym same)
            (core_set of code (threads_in g.l) g.acts g.steps (λ a. own_view a g.owner w.segs) last g.l g.core i pc r here (λ a. own_view a owner' w'.segs) last' l' slot le views parts mine);
        in_turn = turn;
        alive = alive;
        serves = serves;
        known = known;
        sides = sides;
        owners = λ y. omega (arith, owners y, length-set g.acts i slot);
        above = above;
        high = high;
        from = omega (arith, g.from, le);
        all_steps = bumped;
      };
    }

    -- a step with no action
    silent : (slot : Slot) → ((n : ℕ) (f : ℕ → ℕ) (rs : List Reply) → local of code (suc n) pc r (own_of f mine_now) rs so_far ≡ now of code n slot (own_of f mine_now) rs so_far) → Moves of code slots (slice_set slots s slot) s i g.l g.l → Later (slice_set slots s slot) w last
    silent slot f moves = changed slot w last g.owner g.l refl (omega arith) (λ at arg m h. stands_on of code at arg m pc r mine_now last so_far h slot f) (λ a ne. refl) (λ a ne. refl) g.in_turn g.alive moves g.serves g.known g.sides g.owners g.above g.high

    -- ---- a request that is an action

    abbrev pub Asking : Ask → ℕ → (ℕ → Regs) → Type 0
    Asking k pc' rf = (n : ℕ) (o : Own) (rs : List Reply) (t : List Act) → local of code (suc n) pc r o rs t ≡ asked k pc' rf (local of code n) o rs t

    pub dead_next : (k : Ask) (pc' : ℕ) (rf : ℕ → Regs) → Asking k pc' rf → (at arg : ℕ) → slice_get (threads_in g.l) i ≡ Some (at, arg) → (m : ℕ) × (slice_get g.steps i ≡ Some m) × Shows of code at arg (suc m) (so_far ++ act k Dead ∷ [])
    dead_next k pc' rf asking at arg h = let x = stands at arg h in (x.1, x.2, shows_fault of code at arg x.1 pc r mine_now last so_far x.3 k Dead (λ f. asking 0 _ (Dead ∷ []) so_far))

    asks_by : (k : Ask) (pc' : ℕ) (rf : ℕ → Regs) → Asking k pc' rf → AsksBy of code g.l i k
    asks_by k pc' rf asking = thread (AsksBy of code g.l i k) (λ at arg h. let x = dead_next k pc' rf asking at arg h in record { at = at; arg = arg; m = suc x.0; thread = h; shows = x.2 })

    fair_of : (k : Ask) → AsksNext of code g.l k → Fair globals g.l k
    fair_of (Of q) h = fair.source g.l q h
    fair_of (Side x) h = fair.side g.l x h

    fair_now : (k : Ask) (pc' : ℕ) (rf : ℕ → Regs) → Asking k pc' rf → Fair globals g.l k
    fair_now k pc' rf asking = thread (Fair globals g.l k) (λ at arg h.
        let x = dead_next k pc' rf asking at arg h in
        fair_of k (record { steps = g.steps; parts = parted g.owner w; last = last; a = i; at = at; arg = arg; m = suc x.0; serves = g.serves; shown = shown; alive = g.alive; thread = h; shows = x.2 }))

    touch_mine : (x : Touch) (c : ℕ) (P : ℕ → Type 0) → ((y : ℕ) → P y → g.owner y ≡ c) → FairTouch P x → given x g.owner (suc last) c (seg_of x (suc last)) ≡ c
    touch_mine (Reach a) c P has f = has a.place.seg f
    touch_mine (New n) c P has f = put_at g.owner (suc last) c
    touch_mine (Free h) c P has f = has h f

    source_mine : (x : Touch) → FairTouch (Known globals g.l) x → g.owner (seg_of x (suc last)) ≡ 0
    source_mine (Reach a) f = (g.known a.place.seg f).0
    source_mine (New n) f = g.above (suc last) (omega arith)
    source_mine (Free h) f = (g.known h f).0

    is_mine : (k : Ask) → Fair globals g.l k → Mine (given_by k g.owner (suc last)) k (suc last)
    is_mine (Of (On x)) f = source_mine x f
    is_mine (Of (Print bytes)) f = tt
    is_mine (Of (Begin at arg)) f = tt
    is_mine (Of Stop) f = tt
    is_mine (Of Tick) f = tt
    is_mine (Side x) f = touch_mine x 1 (SideMade g.l) (λ y h. (g.sides y h).0) f

    pub mine_for : (k : Ask) (pc' : ℕ) (rf : ℕ → Regs) → Asking k pc' rf → Mine (given_by k g.owner (suc last)) k (suc last)
    mine_for k pc' rf asking = is_mine k (fair_now k pc' rf asking)

    -- what is made has the next number
    new_last : (x : Touch) (v : ℕ) (w' : World) (y : ℕ) → serve (On x) (suc last) w ≡ Some (Got v, w') → MakesBy x (Got v) y → (y ≡ suc last) × (last_of_touch x last ≡ suc last) × ((c : ℕ) → given x g.owner (suc last) c y ≡ c)
    new_last (Reach a) v w' y e m = absurd m
    new_last (New zero) v w' y e m = let bad : Dead ≡ Got v = some_fst e in cc
    new_last (New (suc n)) v w' y e m =
        let same : Got (suc last * 2 ^ 32) ≡ Got v = some_fst e in
        let is : suc last * 2 ^ 32 ≡ v = cc in
        let number : y ≡ suc last = omega (arith, is, m) in
        (number, refl, λ c. ap (put g.owner (suc last) c) number ∙ put_at g.owner (suc last) c)
    new_last (Free h) v w' y e m = absurd m

    makes_last : (k : Ask) (v : ℕ) (w' : World) (y : ℕ) → Allows (request_of k) (Got v) (suc last) w w' → Makes k (Got v) y → (given_by k g.owner (suc last) y ≡ 0) × (y ≤ last_after (request_of k) last)
    makes_last (Of (On x)) v w' y e m = let is = new_last x v w' y e m in (g.above y (omega (arith, is.0)), omega (arith, is.0, is.1))
    makes_last (Of (Print bytes)) v w' y e m = absurd m
    makes_last (Of (Begin at arg)) v w' y e m = absurd m
    makes_last (Of Stop) v w' y e m = absurd m
    makes_last (Of Tick) v w' y e m = absurd m
    makes_last (Side x) v w' y e m = absurd m

    side_last : (k : Ask) (v : ℕ) (w' : World) (y : ℕ) → Allows (request_of k) (Got v) (suc last) w w' → SideMakes k (Got v) y → (given_by k g.owner (suc last) y ≡ 1) × (y ≤ last_after (request_of k) last)
    side_last (Of q) v w' y e m = absurd m
    side_last (Side x) v w' y e m = let is = new_last x v w' y e m in (is.2 1, omega (arith, is.0, is.1))

    known_old : (k : Ask) (y c : ℕ) → (g.owner y ≡ c) × (y ≤ last) → (given_by k g.owner (suc last) y ≡ c) × (y ≤ last_after (request_of k) last)
    known_old k y c h = (by_old k g.owner last y (λ z. omega (arith, z, h.1)) ∙ h.0, omega (arith, h.1, last_grows (request_of k) last))

    known_more : (k : Ask) (v : ℕ) (w' : World) → Allows (request_of k) (Got v) (suc last) w w' → (y : ℕ) → Known globals (g.l ++ (i, act k (Got v)) ∷ []) y → (given_by k g.owner (suc last) y ≡ 0) × (y ≤ last_after (request_of k) last)
    known_more k v w' e y (inl le) = known_old k y 0 (g.known y (inl le))
    known_more k v w' e y (inr h) = ⊎_elim (λ old. known_old k y 0 (g.known y (inr old))) (λ new. makes_last k v w' y e new) (made_more g.l i k (Got v) y h)

    sides_more : (k : Ask) (v : ℕ) (w' : World) → Allows (request_of k) (Got v) (suc last) w w' → (y : ℕ) → SideMade (g.l ++ (i, act k (Got v)) ∷ []) y → (given_by k g.owner (suc last) y ≡ 1) × (y ≤ last_after (request_of k) last)
    sides_more k v w' e y h = ⊎_elim (λ old. known_old k y 1 (g.sides y old)) (λ new. side_last k v w' y e new) (side_more g.l i k (Got v) y h)

    -- the parts before the step, with the new number's owner
    same_parts : (k : Ask) → parted (given_by k g.owner (suc last)) w ≡ parted g.owner w
    same_parts k =
        ap (λ m. record { source = record { segs = m; out = w.out }; side = view 1 (given_by k g.owner (suc last)) w.segs }) (by_view k 0 g.owner w.segs last next_free)
        ∙ ap (λ m. record { source = record { segs = view 0 g.owner w.segs; out = w.out }; side = m }) (by_view k 1 g.owner w.segs last next_free)

    serves_next : (k : Ask) (a : Reply) (w' : World) → NewIn (IsAbove last) (request_of k) (suc last) → Mine (given_by k g.owner (suc last)) k (suc last) → Allows (request_of k) a (suc last) w w' → Serves (first_parts code) globals (g.l ++ (i, act k a) ∷ []) (parted (given_by k g.owner (suc last)) w') (last_after (request_of k) last)
    serves_next k a w' new mine e =
        let owner' = given_by k g.owner (suc last) in
        serves_up (first_parts code) (parted owner' w') globals (up k last (suc last)) (last_after (request_of k) last) (g.l ++ (i, act k a) ∷ [])
        (serves_more (first_parts code) (parted g.owner w) (parted owner' w') globals last (suc last) i k a g.l g.serves new (subst (λ p. AllowsIn k a (suc last) p (parted owner' w')) (same_parts k) (allows_parted k (suc last) owner' w a w' mine e)))
        (up_low k last)

    own_kept : (k : Ask) (a : Reply) (w' : World) (b : ℕ) → Mine (given_by k g.owner (suc last)) k (suc last) → Allows (request_of k) a (suc last) w w' → own_view b (given_by k g.owner (suc last)) w'.segs ≡ own_view b g.owner w.segs
    own_kept k a w' b mine e = allows_others k (suc last) b (given_by k g.owner (suc last)) w a w' mine e ∙ by_view k (suc (suc b)) g.owner w.segs last next_free

    -- the thread after an action
    stands_next : (k : Ask) (pc' : ℕ) (rf : ℕ → Regs) (v : ℕ) (w' : World) → Asking k pc' rf → Mine (given_by k g.owner (suc last)) k (suc last) → Allows (request_of k) (Got v) (suc last) w w' → (at arg m : ℕ) → Stands of code at arg m (Live pc r) mine_now last so_far → Stands of code at arg (suc m) (Live pc' (rf v)) (own_view i (given_by k g.owner (suc last)) w'.segs) (last_after (request_of k) last) (part_of i (g.l ++ (i, act k (Got v)) ∷ []))
    stands_next k pc' rf v w' asking mine e at arg m h =
        subst (λ t. Stands of code at arg (suc m) (Live pc' (rf v)) (own_view i (given_by k g.owner (suc last)) w'.segs) (last_after (request_of k) last) t) (sym (part_same i (act k (Got v)) g.l))
        (subst (λ p. Stands of code at arg (suc m) (Live pc' (rf v)) p (last_after (request_of k) last) (so_far ++ act k (Got v) ∷ [])) (sym (own_kept k (Got v) w' i mine e))
        (stands_up of code at arg (suc m) (Live pc' (rf v)) mine_now last (last_after (request_of k) last) (so_far ++ act k (Got v) ∷ []) (last_grows (request_of k) last)
        (stands_more of code at arg m pc r mine_now last so_far h (Live pc' (rf v)) k (Got v) (λ n f rs. asking n _ (Got v ∷ rs) so_far))))

    -- an action that begins no thread
    loud : (k : Ask) (pc' : ℕ) (rf : ℕ → Regs) (v : ℕ) (w' : World) → Asking k pc' rf → begun k (Got v) ≡ [] → AsFree (frees slots) k v → NewIn (IsAbove last) (request_of k) (suc last) → Allows (request_of k) (Got v) (suc last) w w' → Later (slice_set slots s (Live pc' (rf v))) w' (last_after (request_of k) last)
    loud k pc' rf v w' asking quiet free new e =
        let mine = mine_for k pc' rf asking in
        changed (Live pc' (rf v)) w' (last_after (request_of k) last) (given_by k g.owner (suc last)) (g.l ++ (i, act k (Got v)) ∷ [])
        (same_threads g.l i k (Got v) quiet)
        (last_grows (request_of k) last)
        (stands_next k pc' rf v w' asking mine e)
        (λ a ne. own_kept k (Got v) w' a mine e)
        (λ a ne. part_other i a (act k (Got v)) g.l ne)
        (in_turn_more g.l 1 i k (Got v) g.in_turn lower)
        (alive_more g.l i k v g.alive)
        (acts k v refl (asks_by k pc' rf asking) free (let n = ap length quiet in omega (arith, n, frees_live slots s pc pc' r (rf v) at_slot)))
        (serves_next k (Got v) w' new mine e)
        (known_more k v w' e)
        (sides_more k v w' e)
        (λ y. by_below k g.owner last (length g.acts) y g.owners)
        (λ y lt. by_above k g.owner last y g.above lt)
        (allows_high k last w v w' g.high e)

    fall : (k : Ask) (w' : World) → Mine (given_by k g.owner (suc last)) k (suc last) → Allows (request_of k) Dead (suc last) w w' → ((at arg : ℕ) → slice_get (threads_in g.l) i ≡ Some (at, arg) → (m : ℕ) × (slice_get g.steps i ≡ Some m) × Shows of code at arg (suc m) (so_far ++ act k Dead ∷ [])) → Falls of code slots w last made g s
    fall k w' mine e next =
        let l' = g.l ++ (i, act k Dead) ∷ [] in
        let same = same_threads g.l i k Dead (begun_dead k) in
        record {
          ask = k;
          more = refl;
          fallen = record {
            l = l';
            steps = bump g.steps i;
            parts = parted (given_by k g.owner (suc last)) w';
            last = last_after (request_of k) last;
            shown = record {
              in_turn = in_turn_more g.l 1 i k Dead g.in_turn lower;
              each = λ a at arg h'.
                  let h : slice_get (threads_in g.l) a ≡ Some (at, arg) = ap (λ u. slice_get u a) (sym same) ∙ h' in
                  let x = shown.each a at arg h in
                  let y = by_same ((m : ℕ) × (slice_get (bump g.steps i) a ≡ Some m) × Shows of code at arg m (part_of a l')) a i
                  (λ e.
                  let z = next at arg (ap (λ u. slice_get (threads_in g.l) u) (sym e) ∙ h) in
                  (suc z.0, ap (λ u. slice_get (bump g.steps i) u) e ∙ bump_same g.steps i z.0 z.1, subst (λ u. Shows of code at arg (suc z.0) (part_of u l')) (sym e) (subst (λ t. Shows of code at arg (suc z.0) t) (sym (part_same i (act k Dead) g.l)) z.2)))
                  (λ ne. (x.1, bump_other g.steps i a ne ∙ x.2, subst (λ t. Shows of code at arg x.1 t) (sym (part_other i a (act k Dead) g.l ne)) x.3)) in
                  (x.0, y.0, y.1, y.2);
              none = λ a h'.
                  let h : slice_get (threads_in g.l) a ≡ None = ap (λ u. slice_get u a) (sym same) ∙ h' in
                  part_other i a (act k Dead) g.l (not_here of code (threads_in g.l) g.acts g.steps (λ a. own_view a g.owner w.segs) last g.l g.core i pc r here a h) ∙ shown.none a h;
            };
            serves = serves_next k Dead w' (dead_in k (suc last) last w w' e) mine e;
            trapped = (g.l, i, k, refl, g.alive);
            all_steps = bumped;
          };
        }

    -- a thread begins
    more : (at arg pc' : ℕ) (rf : ℕ → Regs) (f : ℕ) → Asking (Of (Begin at arg)) pc' rf → effect code.formats (slice_get code.instrs pc) pc r ≡ Asks (Begin at arg) pc' rf → slice_get slots f ≡ Some Empty → AsFree (frees slots) (Of (Begin at arg)) 1 → Later (slice_set (slice_set slots s (Live pc' (rf 1))) f (machine.begun at arg)) w last
    more at arg pc' rf f asking eff free is =
        let k = Of (Begin at arg) in
        let l' = g.l ++ (i, act k (Got 1)) ∷ [] in
        let grown : threads_in l' ≡ threads_in g.l ++ (at, arg) ∷ [] = ap (λ u. (0, 0) ∷ u) (begun_more g.l i k (Got 1)) in
        let x = Live pc' (rf 1) in
        let ne : f ≡ s → ⊥ = λ q. let p : slice_get slots f ≡ Some (Live pc r) = ap (λ u. slice_get slots u) q ∙ at_slot in let bad : Some Empty ≡ Some (Live pc r) = sym free ∙ p in cc in
        let free' : slice_get (slice_set slots s x) f ≡ Some Empty = get_set_other slots s f x ne ∙ free in
        let acts1 = slice_set g.acts i x in
        let seats1 = seats_put slots g.names g.acts g.seats s pc r x at_slot in
        let own : ℕ → Segs = λ a. own_view a g.owner w.segs in
        let core1 : Core of code acts1 (bump g.steps i) own last (threads_in g.l) l' = core_set of code (threads_in g.l) g.acts g.steps own last g.l g.core i pc r here own last l' x (omega arith) (λ a ne. refl) (λ a ne. part_other i a (act k (Got 1)) g.l ne) (stands_next k pc' rf 1 w asking tt (refl, omega arith)) in
        let nothing : own (length acts1) ≡ (λ g. []) = view_none (suc (suc (length acts1))) g.owner w.segs (λ y e. omega (arith, g.owners y, e, length-set g.acts i x)) in
        record {
          moves = acts k 1 refl (asks_by k pc' rf asking) is (let n = frees_start (slice_set slots s x) f at (put (λ x. 0) 1 arg) free' in omega (arith, n, frees_live slots s pc pc' r (rf 1) at_slot));
          kept = λ t q u h. put_other g.names f t (length acts1) (λ e. let p : slice_get slots f ≡ Some (Live q u) = ap (λ u. slice_get slots u) (sym e) ∙ h in let bad : Some Empty ≡ Some (Live q u) = sym free ∙ p in cc);
          count = λ m h. get_left (bump g.steps i) (0 ∷ []) i (suc m) (bump_same g.steps i m h);
          stage = record {
            l = l';
            names = put g.names f (length acts1);
            acts = acts1 ++ machine.begun at arg ∷ [];
            steps = bump g.steps i ++ 0 ∷ [];
            owner = g.owner;
            seats = seats_new (slice_set slots s x) g.names acts1 seats1 f at (put (λ x. 0) 1 arg) free';
            core = subst (λ u. Core of code (acts1 ++ machine.begun at arg ∷ []) (bump g.steps i ++ 0 ∷ []) own last u l') (sym grown) (core_new of code (threads_in g.l) acts1 (bump g.steps i) own last l' at arg core1 g.from (inr (pc, r, pc', rf, eff)) nothing);
            in_turn = in_turn_more g.l 1 i k (Got 1) g.in_turn lower;
            alive = alive_more g.l i k 1 g.alive;
            serves = serves_next k (Got 1) w tt tt (refl, omega arith);
            known = known_more k 1 w (refl, omega arith);
            sides = sides_more k 1 w (refl, omega arith);
            owners = λ y. omega (arith, g.owners y, length-set g.acts i x, length-append acts1 (machine.begun at arg ∷ []));
            above = g.above;
            high = g.high;
            from = g.from;
            all_steps = total_more (bump g.steps i) ∙ bumped;
          };
        }

    -- ---- what the machine makes of it

    numbered_inv : (n : ℕ) (x : After) → (n < 2 ^ 32 - 1 → Reached x) → Reached (numbered n x)
    numbered_inv n x h = at (nat_lt n (2 ^ 32 - 1)) refl
      where
        at : (b : Bool) → nat_lt n (2 ^ 32 - 1) ≡ b → Reached (cond b x Spent)
        at true e = h (ltb-true n (2 ^ 32 - 1) e)
        at false e = tt

    served_inv : (k : Ask) (pc' : ℕ) (rf : ℕ → Regs) → Asking k pc' rf → ((v : ℕ) → (begun k (Got v) ≡ []) × AsFree (frees slots) k v) → (o : Option (Reply × World)) → ((a : Reply) (w' : World) → o ≡ Some (a, w') → Allows (request_of k) a (suc last) w w') → Reached (served (request_of k) o pc' rf s slots last)
    served_inv k pc' rf asking quiet None e = tt
    served_inv k pc' rf asking quiet (Some (Dead, w')) e = fall k w' (mine_for k pc' rf asking) (e Dead w' refl) (dead_next k pc' rf asking)
    served_inv k pc' rf asking quiet (Some (Got v, w')) e = numbered_inv (last_after (request_of k) last) (with_slot slots s (Live pc' (rf v)) w' (last_after (request_of k) last)) (λ lt. loud k pc' rf v w' asking (quiet v).0 (quiet v).1 (next_in k last lt) (e (Got v) w' refl))

    starts_inv : (at arg pc' : ℕ) (rf : ℕ → Regs) → Asking (Of (Begin at arg)) pc' rf → effect code.formats (slice_get code.instrs pc) pc r ≡ Asks (Begin at arg) pc' rf → (o : Option ℕ) → free_slot slots ≡ o → Reached (starts o at arg pc' rf s slots w last)
    starts_inv at arg pc' rf asking eff None e = loud (Of (Begin at arg)) pc' rf 0 w asking refl (sym (frees_as slots None e)) tt (refl, omega arith)
    starts_inv at arg pc' rf asking eff (Some f) e = more at arg pc' rf f asking eff (free_slot_is_free slots f e) (sym (frees_as slots (Some f) e))

    -- a request that is an action
    act_inv : (k : Ask) (pc' : ℕ) (rf : ℕ → Regs) → Asking k pc' rf → effect code.formats (slice_get code.instrs pc) pc r ≡ Asks (request_of k) pc' rf → Reached (machine.asks (request_of k) pc' rf s slots w last)
    act_inv (Of (On x)) pc' rf asking eff = served_inv (Of (On x)) pc' rf asking (λ v. (refl, tt)) (serve (On x) (suc last) w) (λ a w' e. e)
    act_inv (Of (Print bytes)) pc' rf asking eff = served_inv (Of (Print bytes)) pc' rf asking (λ v. (refl, tt)) (serve (Print bytes) (suc last) w) (λ a w' e. e)
    act_inv (Of (Begin at arg)) pc' rf asking eff = starts_inv at arg pc' rf asking eff (free_slot slots) refl
    act_inv (Of Stop) pc' rf asking eff = served_inv (Of Stop) pc' rf asking (λ v. (refl, tt)) (serve Stop (suc last) w) (λ a w' e. e)
    act_inv (Of Tick) pc' rf asking eff = served_inv (Of Tick) pc' rf asking (λ v. (refl, tt)) (serve Tick (suc last) w) (λ a w' e. some_snd e)
    act_inv (Side x) pc' rf asking eff = served_inv (Side x) pc' rf asking (λ v. (refl, tt)) (serve (On x) (suc last) w) (λ a w' e. e)

    -- ---- a touch of an own segment

    pub not_bad : (P : Type 0) (x : Touch) → ((f : ℕ → ℕ) → local of code 1 pc r (own_of (nums_for x (suc last) f) mine_now) [] so_far ≡ Bad so_far) → P
    not_bad P x f = thread P (λ at arg h.
        let y = stands at arg h in
        let nums = numbers_from (last_of_touch x last) in
        let from = nums_for x (suc last) nums in
        let shows = shows_with of code at arg y.1 (Live pc r) mine_now last so_far from (fresh_for x last nums (fresh_from (last_of_touch x last))) y.3 in
        absurd (always g.l g.steps (parted g.owner w) last i at arg y.1 (y.1 + 1) so_far g.serves shown g.alive h shows
        (ap (λ rs. local_from of code (y.1 + 1) at arg (upto y.3.ns from) rs) (sym (append-nil (replies_of so_far))) ∙ y.3.by 1 from [] ∙ f nums)))

    pub private_step : (x : Touch) (pc' : ℕ) (rf : ℕ → Regs) → in_place of (slice_get code.instrs pc) ≡ Private → effect code.formats (slice_get code.instrs pc) pc r ≡ Asks (On x) pc' rf → (xs : List Cell) → mine_now (seg_of x (suc last)) ≡ xs → (o : Option (Reply × List Cell)) → op x (suc last) xs ≡ o → (n : ℕ) (f : ℕ → ℕ) (rs : List Reply) → local of code (suc n) pc r (own_of (nums_for x (suc last) f) mine_now) rs so_far ≡ hid o (seg_of x (suc last)) f mine_now pc' rf (local of code n) rs so_far
    private_step x pc' rf ec ef xs sees o e n f rs =
        one Private (Asks (On x) pc' rf) ec ef n _ rs so_far
        ∙ privately_is x (suc last) f mine_now pc' rf (local of code n) rs so_far
        ∙ ap (λ u. hid u (seg_of x (suc last)) f mine_now pc' rf (local of code n) rs so_far) (ap (op x (suc last)) sees ∙ e)

    -- of a segment that is its own, or becomes its own
    module _ (x : Touch) (pc' : ℕ) (rf : ℕ → Regs) (ec : in_place of (slice_get code.instrs pc) ≡ Private) (ef : effect code.formats (slice_get code.instrs pc) pc r ≡ Asks (On x) pc' rf) (is_own : given x g.owner (suc last) (suc (suc (g.names s))) (seg_of x (suc last)) ≡ suc (suc (g.names s))) where
      abbrev num : ℕ
      num = seg_of x (suc last)

      abbrev owner' : ℕ → ℕ
      owner' = given x g.owner (suc last) (suc (suc (g.names s)))

      views : (c : ℕ) → view c owner' w.segs ≡ view c g.owner w.segs
      views c = given_view x c (suc (suc i)) g.owner w.segs last next_free

      sees : mine_now num ≡ w.segs num
      sees = ap (λ u. u num) (sym (views (suc (suc i)))) ∙ view_mine (suc (suc i)) owner' w.segs num is_own

      kept : (c : ℕ) (ys : List Cell) → (suc (suc i) ≡ c → ⊥) → view c owner' (put w.segs num ys) ≡ view c g.owner w.segs
      kept c ys ne = view_skip c owner' w.segs num ys (λ z. ne (sym is_own ∙ z)) ∙ views c

      old : (y c : ℕ) → (g.owner y ≡ c) × (y ≤ last) → (owner' y ≡ c) × (y ≤ last_of_touch x last)
      old y c h = (given_old x g.owner last (suc (suc i)) y (λ e. omega (arith, e, h.1)) ∙ h.0, omega (arith, h.1, touch_grows x last))

      pub hid_inv : (o : Option (Reply × List Cell)) → op x (suc last) (w.segs num) ≡ o → Reached (served (On x) (with_out (put_back o num w.segs) w.out) pc' rf s slots last)
      hid_inv None e = tt
      hid_inv (Some (Dead, ys)) e = not_bad _ x (λ f. private_step x pc' rf ec ef (w.segs num) sees (Some (Dead, ys)) e 0 f [])
      hid_inv (Some (Got v, ys)) e =
          let m' = put w.segs num ys in
          let own_now : put mine_now num ys ≡ own_view i owner' m' = ap (λ u. put u num ys) (sym (views (suc (suc i)))) ∙ sym (view_put (suc (suc i)) owner' w.segs num ys is_own) in
          let source : view 0 owner' m' ≡ view 0 g.owner w.segs = kept 0 ys (λ z. omega (arith, z)) in
          let side : view 1 owner' m' ≡ view 1 g.owner w.segs = kept 1 ys (λ z. omega (arith, z)) in
          numbered_inv (last_of_touch x last) (with_slot slots s (Live pc' (rf v)) (record { segs = m'; out = w.out }) (last_of_touch x last))
          (λ lt. changed (Live pc' (rf v)) (record { segs = m'; out = w.out }) (last_of_touch x last) owner' g.l refl (touch_grows x last)
          (λ at arg m h. stands_hid of code at arg m pc r mine_now last so_far h (Live pc' (rf v)) x (own_view i owner' m')
          (λ n f rs. private_step x pc' rf ec ef (w.segs num) sees (Some (Got v, ys)) e n f rs ∙ ap (λ u. local of code n pc' (rf v) (own_of f u) rs so_far) own_now))
          (λ a ne. kept (suc (suc a)) ys (λ z. ne (let q : i ≡ a = omega (arith, z) in sym q)))
          (λ a ne. refl)
          g.in_turn
          g.alive
          (goes refl (frees_live slots s pc pc' r (rf v) at_slot) pc' (rf v) (get_set_same slots s (Live pc' (rf v)) (Live pc r) at_slot))
          (serves_up (first_parts code) (parted owner' (record { segs = m'; out = w.out })) globals last (last_of_touch x last) g.l
          (subst (λ p. Serves (first_parts code) globals g.l p last) (sym (ap (λ u. record { source = record { segs = u; out = w.out }; side = view 1 owner' m' }) source ∙ ap (λ u. record { source = record { segs = view 0 g.owner w.segs; out = w.out }; side = u }) side)) g.serves)
          (touch_grows x last))
          (λ y k. old y 0 (g.known y k))
          (λ y k. old y 1 (g.sides y k))
          (λ y. given_below x g.owner last (suc (suc i)) (suc (suc (length g.acts))) y g.owners (let a = slice_get_within g.acts i (Live pc r) here in omega (arith, a)))
          (λ y lt. given_above x g.owner last (suc (suc i)) y g.above lt)
          (touch_high x last w.segs v ys g.high e))

    -- of a segment that was there before
    old_inv : (x : Touch) (pc' : ℕ) (rf : ℕ → Regs) → in_place of (slice_get code.instrs pc) ≡ Private → effect code.formats (slice_get code.instrs pc) pc r ≡ Asks (On x) pc' rf → op x (suc last) [] ≡ Some (Dead, []) → (given x g.owner (suc last) (suc (suc (g.names s))) (seg_of x (suc last)) ≡ g.owner (seg_of x (suc last))) → Reached (served (On x) (serve (On x) (suc last) w) pc' rf s slots last)
    old_inv x pc' rf ec ef dead kept = by_same _ (g.owner (seg_of x (suc last))) (suc (suc i))
        (λ same. hid_inv x pc' rf ec ef (kept ∙ same) (op x (suc last) (w.segs (seg_of x (suc last)))) refl)
        (λ ne. not_bad _ x (λ f. private_step x pc' rf ec ef [] (view_not (suc (suc i)) g.owner w.segs (seg_of x (suc last)) ne) (Some (Dead, [])) dead 0 f []))

    private_inv : (x : Touch) (pc' : ℕ) (rf : ℕ → Regs) → in_place of (slice_get code.instrs pc) ≡ Private → effect code.formats (slice_get code.instrs pc) pc r ≡ Asks (On x) pc' rf → Reached (served (On x) (serve (On x) (suc last) w) pc' rf s slots last)
    private_inv (Reach a) pc' rf ec ef = old_inv (Reach a) pc' rf ec ef refl refl
    private_inv (New n) pc' rf ec ef = hid_inv (New n) pc' rf ec ef (put_at g.owner (suc last) (suc (suc i))) (op (New n) (suc last) (w.segs (suc last))) refl
    private_inv (Free h) pc' rf ec ef = old_inv (Free h) pc' rf ec ef refl refl

    -- what is no touch is neither private nor of what is shared
    pub other_bad : (P : Type 0) (c : Class) (q : Request) (pc' : ℕ) (rf : ℕ → Regs) → in_place of (slice_get code.instrs pc) ≡ c → effect code.formats (slice_get code.instrs pc) pc r ≡ Asks q pc' rf → ((o : Own) → asks c q pc' rf (local of code 0) o [] so_far ≡ Bad so_far) → P
    other_bad P c q pc' rf ec ef bad = not_bad P (Free 0) (λ f. one c (Asks q pc' rf) ec ef 0 _ [] so_far ∙ bad _)

    asks_inv : (c : Class) (q : Request) (pc' : ℕ) (rf : ℕ → Regs) → in_place of (slice_get code.instrs pc) ≡ c → effect code.formats (slice_get code.instrs pc) pc r ≡ Asks q pc' rf → Reached (machine.asks q pc' rf s slots w last)
    asks_inv Source q pc' rf ec ef = act_inv (Of q) pc' rf (λ n o rs t. one Source (Asks q pc' rf) ec ef n o rs t) ef
    asks_inv Private (On x) pc' rf ec ef = private_inv x pc' rf ec ef
    asks_inv Private (Print bytes) pc' rf ec ef = other_bad _ Private (Print bytes) pc' rf ec ef (λ o. refl)
    asks_inv Private (Begin at arg) pc' rf ec ef = other_bad _ Private (Begin at arg) pc' rf ec ef (λ o. refl)
    asks_inv Private Stop pc' rf ec ef = other_bad _ Private Stop pc' rf ec ef (λ o. refl)
    asks_inv Private Tick pc' rf ec ef = other_bad _ Private Tick pc' rf ec ef (λ o. refl)
    asks_inv Shared (On x) pc' rf ec ef = act_inv (Side x) pc' rf (λ n o rs t. one Shared (Asks (On x) pc' rf) ec ef n o rs t) ef
    asks_inv Shared (Print bytes) pc' rf ec ef = other_bad _ Shared (Print bytes) pc' rf ec ef (λ o. refl)
    asks_inv Shared (Begin at arg) pc' rf ec ef = other_bad _ Shared (Begin at arg) pc' rf ec ef (λ o. refl)
    asks_inv Shared Stop pc' rf ec ef = other_bad _ Shared Stop pc' rf ec ef (λ o. refl)
    asks_inv Shared Tick pc' rf ec ef = other_bad _ Shared Tick pc' rf ec ef (λ o. refl)

    pub takes_inv : (f : Effect) → effect code.formats (slice_get code.instrs pc) pc r ≡ f → Reached (takes f s slots w last)
    takes_inv (Goes pc' r') ef = silent (Live pc' r') (λ n f rs. one _ (Goes pc' r') refl ef n _ rs so_far) (goes refl (frees_live slots s pc pc' r r' at_slot) pc' r' (get_set_same slots s (Live pc' r') (Live pc r) at_slot))
    takes_inv (Asks q pc' rf) ef = asks_inv (in_place of (slice_get code.instrs pc)) q pc' rf refl ef
    takes_inv (Faults kind) ef = fall (Of Stop) w tt refl (λ at arg h. let x = stands at arg h in (x.1, x.2, shows_fault of code at arg x.1 pc r mine_now last so_far x.3 (Of Stop) Dead (λ f. one _ (Faults kind) refl ef 0 _ (Dead ∷ []) so_far)))
    takes_inv Quits ef = silent Empty (λ n f rs. one _ Quits refl ef n _ rs so_far) (quits refl (frees_quit slots s pc r at_slot) (get_set_same slots s Empty (Live pc r) at_slot))
