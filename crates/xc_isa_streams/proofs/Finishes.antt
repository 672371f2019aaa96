-- Runs that have ended.
use Rattle.std.proofs.Common.{◌≡◌, ◌≤◌, ℕ, List, [], length, ◌+◌, Some, refl, sym, ap, ◌∙◌, subst, inl, append-nil}
use Rattle.std.specs.Prelude.{slice_get}
use Rattle.xc_meaning_world.specs.Runs.{part_of}
use Rattle.xc_meaning_world.specs.World.{Segs}
use Rattle.xc_isa.specs.declared.code.Code.{Code}
use Rattle.xc_isa.specs.Machine.{Slot, Absent, Empty, Live, State, IsIdle, HasQuit, start}
use Rattle.xc_isa.specs.Effects.{Regs}
use Rattle.xc_isa.specs.Runs.{At, run}
use Rattle.xc_isa_streams.specs.Class.{Class}
use Rattle.xc_isa_streams.specs.Parts.{Act}
use Rattle.xc_isa_streams.specs.Local.{Ended, Own, local_from, replies_of}
use Rattle.xc_isa_streams.specs.Promises.{AlwaysOwn, AlwaysFair, HasSlots, parted, own_view, now, upto, Seats, Stands, Ends, Stage, Finished, Stood}
use Rattle.xc_isa_streams.proofs.Views.{view_mine}
use Rattle.xc_isa_streams.proofs.Standing.{numbers_from, fresh_from}
use Rattle.xc_isa_streams.proofs.Projected.{projected}

-- no slot has a stream, so each thread has ended
ended : (slots : List Slot) (names : ℕ → ℕ) (acts : List Slot) → Seats slots names acts → IsIdle slots → (a : ℕ) (slot : Slot) → slice_get acts a ≡ Some slot → (pc : ℕ) (r : Regs) → slot ≡ Live pc r → ⊥
ended slots names acts seats quit a slot h pc r e = let f = seats.found a pc r (h ∙ ap Some e) in quit f.0 pc r f.1

module _ (of : ℕ → Class) (code : Code) where
  over : (k : ℕ) (slot : Slot) (o : Own) (t : List Act) → ((pc : ℕ) (r : Regs) → slot ≡ Live pc r → ⊥) → now of code k slot o [] t ≡ Ended [] t
  over k Absent o t quit = refl
  over k Empty o t quit = refl
  over k (Live pc r) o t quit = absurd (quit pc r refl)

  ends : (at arg m : ℕ) (slot : Slot) (p : Segs) (last : ℕ) (t : List Act) → ((pc : ℕ) (r : Regs) → slot ≡ Live pc r → ⊥) → Stands of code at arg m slot p last t → Ends of code at arg m t
  ends at arg m slot p last t quit s =
      let f = numbers_from last in
      record { num = upto s.ns f; fresh = s.nums f (fresh_from last); by = λ k. ap (λ l. local_from of code (m + k) at arg (upto s.ns f) l) (sym (append-nil (replies_of t))) ∙ s.by k f [] ∙ over k slot _ t quit; busy = λ j. s.busy j f }

  finished : (st : State) (made : ℕ) → HasQuit st → Stage of code st.slots st.world st.last made → Finished of code st.world made
  finished st made quit g = record {
    l = g.l;
    steps = g.steps;
    parts = parted g.owner st.world;
    last = st.last;
    in_turn = g.in_turn;
    each = λ a at arg h. let x = g.core.each a at arg h in (x.4, x.1, x.3, ends at arg x.1 x.0 (own_view a g.owner st.world.segs) st.last (part_of a g.l) (ended st.slots g.names g.acts g.seats quit a x.0 x.2) x.5);
    none = λ a h. (g.core.none a h).1;
    serves = g.serves;
    out = refl;
    globals = λ y le. view_mine 0 g.owner st.world.segs y (g.known y (inl le)).0;
    all_steps = g.all_steps;
  }

  pub ended_runs : AlwaysOwn of code → AlwaysFair of code → (q n : ℕ) → HasSlots q n → (ss : List ℕ) (st : State) → run code ss (start code q n) ≡ At st → HasQuit st → Finished of code st.world (length ss)
  ended_runs always fair q n has ss st e quit = finished st (length ss) quit (subst (Stood of code (length ss)) e (projected of code always fair q n has ss))
