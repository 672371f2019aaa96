-- A run that has room ends, or traps: it is not cut short.
use Rattle.std.proofs.Common.{◌≡◌, ℕ, ◌+◌, ◌<◌, ◌≤◌, Bool, true, false, List, [], ◌∷◌, ◌++◌, length, Option, Some, None, refl, sym, ap, ◌∙◌, subst, arith, inl, inr, length-append}
use Rattle.std.specs.Prelude.{◌⊎◌, slice_get}
use Rattle.xc_isa.specs.declared.code.Code.{Code}
use Rattle.xc_isa.specs.declared.instr.TrapKind.{TrapKind}
use Rattle.xc_isa.specs.Machine as machine
use Rattle.xc_isa.specs.Machine.{State, After, step, HasQuit, IsReady, live_words}
use Rattle.xc_isa.specs.Runs.{At, run, onward}
use Rattle.xc_machine.specs.declared.run.End.{End}
use Rattle.xc_machine.specs.declared.run.End.TheVariants as end
use Rattle.xc_machine.specs.declared.stepped.Stepped.TheVariants as stepped
use Rattle.xc_machine.specs.Limits.{Limits, Steps, cells_in, bytes_in}
use Rattle.xc_machine.specs.Runs.{Ends, Picks, ready_streams}
use Rattle.xc_machine.proofs.RunLaws.{follows_run}
use Rattle.xc_machine_play.specs.declared.outcome.Ending.{Ending}
use Rattle.xc_machine_play.specs.declared.outcome.Ending.TheVariants as ending
use Rattle.xc_machine_play.specs.Plays.{ending_of, Played}
use Rattle.xc_machine_room.specs.Rooms.{HasRoom, PicksReady, IsEnd, IsShort}
use Rattle.xc_machine_room.proofs.Picks.{ready_named, some_ready, first_of}
use Rattle.xc_machine_room.proofs.Fits.{words_fit, output_fits}

trapped_is_none : (code : Code) (kind : TrapKind) (ss : List ℕ) (new : State) → onward (machine.Trap kind) ss (run code ss) ≡ At new → ⊥
trapped_is_none code kind [] new e = cc
trapped_is_none code kind (s ∷ ss) new e = cc

onward_on : (code : Code) (ss ts : List ℕ) (new : State) (a : After) → ((mid : State) → run code ss mid ≡ At new → run code (ss ++ ts) mid ≡ run code ts new) → onward a ss (run code ss) ≡ At new → onward a (ss ++ ts) (run code (ss ++ ts)) ≡ run code ts new
onward_on code ss ts new (machine.At mid) later e = later mid e
onward_on code ss ts new (machine.Trap kind) later e = absurd (trapped_is_none code kind ss new e)
onward_on code ss ts new machine.Waits later e = absurd cc
onward_on code ss ts new machine.Spent later e = absurd cc

-- a run goes on from where it leads
run_on : (code : Code) (ss ts : List ℕ) (st new : State) → run code ss st ≡ At new → run code (ss ++ ts) st ≡ run code ts new
run_on code [] ts st new e = let same : st ≡ new = cc in ap (run code ts) same
run_on code (s ∷ ss) ts st new e = onward_on code ss ts new (step code s st) (λ mid. run_on code ss ts mid new) e

module _ (code : Code) (st : State) (limits : Limits) (steps : ℕ) (room : HasRoom code st limits steps) (ss : List ℕ) (new : State) (at : run code ss st ≡ At new) where
  -- one step more
  one_more : (s : ℕ) (a : After) → step code s new ≡ a → run code (ss ++ s ∷ []) st ≡ onward a [] (run code [])
  one_more s a e = run_on code ss (s ∷ []) st new at ∙ ap (λ a. onward a [] (run code [])) e

  -- where a stream is ready, a step is left
  step_left : (s : ℕ) → IsReady code s new → length ss < steps
  step_left s ready = by (step code s new) refl
    where
      longer : length (ss ++ s ∷ []) ≡ length ss + 1
      longer = length-append ss (s ∷ [])

      by : (a : After) → step code s new ≡ a → length ss < steps
      by (machine.At mid) e = omega (arith, longer, room.few (ss ++ s ∷ []) mid (one_more s (machine.At mid) e))
      by (machine.Trap kind) e = omega (arith, longer, room.few_to_trap (ss ++ s ∷ []) kind (one_more s (machine.Trap kind) e))
      by machine.Waits e = absurd (ready e)
      by machine.Spent e = absurd (room.numbers ss new at s e)

  some_left : (ready_streams code new ≡ [] → ⊥) → length ss < steps
  some_left some = let s = first_of (ready_streams code new) some in step_left s.0 (ready_named code new 0 s.0 s.1)

  -- what a step asks for is there
  words_left : (s : ℕ) → live_words new + cells_in code (slice_get new.slots s) ≤ limits.words
  words_left s = words_fit code s new limits.words (room.words ss new at) (room.numbers ss new at s) (λ mid e. room.words (ss ++ s ∷ []) mid (one_more s (machine.At mid) e))

  output_left : (s : ℕ) → length new.world.out + length (bytes_in code (slice_get new.slots s)) ≤ limits.out
  output_left s = output_fits code s new limits.out (room.out ss new at) (room.numbers ss new at s) (λ mid e. room.out (ss ++ s ∷ []) mid (one_more s (machine.At mid) e))

  not_stuck : (HasQuit new → ⊥) → ready_streams code new ≡ [] → ⊥
  not_stuck live none = by (room.ready ss new at)
    where
      by : HasQuit new ⊎ ((s : ℕ) × IsReady code s new) → ⊥
      by (inl quit) = live quit
      by (inr h) = some_ready code new h.0 h.1 none

  not_full : (s live asked : ℕ) → Steps code limits s (stepped.WordsFull live asked) new new → ⊥
  not_full s live asked h = by h.0
    where
      by : (limits.words < live + asked) ⊎ (step code s new ≡ machine.Spent) → ⊥
      by (inl lt) = absurd (omega (arith, lt, h.1, h.2, words_left s))
      by (inr spent) = room.numbers ss new at s spent

  not_out : (s len piece : ℕ) → Steps code limits s (stepped.OutFull len piece) new new → ⊥
  not_out s len piece h = absurd (omega (arith, h.0, h.1, h.2, output_left s))

  module _ {C : Type 0} (picks : C → List ℕ → Option ℕ → C → Type 0) (c d : C) where
    abbrev EndsSo : End → Type 0
    EndsSo e = Ends picks code limits steps (length ss) c new d e

    -- whatever chooses
    long : (e : End) (left : Bool) (why : Ending) → EndsSo e → ending_of e left ≡ Some why → IsShort why → ⊥
    long end.Ended true why h told short = let is : why ≡ ending.Left = cc in subst IsShort is short
    long end.Ended false why h told short = let is : why ≡ ending.Ended = cc in subst IsShort is short
    long end.Stuck left why h told short = not_stuck h.0 h.1
    long end.Unfinished left why h told short = let is : why ≡ ending.Unfinished = cc in subst IsShort is short
    long (end.BadChoice k) left why h told short = let is : why ≡ ending.BadChoice = cc in subst IsShort is short
    long (end.Trap kind s) left why h told short = let is : why ≡ ending.Trap kind s = cc in subst IsShort is short
    long (end.WordsFull live asked) left why h told short = not_full h.0 live asked h.2
    long (end.OutFull len piece) left why h told short = not_out h.0 len piece h.2
    long end.NoMemory left why h told short = cc

    -- where the chooser picks a ready stream
    not_unfinished : PicksReady picks → EndsSo end.Unfinished → ⊥
    not_unfinished ready h = by h.1
      where
        lt : length ss < steps
        lt = some_left h.0

        by : ((length ss ≡ steps) × (d ≡ c)) ⊎ ((length ss < steps) × picks c (ready_streams code new) None d) → ⊥
        by (inl k) = absurd (omega (arith, lt, k.0))
        by (inr k) = let s = ready c (ready_streams code new) None d k.1 h.0 in let bad = s.1 in cc

    not_bad : PicksReady picks → (s : ℕ) → Picks picks code limits steps (length ss) c new s d → step code s new ≡ machine.Waits → ⊥
    not_bad ready s h waits =
        let t = ready c (ready_streams code new) (Some s) d h.picked h.some_ready in
        let same : t.0 ≡ s = let e = t.1 in cc in
        ready_named code new t.2 t.0 t.3 (ap (λ k. step code k new) same ∙ waits)

    done : PicksReady picks → (e : End) (why : Ending) → EndsSo e → ending_of e false ≡ Some why → IsEnd why
    done ready end.Ended why h told = let is : why ≡ ending.Ended = cc in subst IsEnd (sym is) tt
    done ready end.Stuck why h told = absurd (not_stuck h.0 h.1)
    done ready end.Unfinished why h told = absurd (not_unfinished ready h)
    done ready (end.BadChoice k) why h told = absurd (not_bad ready h.0 h.1 h.2)
    done ready (end.Trap kind s) why h told = let is : why ≡ ending.Trap kind s = cc in subst IsEnd (sym is) tt
    done ready (end.WordsFull live asked) why h told = absurd (not_full h.0 live asked h.2)
    done ready (end.OutFull len piece) why h told = absurd (not_out h.0 len piece h.2)
    done ready end.NoMemory why h told = absurd cc

-- ---- what comes of a run

module _ {C : Type 0} (picks : C → List ℕ → Option ℕ → C → Type 0) (c : C) (code : Code) (limits : Limits) (st : State) (limit : ℕ) (why : Ending) (steps : ℕ) (out named : List ℕ) (room : HasRoom code st limits limit) where
  -- No limit cuts it short.
  pub not_short : (has_left : C → Bool) → Played picks has_left c code limits st limit why steps out named → IsShort why → ⊥
  not_short has_left h short =
      let r = h.run in
      long code st limits limit room r.streams h.last (follows_run picks code limits c st r.streams r.last h.last r.follows) picks r.last h.after h.end (has_left h.after) why r.ends h.told short

  -- Where its chooser picks a ready stream whenever there is one, and leaves no choices, all streams quit or one traps.
  pub comes_to_end : PicksReady picks → Played picks (λ d. false) c code limits st limit why steps out named → IsEnd why
  comes_to_end ready h =
      let r = h.run in
      done code st limits limit room r.streams h.last (follows_run picks code limits c st r.streams r.last h.last r.follows) picks r.last h.after ready h.end why r.ends h.told
