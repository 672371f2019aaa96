-- A text with a tree whose forms all have code is compiled, and run to an end where there is room for its program.
use Rattle.std.proofs.Common.{◌≡◌, ◌⊎◌, ℕ, ◌≤◌, List, [], Bool, false, Option, Some, None, length, inl, inr, refl, sym, subst, arith}
use Rattle.std.specs.Prelude.{nat_lt}
use Rattle.xc_text_place.specs.declared.Pos.{Pos}
use Rattle.xc_sched.specs.Choices.{PicksInTurn, PicksBySeed, PicksNext}
use Rattle.xc_tree.specs.declared.tree.Tree.{Tree}
use Rattle.xc_meaning.specs.Terms as straight
use Rattle.xc_meaning_terms.specs.Terms.{Program}
use Rattle.xc_meaning_trees.specs.Trees.{program_of}
use Rattle.xc_isa.specs.declared.code.Code.{Code}
use Rattle.xc_isa.specs.declared.instr.TrapKind.{TrapKind}
use Rattle.xc_isa.specs.Machine.{start}
use Rattle.xc_gen.specs.Unbuilt.{unbuilt_of}
use Rattle.xc_gen_promises.specs.Promises.{IsMachine}
use Rattle.xc_driver.specs.declared.fault.RefusalKind.{RefusalKind}
use Rattle.xc_driver.specs.Compiles.{IsTreeOf, IsCodeOf, IsOnlyRefusal}
use Rattle.xc_machine_room.specs.Rooms.{HasRoom as LeavesRoom, PicksReady, IsEnd, IsShort}
use Rattle.xc_machine_room.proofs.Picks.{turns_pick_ready, seeds_pick_ready}
use Rattle.xc_machine_room.proofs.Rooms.{not_short, comes_to_end}
use Rattle.xc_top_words.specs.declared.command.Choice.{Choice}
use Rattle.xc_top_words.specs.declared.command.Choice.TheVariants as choice
use Rattle.xc_top_words.specs.declared.command.Options.{Options}
use Rattle.xc_top_words.specs.declared.command.Command.{Command}
use Rattle.xc_top_words.specs.declared.command.Command.TheVariants.{Run, Exec, Compile}
use Rattle.xc_machine_play.specs.declared.source.Source.{Source}
use Rattle.xc_machine_play.specs.declared.outcome.Ending.{Ending}
use Rattle.xc_machine_play.specs.declared.outcome.Ending.TheVariants as ending
use Rattle.xc_machine_play.specs.Plays.{limits_in, IsTooBig, PlaysBy, Plays}
use Rattle.xc_top.specs.declared.status.Numbers.{Numbers}
use Rattle.xc_top.specs.declared.status.Status.{Status}
use Rattle.xc_top.specs.Judges.{Chooses, IsBadSchedule, IsSourceOutput, HasSourceTrap, status_of, Executes, NoSchedule, WasRun, Judges, NoCode, Executed, Written}
use Rattle.xc_top.specs.Completes.{HasRoom, IsScheduled, IsEndOf, Completes}
use Rattle.xc_top.proofs.Sources.{output_of, trap_of}

-- ---- one run

module _ (tree : Tree) (code : Code) (of_tree : IsCodeOf tree code) (o : Options) (machine : IsMachine o.processors o.streams) (room : HasRoom o (straight.program_of tree)) where
  leaves_room : LeavesRoom code (start code o.processors o.streams) (limits_in o) o.steps
  leaves_room = record {
    few = λ ss new e. omega (arith, of_tree.ends.steps o.processors o.streams room.ticks machine room.are_few ss new e, room.steps);
    few_to_trap = λ ss kind e. omega (arith, of_tree.ends.steps_to_trap o.processors o.streams room.ticks machine room.are_few ss kind e, room.steps);
    words = λ ss new e. omega (arith, of_tree.ends.words o.processors o.streams machine ss new e, room.words);
    numbers = λ ss new e. of_tree.ends.numbers o.processors o.streams machine ss new e;
    out = λ ss new e. of_tree.ends.output o.processors o.streams o.out machine room.output ss new e;
    ready = λ ss new e. of_tree.no_stuck.ready o.processors o.streams machine ss new e;
  }

  module _ (why : Ending) (steps : ℕ) (out named : List ℕ) where
    -- the globals are not too many words
    not_big : IsTooBig code o why steps out named → ⊥
    not_big big = absurd (omega (arith, big.more, leaves_room.words [] (start code o.processors o.streams) refl))

    long_by : {C : Type 0} (picks : C → List ℕ → Option ℕ → C → Type 0) (has_left : C → Bool) (c : C) → PlaysBy picks has_left c code o why steps out named → IsShort why → ⊥
    long_by picks has_left c (inl big) short = not_big big
    long_by picks has_left c (inr h) short = not_short picks c code (limits_in o) (start code o.processors o.streams) o.steps why steps out named leaves_room has_left h.1 short

    end_by : {C : Type 0} (picks : C → List ℕ → Option ℕ → C → Type 0) (c : C) → PicksReady picks → PlaysBy picks (λ d. false) c code o why steps out named → IsEnd why
    end_by picks c ready (inl big) = absurd (not_big big)
    end_by picks c ready (inr h) = comes_to_end picks c code (limits_in o) (start code o.processors o.streams) o.steps why steps out named leaves_room ready h.1

    -- all quit, or one trapped; by a schedule, at least no limit was passed
    comes_so : (by : Choice) (schedule : Option (List ℕ)) (s : Source) → Chooses by schedule s → Plays s code o why steps out named → IsEnd why ⊎ (IsScheduled by × (IsShort why → ⊥))
    comes_so choice.Turns schedule s chosen h = inl (end_by PicksInTurn 0 turns_pick_ready (subst (λ s. Plays s code o why steps out named) chosen h))
    comes_so (choice.Seed n) schedule s chosen h = inl (end_by PicksBySeed n seeds_pick_ready (subst (λ s. Plays s code o why steps out named) chosen h))
    comes_so (choice.Schedule file) None s chosen h = absurd chosen
    comes_so (choice.Schedule file) (Some text) s chosen h =
        inr (tt, long_by PicksNext (λ (left : List ℕ). nat_lt 0 (length left)) chosen.0 (subst (λ s. Plays s code o why steps out named) chosen.2 h))

-- how that is told
told_so : (by : Choice) (p : Program) (why : Ending) (m : Numbers) (out : List ℕ) → (why ≡ ending.Ended → IsSourceOutput p out) → ((kind : TrapKind) (s : ℕ) → why ≡ ending.Trap kind s → HasSourceTrap p)
    → IsEnd why ⊎ (IsScheduled by × (IsShort why → ⊥)) → IsEndOf by p (status_of why m) out
told_so by p ending.Ended m out ended trapped h = ended refl
told_so by p (ending.Trap kind s) m out ended trapped h = trapped kind s refl
told_so by p ending.Left m out ended trapped (inl bad) = absurd bad
told_so by p ending.Left m out ended trapped (inr h) = h.0
told_so by p ending.Unfinished m out ended trapped (inl bad) = absurd bad
told_so by p ending.Unfinished m out ended trapped (inr h) = h.0
told_so by p ending.BadChoice m out ended trapped (inl bad) = absurd bad
told_so by p ending.BadChoice m out ended trapped (inr h) = h.0
told_so by p ending.Stuck m out ended trapped (inl bad) = absurd bad
told_so by p ending.Stuck m out ended trapped (inr h) = absurd (h.1 tt)
told_so by p (ending.WordsFull live asked) m out ended trapped (inl bad) = absurd bad
told_so by p (ending.WordsFull live asked) m out ended trapped (inr h) = absurd (h.1 tt)
told_so by p (ending.OutFull len piece) m out ended trapped (inl bad) = absurd bad
told_so by p (ending.OutFull len piece) m out ended trapped (inr h) = absurd (h.1 tt)

scheduled : (by : Choice) (schedule : Option (List ℕ)) (name : List ℕ) (k : ℕ) → IsBadSchedule by schedule name k → IsScheduled by
scheduled choice.Turns schedule name k bad = bad
scheduled (choice.Seed n) schedule name k bad = bad
scheduled (choice.Schedule file) schedule name k bad = tt

executed_ends : (tree : Tree) (code : Code) → IsCodeOf tree code → (o : Options) (schedule : Option (List ℕ)) (status : Status) (out err : List ℕ)
    → Executes o code schedule status out err → HasRoom o (straight.program_of tree) → IsEndOf o.choice (program_of tree) status out
executed_ends tree code of_tree o schedule status out err (NoSchedule r) room =
    subst (λ s. IsEndOf o.choice (program_of tree) s out) (sym r.is_status) (scheduled o.choice schedule r.name r.line r.why)
executed_ends tree code of_tree o schedule status out err (WasRun r) room =
    let p = program_of tree in
    let m : Numbers = record { steps = r.steps; streams = o.streams; processors = o.processors } in
    let ended = λ (e : r.why ≡ ending.Ended). output_of p code o r.steps out r.named of_tree.stands r.machine r.source (subst (λ w. Plays r.source code o w r.steps out r.named) e r.plays) in
    let trapped = λ (kind : TrapKind) (s : ℕ) (e : r.why ≡ ending.Trap kind s). trap_of p code o r.steps out r.named of_tree.stands r.machine r.source kind s (subst (λ w. Plays r.source code o w r.steps out r.named) e r.plays) in
    subst (λ s. IsEndOf o.choice p s out) (sym r.is_status)
    (told_so o.choice p r.why m out ended trapped (comes_so tree code of_tree o r.machine room r.why r.steps out r.named o.choice schedule r.source r.chooses r.plays))

-- ---- one text

-- a text whose one reason for no code this is has no tree whose forms all have code
not_refused : (text : List ℕ) (tree : Tree) (why : RefusalKind) (at : Pos) → IsTreeOf text tree → unbuilt_of tree ≡ None → IsOnlyRefusal text why at → ⊥
not_refused text tree why at is built only = let first = only.unbuilt tree is in let found = first.2 in cc

run_completes : (options : Options) (file text : List ℕ) (schedule : Option (List ℕ)) (status : Status) (out err : List ℕ) → Judges (Run options file) text schedule status out err → Completes (Run options file) text status out
run_completes options file text schedule status out err (NoCode r) tree is built room = absurd (not_refused text tree r.why.0 r.at is built r.why.3)
run_completes options file text schedule status out err (Executed o same code stands h sourced) tree is built room =
    let one : tree ≡ stands.0 = stands.3.once tree is in
    let of_tree : IsCodeOf tree code = subst (λ t. IsCodeOf t code) (sym one) stands.2 in
    let options_are : o ≡ options = cc in
    executed_ends tree code of_tree options schedule status out err (subst (λ o. Executes o code schedule status out err) options_are h) room
run_completes options file text schedule status out err (Written none code stands h) tree is built room = absurd cc

compile_completes : (file text : List ℕ) (schedule : Option (List ℕ)) (status : Status) (out err : List ℕ) → Judges (Compile file) text schedule status out err → Completes (Compile file) text status out
compile_completes file text schedule status out err (NoCode r) tree is built = absurd (not_refused text tree r.why.0 r.at is built r.why.3)
compile_completes file text schedule status out err (Executed o same code stands h sourced) tree is built = absurd cc
compile_completes file text schedule status out err (Written none code stands h) tree is built = h.is_status

pub completes : (c : Command) (text : List ℕ) (schedule : Option (List ℕ)) (status : Status) (out err : List ℕ) → Judges c text schedule status out err → Completes c text status out
completes (Run options file) text schedule status out err h = run_completes options file text schedule status out err h
completes (Compile file) text schedule status out err h = compile_completes file text schedule status out err h
completes (Exec options file) text schedule status out err h = tt
