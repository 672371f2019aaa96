-- The output of compiled code whose streams have all ended is that of a source run, and compiled code that traps has a source run that traps.
use Rattle.std.proofs.Common.{◌≡◌, ◌≤◌, ℕ, List, [], ◌∷◌, ◌++◌, Bool, true, false, Option, Some, length, inl, inr, refl, sym, ap, ◌∙◌, subst}
use Rattle.std.specs.Prelude.{nat_lt}
use Rattle.xc_sched.specs.Choices.{PicksInTurn, PicksBySeed, PicksNext}
use Rattle.xc_meaning_terms.specs.Terms.{Program}
use Rattle.xc_meaning_trees.specs.Trees.{program_of}
use Rattle.xc_gen_promises.specs.Promises as promises
use Rattle.xc_isa.specs.declared.code.Code.{Code}
use Rattle.xc_isa.specs.declared.instr.TrapKind.{TrapKind}
use Rattle.xc_isa.specs.Machine as machine
use Rattle.xc_isa.specs.Machine.{State, start, step}
use Rattle.xc_isa.specs.Runs.{Trap as Traps, run, onward}
use Rattle.xc_gen_promises.specs.Promises.{IsMachine}
use Rattle.xc_machine.specs.declared.run.End.{End}
use Rattle.xc_machine.specs.declared.run.End.TheVariants as end
use Rattle.xc_machine.specs.Limits.{Limits}
use Rattle.xc_machine.specs.Runs.{Follows, Ends}
use Rattle.xc_machine.proofs.RunLaws.{follows_run}
use Rattle.xc_top_words.specs.declared.command.Options.{Options}
use Rattle.xc_top_words.specs.declared.command.Command.{Command}
use Rattle.xc_top_words.specs.declared.command.Command.TheVariants.{Run, Exec, Compile}
use Rattle.xc_machine_play.specs.declared.source.Source.{Source}
use Rattle.xc_machine_play.specs.declared.source.Source.TheVariants.{Turns, Seed, Schedule}
use Rattle.xc_machine_play.specs.declared.outcome.Ending.{Ending}
use Rattle.xc_machine_play.specs.declared.outcome.Ending.TheVariants as ending
use Rattle.xc_machine_play.specs.Plays.{ending_of, limits_in, PlaysBy, Plays}
use Rattle.xc_top.specs.declared.status.Numbers.{Numbers}
use Rattle.xc_top.specs.declared.status.Shown.{Shown}
use Rattle.xc_top.specs.declared.status.TrapShown.{TrapShown}
use Rattle.xc_top.specs.declared.status.Status.{Status}
use Rattle.xc_top.specs.declared.status.Status.TheVariants.{Ok, ReadFault, WriteFault, Usage, Long, Refused, Trap, Unfinished, Stuck, BadSchedule, WordsFull, OutFull, NoMemory}
use Rattle.xc_top.specs.Judges.{IsSourceCode, StandsFor, IsSourceOutput, HasSourceTrap, IsSourced, status_of, Executes, NoSchedule, WasRun}

-- ---- how the machine's run ended

-- only the end of all streams is told so
ended_is : (e : End) (left : Bool) → ending_of e left ≡ Some ending.Ended → e ≡ end.Ended
ended_is end.Ended left h = refl
ended_is end.Stuck left h = absurd cc
ended_is end.Unfinished left h = absurd cc
ended_is (end.BadChoice k) left h = absurd cc
ended_is (end.Trap kind s) left h = absurd cc
ended_is (end.WordsFull live asked) left h = absurd cc
ended_is (end.OutFull len piece) left h = absurd cc
ended_is end.NoMemory left h = absurd cc

-- only a trap is told so
trap_is : (e : End) (left : Bool) (kind : TrapKind) (s : ℕ) → ending_of e left ≡ Some (ending.Trap kind s) → e ≡ end.Trap kind s
trap_is end.Ended true kind s h = absurd cc
trap_is end.Ended false kind s h = absurd cc
trap_is end.Stuck left kind s h = absurd cc
trap_is end.Unfinished left kind s h = absurd cc
trap_is (end.BadChoice k) left kind s h = absurd cc
trap_is (end.Trap k t) left kind s h = cc
trap_is (end.WordsFull live asked) left kind s h = absurd cc
trap_is (end.OutFull len piece) left kind s h = absurd cc
trap_is end.NoMemory left kind s h = absurd cc

-- a run goes on to the trap of its next step
run_traps : {C : Type 0} (picks : C → List ℕ → Option ℕ → C → Type 0) (code : Code) (limits : Limits) (c : C) (st : State) (ss : List ℕ) (d : C) (new : State) (s : ℕ) (kind : TrapKind)
    → Follows picks code limits c st ss d new → step code s new ≡ machine.Trap kind → run code (ss ++ s ∷ []) st ≡ Traps kind
run_traps picks code limits c st [] d new s kind f e = ap (λ x. run code (s ∷ []) x) f.1 ∙ ap (λ a. onward a [] (run code [])) e
run_traps picks code limits c st (t ∷ ss) d new s kind f e =
    ap (λ a. onward a (ss ++ s ∷ []) (run code (ss ++ s ∷ []))) f.3.0 ∙ run_traps picks code limits f.0 f.1 ss d new s kind f.4 e

-- ---- what a run has of a source run, by what chooses its streams

module _ {C : Type 0} (picks : C → List ℕ → Option ℕ → C → Type 0) (has_left : C → Bool) (c : C) (p : Program) (code : Code) (o : Options) (steps : ℕ) (out named : List ℕ) (code_stands : promises.StandsFor p code) (machine : IsMachine o.processors o.streams) where
  output_by : PlaysBy picks has_left c code o ending.Ended steps out named → IsSourceOutput p out
  output_by (inl big) = absurd (let bad = big.told in cc)
  output_by (inr both) =
      let h = both.1 in
      let r = h.run in
      let is = ended_is h.end (has_left h.after) h.told in
      let quit = (subst (λ e. Ends picks code (limits_in o) o.steps (length r.streams) r.last h.last h.after e) is r.ends).0 in
      let s = code_stands.ends o.processors o.streams r.streams h.last (machine, follows_run picks code (limits_in o) c (start code o.processors o.streams) r.streams r.last h.last r.follows) quit in
      (s.0, s.1, s.2, s.3, s.4.0 ∙ sym h.printed)

  trap_by : (kind : TrapKind) (s : ℕ) → PlaysBy picks has_left c code o (ending.Trap kind s) steps out named → HasSourceTrap p
  trap_by kind s (inl big) = absurd (let bad = big.told in cc)
  trap_by kind s (inr both) =
      let h = both.1 in
      let r = h.run in
      let is = trap_is h.end (has_left h.after) kind s h.told in
      let traps = (subst (λ e. Ends picks code (limits_in o) o.steps (length r.streams) r.last h.last h.after e) is r.ends).1 in
      code_stands.traps o.processors o.streams (r.streams ++ s ∷ []) kind (machine, run_traps picks code (limits_in o) c (start code o.processors o.streams) r.streams r.last h.last s kind r.follows traps)

module _ (p : Program) (code : Code) (o : Options) (steps : ℕ) (out named : List ℕ) (code_stands : promises.StandsFor p code) (machine : IsMachine o.processors o.streams) where
  pub output_of : (source : Source) → Plays source code o ending.Ended steps out named → IsSourceOutput p out
  output_of Turns h = output_by PicksInTurn (λ (from : ℕ). false) 0 p code o steps out named code_stands machine h
  output_of (Seed n) h = output_by PicksBySeed (λ (x : ℕ). false) n p code o steps out named code_stands machine h
  output_of (Schedule entries) h = output_by PicksNext (λ (left : List ℕ). nat_lt 0 (length left)) entries p code o steps out named code_stands machine h

  pub trap_of : (source : Source) (kind : TrapKind) (s : ℕ) → Plays source code o (ending.Trap kind s) steps out named → HasSourceTrap p
  trap_of Turns kind s h = trap_by PicksInTurn (λ (from : ℕ). false) 0 p code o steps out named code_stands machine kind s h
  trap_of (Seed n) kind s h = trap_by PicksBySeed (λ (x : ℕ). false) n p code o steps out named code_stands machine kind s h
  trap_of (Schedule entries) kind s h = trap_by PicksNext (λ (left : List ℕ). nat_lt 0 (length left)) entries p code o steps out named code_stands machine kind s h

-- ---- what a status says of the run

-- the status of no other end is Ok
ended_told : (why : Ending) (shown : Shown) (m : Numbers) → Ok shown ≡ status_of why m → why ≡ ending.Ended
ended_told ending.Ended shown m h = refl
ended_told ending.Left shown m h = absurd cc
ended_told ending.Stuck shown m h = absurd cc
ended_told ending.Unfinished shown m h = absurd cc
ended_told ending.BadChoice shown m h = absurd cc
ended_told (ending.Trap kind s) shown m h = absurd cc
ended_told (ending.WordsFull live asked) shown m h = absurd cc
ended_told (ending.OutFull len piece) shown m h = absurd cc

-- nor is it Trap
trap_told : (why : Ending) (shown : Option TrapShown) (m : Numbers) → Trap shown ≡ status_of why m → (kind : TrapKind) × (s : ℕ) × (why ≡ ending.Trap kind s)
trap_told ending.Ended shown m h = absurd cc
trap_told ending.Left shown m h = absurd cc
trap_told ending.Stuck shown m h = absurd cc
trap_told ending.Unfinished shown m h = absurd cc
trap_told ending.BadChoice shown m h = absurd cc
trap_told (ending.Trap kind s) shown m h = (kind, s, refl)
trap_told (ending.WordsFull live asked) shown m h = absurd cc
trap_told (ending.OutFull len piece) shown m h = absurd cc

-- ---- what was executed

ok_sourced : (p : Program) (o : Options) (code : Code) (schedule : Option (List ℕ)) (shown : Shown) (out err : List ℕ)
    → promises.StandsFor p code → Executes o code schedule (Ok shown) out err → IsSourceOutput p out
ok_sourced p o code schedule shown out err code_stands (NoSchedule r) = absurd (let is = r.is_status in cc)
ok_sourced p o code schedule shown out err code_stands (WasRun r) =
    let is = ended_told r.why shown (record { steps = r.steps; streams = o.streams; processors = o.processors }) r.is_status in
    output_of p code o r.steps out r.named code_stands r.machine r.source (subst (λ w. Plays r.source code o w r.steps out r.named) is r.plays)

trap_sourced : (p : Program) (o : Options) (code : Code) (schedule : Option (List ℕ)) (shown : Option TrapShown) (out err : List ℕ)
    → promises.StandsFor p code → Executes o code schedule (Trap shown) out err → HasSourceTrap p
trap_sourced p o code schedule shown out err code_stands (NoSchedule r) = absurd (let is = r.is_status in cc)
trap_sourced p o code schedule shown out err code_stands (WasRun r) =
    let t = trap_told r.why shown (record { steps = r.steps; streams = o.streams; processors = o.processors }) r.is_status in
    trap_of p code o r.steps out r.named code_stands r.machine r.source t.0 t.1 (subst (λ w. Plays r.source code o w r.steps out r.named) t.2 r.plays)

ran_source : (options : Options) (file text : List ℕ) (o : Options) (code : Code) (schedule : Option (List ℕ)) (status : Status) (out err : List ℕ)
    → IsSourceCode text code → Executes o code schedule status out err → IsSourced (Run options file) text status out
ran_source options file text o code schedule (Ok shown) out err stands h = (stands.0, stands.1, ok_sourced (program_of stands.0) o code schedule shown out err stands.2.stands h)
ran_source options file text o code schedule (Trap shown) out err stands h = (stands.0, stands.1, trap_sourced (program_of stands.0) o code schedule shown out err stands.2.stands h)
ran_source options file text o code schedule (ReadFault name) out err stands h = tt
ran_source options file text o code schedule WriteFault out err stands h = tt
ran_source options file text o code schedule Usage out err stands h = tt
ran_source options file text o code schedule (Long name) out err stands h = tt
ran_source options file text o code schedule (Refused name kind at) out err stands h = tt
ran_source options file text o code schedule (Unfinished n) out err stands h = tt
ran_source options file text o code schedule (Stuck n) out err stands h = tt
ran_source options file text o code schedule (BadSchedule bad) out err stands h = tt
ran_source options file text o code schedule (WordsFull live asked n) out err stands h = tt
ran_source options file text o code schedule (OutFull len piece n) out err stands h = tt
ran_source options file text o code schedule NoMemory out err stands h = tt

pub sourced : (c : Command) (text : List ℕ) (o : Options) (code : Code) (schedule : Option (List ℕ)) (status : Status) (out err : List ℕ)
    → StandsFor c text code → Executes o code schedule status out err → IsSourced c text status out
sourced (Run options file) text o code schedule status out err stands h = ran_source options file text o code schedule status out err stands h
sourced (Exec options file) text o code schedule status out err stands h = tt
sourced (Compile file) text o code schedule status out err stands h = tt
