-- Code run as options say.
use Rattle.std.specs.Prelude.{◌≡◌, ◌⊎◌, ◌<◌, ◌≤◌, ℕ, Bool, true, false, List, [], length, nat_lt, Option, Some, None, if◌then◌else◌}
use Rattle.xc_sched.specs.Choices.{PicksInTurn, PicksBySeed, PicksNext}
use Rattle.xc_sched.specs.Runs.{Spells}
use Rattle.xc_isa.specs.declared.code.Code.{Code}
use Rattle.xc_isa.specs.Machine.{State, start, live_words}
use Rattle.xc_machine.specs.declared.run.End.{End}
use Rattle.xc_machine.specs.declared.run.End.TheVariants as end
use Rattle.xc_machine.specs.Limits.{Limits}
use Rattle.xc_machine.specs.Runs.{RunsTo, named_in}
use Rattle.xc_top_words.specs.declared.command.Options.{Options}
use Rattle.xc_machine_play.specs.declared.source.Source.{Source}
use Rattle.xc_machine_play.specs.declared.source.Source.TheVariants.{Turns, Seed, Schedule}
use Rattle.xc_machine_play.specs.declared.outcome.Ending.{Ending}
use Rattle.xc_machine_play.specs.declared.outcome.Ending.TheVariants.{Ended, Left, Stuck, Unfinished, BadChoice, Trap, WordsFull, OutFull}

-- how the end of the machine's run is told, where choices are left or not; none for want of memory
abbrev pub ending_of : End → Bool → Option Ending
ending_of end.Ended left = Some (if left then Left else Ended)
ending_of end.Stuck left = Some Stuck
ending_of end.Unfinished left = Some Unfinished
ending_of (end.BadChoice k) left = Some BadChoice
ending_of (end.Trap kind s) left = Some (Trap kind s)
ending_of (end.WordsFull live asked) left = Some (WordsFull live asked)
ending_of (end.OutFull len piece) left = Some (OutFull len piece)
ending_of end.NoMemory left = None

abbrev pub limits_in : Options → Limits
limits_in o = record { words = o.words; out = o.out }

-- What comes of a machine's run by a chooser that begins as c: why it ended, its steps, what it printed and the streams that were named.
pub record Played {C : Type 0} (picks : C → List ℕ → Option ℕ → C → Type 0) (has_left : C → Bool) (c : C) (code : Code) (limits : Limits) (st : State) (limit : ℕ) (why : Ending) (steps : ℕ) (out named : List ℕ) : Type 0 where
  pub after : C
  pub last : State
  pub end : End
  pub run : RunsTo picks code limits limit c st 0 after last steps end
  pub told : ending_of end (has_left after) ≡ Some why
  pub printed : out ≡ last.world.out
  pub names : named ≡ named_in picks code limits limit c st 0 after last steps end run

-- The globals alone are too many words: nothing is run.
pub record IsTooBig (code : Code) (o : Options) (why : Ending) (steps : ℕ) (out named : List ℕ) : Type 0 where
  pub more : o.words < live_words (start code o.processors o.streams)
  pub told : why ≡ WordsFull 0 (live_words (start code o.processors o.streams))
  pub no_steps : steps ≡ 0
  pub no_output : out ≡ []
  pub no_names : named ≡ []

abbrev pub PlaysBy : {C : Type 0} → (C → List ℕ → Option ℕ → C → Type 0) → (C → Bool) → C → Code → Options → Ending → ℕ → List ℕ → List ℕ → Type 0
PlaysBy picks has_left c code o why steps out named =
    IsTooBig code o why steps out named ⊎ ((live_words (start code o.processors o.streams) ≤ o.words) × Played picks has_left c code (limits_in o) (start code o.processors o.streams) o.steps why steps out named)

-- What comes of a run of the code, by what chooses its streams.
abbrev pub Plays : Source → Code → Options → Ending → ℕ → List ℕ → List ℕ → Type 0
Plays Turns code o why steps out named = PlaysBy PicksInTurn (λ from. false) 0 code o why steps out named
Plays (Seed n) code o why steps out named = PlaysBy PicksBySeed (λ x. false) n code o why steps out named
Plays (Schedule entries) code o why steps out named = PlaysBy PicksNext (λ left. nat_lt 0 (length left)) entries code o why steps out named

-- the choices as the text of a schedule, where they are wanted
abbrev pub IsRecord : Bool → List ℕ → Option (List ℕ) → Type 0
IsRecord false named text = text ≡ None
IsRecord true named None = ⊥
IsRecord true named (Some text) = Spells text named
