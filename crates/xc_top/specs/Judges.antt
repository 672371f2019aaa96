-- What a command answers to the texts of its files.
use Rattle.std.specs.Prelude.{◌≡◌, ◌≤◌, ℕ, List, [], ◌++◌, Option, Some, None}
use Rattle.xc_meaning_world.specs.World.{World}
use Rattle.xc_text_place.specs.declared.Pos.{Pos}
use Rattle.xc_tree.specs.declared.tree.Tree.{Tree}
use Rattle.xc_meaning_terms.specs.Terms.{Program}
use Rattle.xc_meaning_threads.specs.Events.{Event}
use Rattle.xc_meaning_source.specs.Source.{SourceRun, HasEnded, HasTrapped}
use Rattle.xc_meaning_trees.specs.Trees.{program_of}
use Rattle.xc_isa.specs.declared.code.Code.{Code}
use Rattle.xc_gen_promises.specs.Promises.{IsMachine}
use Rattle.xc_driver.specs.declared.fault.RefusalKind.{RefusalKind}
use Rattle.xc_driver.specs.declared.fault.RefusalKind.TheVariants as refusal
use Rattle.xc_driver.specs.Compiles.{IsTreeOf, IsCodeOf, IsOnlyTree, IsRefusal, IsOnlyRefusal}
use Rattle.xc_text_lines.specs.Grammar.{IsFirstBad}
use Rattle.xc_isa_text.specs.Texts.{contents_of, Spells as SpellsCode, IsAssembly}
use Rattle.xc_sched.specs.Runs.{IsRead, IsSchedule}
use Rattle.xc_top_words.specs.declared.command.Choice.{Choice}
use Rattle.xc_top_words.specs.declared.command.Choice.TheVariants as choice
use Rattle.xc_top_words.specs.declared.command.Options.{Options}
use Rattle.xc_top_words.specs.declared.command.Command.{Command}
use Rattle.xc_top_words.specs.declared.command.Command.TheVariants.{Run, Exec, Compile}
use Rattle.xc_top_words.specs.Commands.{file_in, options_in}
use Rattle.xc_machine_play.specs.declared.source.Source.{Source}
use Rattle.xc_machine_play.specs.declared.source.Source.TheVariants as source
use Rattle.xc_machine_play.specs.declared.outcome.Ending.{Ending}
use Rattle.xc_machine_play.specs.declared.outcome.Ending.TheVariants as ending
use Rattle.xc_machine_play.specs.Plays.{Plays, IsRecord}
use Rattle.xc_top.specs.declared.status.FileKind.{FileKind}
use Rattle.xc_top.specs.declared.status.FileKind.TheVariants.{Lex, Syntax, Depth, Name, Typing, Count, Asm, Unbuilt}
use Rattle.xc_top.specs.declared.status.Numbers.{Numbers}
use Rattle.xc_top.specs.declared.status.Shown.TheVariants.{Ran, Nothing}
use Rattle.xc_top.specs.declared.status.Bad.TheVariants.{Line, Entry}
use Rattle.xc_top.specs.declared.status.Status.{Status}
use Rattle.xc_top.specs.declared.status.Status.TheVariants.{Ok, Refused, Trap, Unfinished, Stuck, BadSchedule, WordsFull, OutFull}
use Rattle.xc_top.specs.Lines.{line_of}

-- the code of a source's one typed tree, whose runs stand for source runs of its program; it ends in time and is never stuck
abbrev pub IsSourceCode : List ℕ → Code → Type 0
IsSourceCode text code = (tree : Tree) × IsTreeOf text tree × IsCodeOf tree code × IsOnlyTree text tree

-- the code that a file's text stands for: a source's, or the assembly's
abbrev pub StandsFor : Command → List ℕ → Code → Type 0
StandsFor (Run options file) text code = IsSourceCode text code
StandsFor (Compile file) text code = IsSourceCode text code
StandsFor (Exec options file) text code = SpellsCode text (contents_of code)

-- how the reason why a source has no code is told
abbrev pub kind_of : RefusalKind → FileKind
kind_of refusal.Lex = Lex
kind_of refusal.Syntax = Syntax
kind_of refusal.Depth = Depth
kind_of refusal.Name = Name
kind_of refusal.Typing = Typing
kind_of refusal.Count = Count
kind_of refusal.Unbuilt = Unbuilt

-- why a source has no code, and where; there is no other reason
abbrev pub IsRefusedSource : List ℕ → FileKind → Pos → Type 0
IsRefusedSource text kind at = (why : RefusalKind) × (kind ≡ kind_of why) × IsRefusal text why at × IsOnlyRefusal text why at

-- why a text is no assembly: its first bad line
abbrev pub IsRefusedCode : List ℕ → FileKind → Pos → Type 0
IsRefusedCode text kind at = (kind ≡ Asm) × IsFirstBad IsAssembly text at.line × (at.col ≡ 1)

-- why a file's text stands for no code, and where
abbrev pub IsRefused : Command → List ℕ → FileKind → Pos → Type 0
IsRefused (Run options file) text kind at = IsRefusedSource text kind at
IsRefused (Compile file) text kind at = IsRefusedSource text kind at
IsRefused (Exec options file) text kind at = IsRefusedCode text kind at

-- what chooses the streams, the schedule's text being this
abbrev pub Chooses : Choice → Option (List ℕ) → Source → Type 0
Chooses choice.Turns schedule s = s ≡ source.Turns
Chooses (choice.Seed n) schedule s = s ≡ source.Seed n
Chooses (choice.Schedule file) None s = ⊥
Chooses (choice.Schedule file) (Some text) s = (steps : List ℕ) × IsRead text steps × (s ≡ source.Schedule steps)

-- line k is the first bad one of a schedule's text
abbrev pub IsBadSchedule : Choice → Option (List ℕ) → List ℕ → ℕ → Type 0
IsBadSchedule choice.Turns schedule name k = ⊥
IsBadSchedule (choice.Seed n) schedule name k = ⊥
IsBadSchedule (choice.Schedule file) None name k = ⊥
IsBadSchedule (choice.Schedule file) (Some text) name k = (name ≡ file) × IsFirstBad IsSchedule text k

-- the status of a run that ended so
abbrev pub status_of : Ending → Numbers → Status
status_of ending.Ended n = Ok (Ran n)
status_of ending.Left n = BadSchedule (Entry n.steps n)
status_of ending.Stuck n = Stuck n
status_of ending.Unfinished n = Unfinished (Some n)
status_of ending.BadChoice n = BadSchedule (Entry n.steps n)
status_of (ending.Trap kind stream) n = Trap (Some (record { kind = kind; stream = stream; numbers = n }))
status_of (ending.WordsFull live asked) n = WordsFull live asked n
status_of (ending.OutFull len piece) n = OutFull len piece n

-- the choices go to err after the line, where they are wanted
abbrev pub with_choices : List ℕ → Option (List ℕ) → List ℕ
with_choices line None = line
with_choices line (Some choices) = line ++ choices

-- a source run of the program that has ended has this output
abbrev pub IsSourceOutput : Program → List ℕ → Type 0
IsSourceOutput p out = (events : List (ℕ × Event)) × (w : World) × SourceRun p events w × HasEnded p events × (w.out ≡ out)

-- a source run of the program has trapped
abbrev pub HasSourceTrap : Program → Type 0
HasSourceTrap p = (events : List (ℕ × Event)) × (w : World) × SourceRun p events w × HasTrapped events

-- where a compiled program was run to its end, its output is that of a source run; where it trapped, a source run traps
abbrev pub IsSourced : Command → List ℕ → Status → List ℕ → Type 0
IsSourced (Run options file) text (Ok shown) out = (tree : Tree) × IsTreeOf text tree × IsSourceOutput (program_of tree) out
IsSourced (Run options file) text (Trap shown) out = (tree : Tree) × IsTreeOf text tree × HasSourceTrap (program_of tree)
IsSourced (Run options file) text _ out = Unit {0}
IsSourced (Exec options file) text status out = Unit {0}
IsSourced (Compile file) text status out = Unit {0}

-- The code was run as these options say: what goes to out and to err.
pub record IsRun (o : Options) (code : Code) (schedule : Option (List ℕ)) (status : Status) (out err : List ℕ) : Type 0 where
  pub source : Source
  pub chooses : Chooses o.choice schedule source
  -- on 1 to 64 processors of 1 to 128 streams each
  pub machine : IsMachine o.processors o.streams
  pub why : Ending
  pub steps : ℕ
  pub named : List ℕ
  pub plays : Plays source code o why steps out named
  pub is_status : status ≡ status_of why (record { steps = steps; streams = o.streams; processors = o.processors })
  pub choices : Option (List ℕ)
  pub is_record : IsRecord o.recorded named choices
  pub says : err ≡ with_choices (line_of status) choices

-- the schedule's text is none
pub record IsNoSchedule (o : Options) (schedule : Option (List ℕ)) (status : Status) (out err : List ℕ) : Type 0 where
  pub name : List ℕ
  pub line : ℕ
  pub why : IsBadSchedule o.choice schedule name line
  pub is_status : status ≡ BadSchedule (Line name line)
  pub silent : out ≡ []
  pub says : err ≡ line_of status

-- what comes of code that is run as these options say
pub data Executes (o : Options) (code : Code) (schedule : Option (List ℕ)) (status : Status) (out err : List ℕ) : Type 0 where
  NoSchedule : IsNoSchedule o schedule status out err → Executes o code schedule status out err
  WasRun : IsRun o code schedule status out err → Executes o code schedule status out err

-- the code's assembly goes to out
pub record IsWritten (code : Code) (status : Status) (out err : List ℕ) : Type 0 where
  pub spells : SpellsCode out (contents_of code)
  pub is_status : status ≡ Ok Nothing
  pub silent : err ≡ []

-- the text stands for no code
pub record IsNoCode (c : Command) (text : List ℕ) (status : Status) (out err : List ℕ) : Type 0 where
  pub kind : FileKind
  pub at : Pos
  pub why : IsRefused c text kind at
  pub is_status : status ≡ Refused (file_in c) kind at
  pub silent : out ≡ []
  pub says : err ≡ line_of status

-- What the texts decide.
pub data Judges (c : Command) (text : List ℕ) (schedule : Option (List ℕ)) (status : Status) (out err : List ℕ) : Type 0 where
  NoCode : IsNoCode c text status out err → Judges c text schedule status out err
  Executed : (o : Options) → options_in c ≡ Some o → (code : Code) → StandsFor c text code → Executes o code schedule status out err
      → IsSourced c text status out → Judges c text schedule status out err
  Written : options_in c ≡ None → (code : Code) → StandsFor c text code → IsWritten code status out err → Judges c text schedule status out err
