-- Why the top call answers as it does, and what it writes.
use Rattle.std.specs.Prelude.{◌≡◌, ◌≢◌, ◌⊎◌, ◌<◌, ◌≤◌, ◌+◌, ◌^◌, ℕ, List, [], Option, Some, None, length, IsSome}
use Rattle.xc_edge.specs.Counts.{Rises}
use Rattle.xc_tree.specs.declared.tree.Tree.{Tree}
use Rattle.xc_meaning.specs.Terms as straight
use Rattle.xc_meaning_terms.specs.Terms.{Program}
use Rattle.xc_gen.specs.Unbuilt.{unbuilt_of}
use Rattle.xc_driver.specs.Compiles.{IsTreeOf}
use Rattle.xc_top_words.specs.declared.command.Options.{Options}
use Rattle.xc_top_words.specs.declared.command.Command.{Command}
use Rattle.xc_top_words.specs.declared.command.Command.TheVariants.{Run, Exec, Compile}
use Rattle.xc_top_words.specs.Commands.{file_in, schedule_in, schedule_of}
use Rattle.xc_top.specs.declared.status.Shown.{Shown}
use Rattle.xc_top.specs.declared.status.Status.{Status}
use Rattle.xc_top.specs.declared.status.Status.TheVariants.{Ok, ReadFault, WriteFault, Usage, Long, Trap, NoMemory}
use Rattle.xc_top.specs.Lines.{line_of}
use Rattle.xc_top.specs.Seen.{Counts, ShelfSeen, until, since, SinkSeen, Told, Untouched, Whole, Part, Puts}
use Rattle.xc_top.specs.Judges.{IsSourceOutput, HasSourceTrap, Judges}
use Rattle.xc_top.specs.Completes.{HasRoom, Completes}

-- a source has at most 1 MiB
abbrev pub source_limit : ℕ
source_limit = 2 ^ 20

-- assembly and a schedule have at most 64 MiB
abbrev pub text_limit : ℕ
text_limit = 2 ^ 26

abbrev pub limit_in : Command → ℕ
limit_in (Run options file) = source_limit
limit_in (Compile file) = source_limit
limit_in (Exec options file) = text_limit

-- ---- one fetch

-- A fetch of a file that may have so many bytes takes at most one more; where files are told, the count of no other name changes.
pub record Fetches (name : List ℕ) (limit : ℕ) (shelf : ShelfSeen) : Type 0 where
  pub takes_little : shelf.after.taken ≤ shelf.before.taken + limit + 1
  pub others_kept : IsSome shelf.files → (other : List ℕ) → other ≢ name → shelf.after.faults other ≡ shelf.before.faults other

-- It gives this text, which is the file's.
pub record Has (shelf : ShelfSeen) (name : List ℕ) (limit : ℕ) (text : List ℕ) : Type 0 where
  pub fetches : Fetches name limit shelf
  pub within : length text ≤ limit
  pub told : Told shelf name (λ t. t ≡ text)

-- why it gives none: the file could not be read, or is too long
abbrev pub IsUnreadBy : List ℕ → ℕ → ShelfSeen → Status → Type 0
IsUnreadBy name limit shelf (ReadFault n) = (n ≡ name) × Rises 1 (shelf.before.faults name) (shelf.after.faults name)
IsUnreadBy name limit shelf (Long n) = (n ≡ name) × Rises (limit + 1) shelf.before.taken shelf.after.taken × Told shelf name (λ text. limit < length text)
IsUnreadBy name limit shelf _ = ⊥

-- It gives none, and this says why.
pub record IsUnreadAt (name : List ℕ) (limit : ℕ) (shelf : ShelfSeen) (status : Status) : Type 0 where
  pub fetches : Fetches name limit shelf
  pub why : IsUnreadBy name limit shelf status

-- ---- the fetches of a command: FILE is fetched first, then the schedule, where one is named, and nothing else

-- the schedule's text; where none is named, nothing is fetched
abbrev pub HasSchedule : ShelfSeen → Option (List ℕ) → Option (List ℕ) → Type 0
HasSchedule shelf None schedule = (schedule ≡ None) × (shelf.after ≡ shelf.before)
HasSchedule shelf (Some name) None = ⊥
HasSchedule shelf (Some name) (Some text) = Has shelf name text_limit text

-- Both are read, one after the other.
pub record AreRead (c : Command) (shelf : ShelfSeen) (text : List ℕ) (schedule : Option (List ℕ)) : Type 0 where
  pub between : Counts
  pub first : Has (until between shelf) (file_in c) (limit_in c) text
  pub second : HasSchedule (since between shelf) (schedule_of c) schedule

-- The first that is not read decides, and after it nothing is fetched.
pub data IsUnread (c : Command) (shelf : ShelfSeen) (status : Status) : Type 0 where
  FileUnread : IsUnreadAt (file_in c) (limit_in c) shelf status → IsUnread c shelf status
  ScheduleUnread : (between : Counts) (text : List ℕ) → Has (until between shelf) (file_in c) (limit_in c) text
      → (name : List ℕ) → schedule_of c ≡ Some name → IsUnreadAt name text_limit (since between shelf) status → IsUnread c shelf status

-- what may have been fetched when memory is used up
pub data MayHaveFetched (command : Option Command) (shelf : ShelfSeen) : Type 0 where
  Nothing : shelf.after ≡ shelf.before → MayHaveFetched command shelf
  File : (c : Command) → command ≡ Some c → Fetches (file_in c) (limit_in c) shelf → MayHaveFetched command shelf
  Both : (c : Command) → command ≡ Some c → (between : Counts) (text : List ℕ) → Has (until between shelf) (file_in c) (limit_in c) text
      → (name : List ℕ) → schedule_of c ≡ Some name → Fetches name text_limit (since between shelf) → MayHaveFetched command shelf

-- ---- causes

-- Why a status is the answer, and what goes to out and to err.
pub data Cause (command : Option Command) (shelf : ShelfSeen) (status : Status) (out err : List ℕ) : Type 0 where
  NoCommand : command ≡ None → status ≡ Usage → out ≡ [] → err ≡ line_of status → Cause command shelf status out err
  NotRead : (c : Command) → command ≡ Some c → IsUnread c shelf status → out ≡ [] → err ≡ line_of status → Cause command shelf status out err
  Judged : (c : Command) → command ≡ Some c → (text : List ℕ) (schedule : Option (List ℕ)) → AreRead c shelf text schedule
      → Judges c text schedule status out err → Completes c text status out → Cause command shelf status out err

-- ---- answers

-- the work is done: out is written before err, a failed put is the answer, and after it nothing more is put
abbrev pub Finishes : Shown → List ℕ → List ℕ → SinkSeen → SinkSeen → Status → Type 0
Finishes shown o e out err status =
    ((status ≡ Ok shown) × Whole o out × Whole e err) ⊎ ((status ≡ WriteFault) × ((Part o out × Untouched err) ⊎ (Whole o out × Part e err)))

-- Ok needs that all is written; any other status stands, and after a failed put nothing more goes to that sink
abbrev pub Writes : Status → List ℕ → List ℕ → SinkSeen → SinkSeen → Status → Type 0
Writes (Ok shown) o e out err status = Finishes shown o e out err status
Writes planned o e out err status = (status ≡ planned) × Puts o out × Puts e err

-- What an answer tells: why it came and what was written; want of memory comes before the first put.
abbrev pub Tells : Option Command → ShelfSeen → SinkSeen → SinkSeen → Status → Type 0
Tells command shelf out err status =
    ((status ≡ NoMemory) × MayHaveFetched command shelf × Untouched out × Puts (line_of NoMemory) err)
    ⊎ ((planned : Status) × (o : List ℕ) × (e : List ℕ) × Cause command shelf planned o e × Writes planned o e out err status)

-- ---- programs that run to an end

-- A `run` without a schedule of a text with this tree, whose forms all have code, with room for its program. Files are told, this
-- one is fetched, and what is put is written.
pub record CanRun (command : Option Command) (shelf : ShelfSeen) (out err : SinkSeen) (tree : Tree) : Type 0 where
  pub options : Options
  pub file : List ℕ
  pub is_run : command ≡ Some (Run options file)
  pub unscheduled : schedule_in options.choice ≡ None
  pub files : List ℕ → Option (List ℕ)
  pub are_told : shelf.files ≡ Some files
  pub text : List ℕ
  pub is_there : files file ≡ Some text
  pub short : length text ≤ source_limit
  pub is_tree : IsTreeOf text tree
  pub built : unbuilt_of tree ≡ None
  pub room : HasRoom options (straight.program_of tree)
  pub fetched : Rises 1 (shelf.before.faults file) (shelf.after.faults file) → ⊥
  pub out_written : Rises 1 out.faults_before out.faults_after → ⊥
  pub err_written : Rises 1 err.faults_before err.faults_after → ⊥

-- The answer to it: the whole output of a source run that has ended is written; or a source run traps; or memory is used up.
abbrev pub IsRunToEnd : Program → SinkSeen → Status → Type 0
IsRunToEnd p out (Ok shown) = (o : List ℕ) × IsSourceOutput p o × Whole o out
IsRunToEnd p out (Trap shown) = HasSourceTrap p
IsRunToEnd p out NoMemory = Unit {0}
IsRunToEnd p out _ = ⊥
