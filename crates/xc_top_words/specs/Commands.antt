-- What a command names.
use Rattle.std.specs.Prelude.{ℕ, List, Option, Some, None}
use Rattle.xc_top_words.specs.declared.command.Choice.{Choice}
use Rattle.xc_top_words.specs.declared.command.Choice.TheVariants.{Turns, Seed, Schedule}
use Rattle.xc_top_words.specs.declared.command.Options.{Options}
use Rattle.xc_top_words.specs.declared.command.Command.{Command}
use Rattle.xc_top_words.specs.declared.command.Command.TheVariants.{Run, Exec, Compile}

-- the file that is run or compiled
abbrev pub file_in : Command → List ℕ
file_in (Run options file) = file
file_in (Exec options file) = file
file_in (Compile file) = file

-- how it is run, where it is
abbrev pub options_in : Command → Option Options
options_in (Run options file) = Some options
options_in (Exec options file) = Some options
options_in (Compile file) = None

-- the file of a schedule, where one is named
abbrev pub schedule_in : Choice → Option (List ℕ)
schedule_in Turns = None
schedule_in (Seed n) = None
schedule_in (Schedule file) = Some file

-- the same of a command
abbrev pub schedule_of : Command → Option (List ℕ)
schedule_of (Run options file) = schedule_in options.choice
schedule_of (Exec options file) = schedule_in options.choice
schedule_of (Compile file) = None
