-- The command line: `run [OPTIONS] FILE`, `exec [OPTIONS] FILE` and `compile FILE`. The first word is the command; the others are
-- the arguments of a simple command of `clap`, whose own definitions say which words it takes and what they give. By them an option
-- may stand before or behind the file, `--` ends the options, and each other word that begins with a minus sign and is more than that
-- has to be an option; so no value does but behind `=`.
use Rattle.std.specs.Prelude.{ℕ, ◌^◌, ◌&&◌, Bool, true, false, codes, List, [], ◌∷◌, ◌++◌, map, Option, Some, None, nat_le, if◌then◌else◌}
use Rattle.std.specs.Option.{option_map, option_and_then, option_zip}
use Rattle.std.specs.Str.{bytes_eq}
use Rattle.clap.specs.Words.{App, Kinds, Row, Rule, Text, fault_of, first_of, matches_of, new_rule}
use Rattle.clap.specs.Simple.{new_shape}
use Rattle.clap.specs.declared.builder.action.ArgAction.TheVariants.{SetTrue}
use Rattle.xc_text_lines.specs.Numbers.{number_of}
use Rattle.xc_top_words.specs.declared.command.Choice.{Choice}
use Rattle.xc_top_words.specs.declared.command.Choice.TheVariants.{Turns, Seed, Schedule}
use Rattle.xc_top_words.specs.declared.command.Options.{Options}
use Rattle.xc_top_words.specs.declared.command.Command.{Command}
use Rattle.xc_top_words.specs.declared.command.Command.TheVariants.{Run, Exec, Compile}

-- ---- arguments

-- `--name VALUE` or `--name=VALUE`, at most once
abbrev pub option : Text → Rule
option name = record (new_rule name) { long = Some name }

-- `--name`, at most once
abbrev pub flag : Text → Rule
flag name = record (new_rule name) { long = Some name; action = Some SetTrue }

-- the one word that is neither an option nor its value
abbrev pub file : Rule
file = record (new_rule (codes "file")) { required = true }

-- the words are all arguments, and none asks for help
abbrev pub line_of : List Rule → App
line_of rules = record { top = record (new_shape (codes "xmtc")) { no_binary_name = true; disable_help_flag = true; rules = rules }; subs = [] }

-- the options of a run that have a value
abbrev pub option_names : List Text
option_names = codes "processors" ∷ codes "streams" ∷ codes "seed" ∷ codes "schedule" ∷ codes "steps" ∷ codes "words" ∷ codes "out" ∷ []

unfoldable pub run_line : App
run_line = line_of (map option option_names ++ flag (codes "record") ∷ file ∷ [])

unfoldable pub compile_line : App
compile_line = line_of (file ∷ [])

-- none where there is a fault
abbrev pub unless : Kinds → List Row → Option (List Row)
unless [] rows = Some rows
unless (fault ∷ faults) rows = None

-- what the words give the arguments; none where `clap` finds a fault in them
unfoldable pub rows_of_words : App → List Text → Option (List Row)
rows_of_words line ws = unless (fault_of line ws) (matches_of line ws)

-- the value that is given for a name
unfoldable pub value_in : Text → List Row → Option Text
value_in name rows = first_of name rows

-- ---- values

-- the number from a least one to a greatest one that a value spells in decimal, with no zero in front
abbrev pub number_from : ℕ → ℕ → Text → Option ℕ
number_from low high v = option_and_then (λ n. if nat_le low n && nat_le n high then Some n else None) (number_of (2 ^ 64) v)

-- a name is not empty
abbrev pub name_of : Text → Option Text
name_of [] = None
name_of (b ∷ bs) = Some (b ∷ bs)

-- what the value spells; the default where none is given
abbrev pub number_or : ℕ → (Text → Option ℕ) → Option Text → Option ℕ
number_or default spelled None = Some default
number_or default spelled (Some v) = spelled v

-- by a seed or by a schedule, not by both
abbrev pub choice_of : Option Text → Option Text → Option Choice
choice_of None None = Some Turns
choice_of (Some seed) None = option_map (λ n. Seed n) (number_of (2 ^ 64) seed)
choice_of None (Some schedule) = option_map (λ f. Schedule f) (name_of schedule)
choice_of (Some seed) (Some schedule) = None

abbrev pub choice_in : List Row → Option Choice
choice_in rows = choice_of (value_in (codes "seed") rows) (value_in (codes "schedule") rows)

-- a flag that is given has the value `true`, and else `false`
abbrev pub is_given : Option Text → Bool
is_given None = false
is_given (Some v) = bytes_eq v (codes "true")

-- ---- commands

-- none where one of them is none
abbrev pub options_from : Option ℕ → Option ℕ → Option ℕ → Option ℕ → Option ℕ → Option Choice → Bool → Option Options
options_from (Some processors) (Some streams) (Some steps) (Some words) (Some out) (Some choice) recorded =
    Some (record { processors = processors; streams = streams; choice = choice; steps = steps; words = words; out = out; recorded = recorded })
options_from _ _ _ _ _ _ recorded = None

abbrev pub options_of : List Row → Option Options
options_of rows = options_from
    (number_or 1 (number_from 1 64) (value_in (codes "processors") rows))
    (number_or 8 (number_from 1 128) (value_in (codes "streams") rows))
    (number_or 10000000 (number_from 0 (2 ^ 31)) (value_in (codes "steps") rows))
    (number_or (2 ^ 20) (number_from 1 (2 ^ 24)) (value_in (codes "words") rows))
    (number_or (2 ^ 20) (number_from 0 (2 ^ 20)) (value_in (codes "out") rows))
    (choice_in rows)
    (is_given (value_in (codes "record") rows))

abbrev pub file_of : List Row → Option Text
file_of rows = option_and_then name_of (value_in (codes "file") rows)

abbrev pub request_in : List Row → Option (Options × Text)
request_in rows = option_zip (options_of rows) (file_of rows)

-- the options and the file of a run
abbrev pub request_of : List Text → Option (Options × Text)
request_of ws = option_and_then request_in (rows_of_words run_line ws)

-- the file that is compiled
abbrev pub source_of : List Text → Option Text
source_of ws = option_and_then file_of (rows_of_words compile_line ws)

-- the command of the words; none: they are no command
abbrev pub command_of : List Text → Option Command
command_of [] = None
command_of (c ∷ ws) =
    if bytes_eq c (codes "run") then option_map (λ r. Run r.0 r.1) (request_of ws)
    else if bytes_eq c (codes "exec") then option_map (λ r. Exec r.0 r.1) (request_of ws)
    else if bytes_eq c (codes "compile") then option_map (λ f. Compile f) (source_of ws)
    else None
