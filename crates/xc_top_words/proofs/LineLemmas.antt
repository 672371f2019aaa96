-- Words as `clap` takes them.
use Rattle.std.proofs.Common.{◌≡◌, ◌≢◌, ◌<◌, ◌+◌, ◌∙◌, sym, ℕ, Bor, map, take, length, get_or, ◌≤◌, List, [], ◌∷◌, ◌++◌, Some, None, refl, ap, ap₂, true, false, inl, inr}
use Rattle.std.proofs.lemmas.List.{map_more, take_all}
use Rattle.clap.specs.Words.{AddsArg, App, HasKind, IsAmong, Kinds, Row, Rule, Text, app_of, fault_of, is_simple, is_simple_and_free, kind_of, matches_of, rule_of, with_rule}
use Rattle.clap.specs.declared.builder.arg.Arg.{Arg}
use Rattle.clap.specs.declared.builder.command.Command.{Command}
use Rattle.clap.specs.declared.error.Error.{Error}
use Rattle.clap.specs.declared.error.kind.ErrorKind.{ErrorKind}
use Rattle.clap.specs.declared.error.kind.ErrorKind.TheVariants.{OutOfMemory}
use Rattle.xc_top_words.specs.Words.{compile_line, line_of, option, rows_of_words, run_line, unless}

no_fault : (faults : Kinds) (rows : List Row) → faults ≡ [] → unless faults rows ≡ Some rows
no_fault faults rows none = ap (λ ks. unless ks rows) none

some_fault : (faults : Kinds) (rows : List Row) (k : ErrorKind) → IsAmong k faults → unless faults rows ≡ None
some_fault [] rows k among = absurd among
some_fault (fault ∷ faults) rows k among = refl

-- the words are taken
pub rows_taken : (line : App) (ws : List Text) (rows : List Row) → fault_of line ws ≡ [] → rows ≡ matches_of line ws → rows_of_words line ws ≡ Some rows
unfolding rows_of_words
rows_taken line ws rows none are = no_fault (fault_of line ws) (matches_of line ws) none ∙ ap Some (sym are)

-- the words are refused, and not for want of memory
pub rows_refused : (line : App) (ws : List Text) (e : Error) → HasKind (fault_of line ws) e → kind_of e ≢ OutOfMemory → rows_of_words line ws ≡ None
unfolding rows_of_words
rows_refused line ws e has other = elim has [
  | inl memory ↦ absurd (other memory)
  | inr among ↦ some_fault (fault_of line ws) (matches_of line ws) (kind_of e) among
]

-- both lines are commands whose parse is known exactly
pub run_line_is_simple : is_simple run_line ≡ true
unfolding run_line
run_line_is_simple = refl

pub run_line_is_free : is_simple_and_free run_line ≡ true
unfolding run_line
run_line_is_free = refl

pub compile_line_is_simple : is_simple compile_line ≡ true
unfolding compile_line
compile_line_is_simple = refl

pub compile_line_is_free : is_simple_and_free compile_line ≡ true
unfolding compile_line
compile_line_is_free = refl

-- one more argument
pub arg_added : (old : Command) (arg : Arg) (new : Command) (rules : List Rule) (rule : Rule) → app_of old ≡ line_of rules → rule_of arg ≡ rule → arg.global ≡ false → AddsArg old arg new
    → app_of new ≡ line_of (rules ++ rule ∷ [])
arg_added old arg new rules rule before is local added = added.shape local ∙ ap₂ with_rule before is

-- the option of a name
abbrev pub named : Bor Text → Rule
named name = option name.now

-- the option of the next name
pub option_added : (old new : Command) (arg : Arg) (names : List (Bor Text)) (i : ℕ) (d : Bor Text) → i < length names → app_of old ≡ line_of (map named (take i names)) → rule_of arg ≡ named (get_or names i d)
    → arg.global ≡ false → AddsArg old arg new → app_of new ≡ line_of (map named (take (i + 1) names))
option_added old new arg names i d lt before is local added =
    arg_added old arg new (map named (take i names)) (named (get_or names i d)) before is local added ∙ ap line_of (sym (map_more named names i d lt))

-- the options of all names
pub options_added : (line : Command) (names : List (Bor Text)) (i : ℕ) → length names ≤ i → app_of line ≡ line_of (map named (take i names)) → app_of line ≡ line_of (map named names)
options_added line names i past is = is ∙ ap (λ ns. line_of (map named ns)) (take_all i names past)
