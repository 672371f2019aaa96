-- What a command answers to a text with a tree, where there is room for its program.
use Rattle.std.specs.Prelude.{◌≡◌, ◌≤◌, ◌*◌, ℕ, List, None}
use Rattle.xc_tree.specs.declared.tree.Tree.{Tree}
use Rattle.xc_meaning.specs.Terms as straight
use Rattle.xc_meaning_terms.specs.Terms.{Program}
use Rattle.xc_meaning_trees.specs.Trees.{program_of}
use Rattle.xc_gen.specs.Unbuilt.{unbuilt_of}
use Rattle.xc_gen.specs.Faithful.{largest, TicksAtMost, PrintsAtMost, words_of_globals, step_bound, word_bound}
use Rattle.xc_driver.specs.Compiles.{IsTreeOf}
use Rattle.xc_top_words.specs.declared.command.Choice.{Choice}
use Rattle.xc_top_words.specs.declared.command.Choice.TheVariants as choice
use Rattle.xc_top_words.specs.declared.command.Options.{Options}
use Rattle.xc_top_words.specs.declared.command.Command.{Command}
use Rattle.xc_top_words.specs.declared.command.Command.TheVariants.{Run, Exec, Compile}
use Rattle.xc_top.specs.declared.status.Shown.TheVariants.{Nothing}
use Rattle.xc_top.specs.declared.status.Status.{Status}
use Rattle.xc_top.specs.declared.status.Status.TheVariants.{Ok, Trap, Unfinished, BadSchedule}
use Rattle.xc_top.specs.Judges.{IsSourceOutput, HasSourceTrap}

-- The options have room for the program: for its steps, by the ticks of source runs, for its live words, and for what source runs print.
pub record HasRoom (o : Options) (p : straight.Program) : Type 0 where
  pub ticks : ℕ
  pub are_few : TicksAtMost p ticks
  pub steps : step_bound (largest p.body) (o.processors * o.streams) ticks ≤ o.steps
  pub words : word_bound (words_of_globals p) (largest p.body) (o.processors * o.streams) ≤ o.words
  pub output : PrintsAtMost p o.out

-- a schedule is named
abbrev pub IsScheduled : Choice → Type 0
IsScheduled choice.Turns = ⊥
IsScheduled (choice.Seed n) = ⊥
IsScheduled (choice.Schedule file) = Unit {0}

-- Where there is room, the output is that of a source run that has ended, or a source run traps. The text of a schedule that is named
-- may be none, and its steps may be wrong, too few or too many. There is no other end.
abbrev pub IsEndOf : Choice → Program → Status → List ℕ → Type 0
IsEndOf by p (Ok shown) out = IsSourceOutput p out
IsEndOf by p (Trap shown) out = HasSourceTrap p
IsEndOf by p (BadSchedule bad) out = IsScheduled by
IsEndOf by p (Unfinished numbers) out = IsScheduled by
IsEndOf by p _ out = ⊥

-- A text with a tree whose forms all have code is run to an end where there is room for its program, and it is compiled.
abbrev pub Completes : Command → List ℕ → Status → List ℕ → Type 0
Completes (Run o file) text status out =
    (tree : Tree) → IsTreeOf text tree → unbuilt_of tree ≡ None → HasRoom o (straight.program_of tree) → IsEndOf o.choice (program_of tree) status out
Completes (Compile file) text status out = (tree : Tree) → IsTreeOf text tree → unbuilt_of tree ≡ None → status ≡ Ok Nothing
Completes (Exec o file) text status out = Unit {0}
