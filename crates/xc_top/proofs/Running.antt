-- A program that can run, with room, is run to an end.
use Rattle.std.proofs.Common.{◌≡◌, ℕ, ◌<◌, List, Option, Some, None, length, inl, inr, sym, ap, ◌∙◌, subst, arith}
use Rattle.std.specs.Prelude.{IfSome}
use Rattle.xc_edge.specs.Counts.{Rises}
use Rattle.xc_tree.specs.declared.tree.Tree.{Tree}
use Rattle.xc_meaning_terms.specs.Terms.{Program}
use Rattle.xc_meaning_trees.specs.Trees.{program_of}
use Rattle.xc_top_words.specs.declared.command.Choice.{Choice}
use Rattle.xc_top_words.specs.declared.command.Choice.TheVariants as choice
use Rattle.xc_top_words.specs.declared.command.Command.{Command}
use Rattle.xc_top_words.specs.declared.command.Command.TheVariants.{Run}
use Rattle.xc_top_words.specs.Commands.{file_in, schedule_in}
use Rattle.xc_driver.specs.Compiles.{IsTreeOf}
use Rattle.xc_top.specs.declared.status.Status.{Status}
use Rattle.xc_top.specs.declared.status.Status.TheVariants.{Ok, ReadFault, WriteFault, Usage, Long, Refused, Trap, Unfinished, Stuck, BadSchedule, WordsFull, OutFull, NoMemory}
use Rattle.xc_top.specs.Seen.{ShelfSeen, until, SinkSeen, Told}
use Rattle.xc_top.specs.Completes.{IsScheduled, IsEndOf, Completes}
use Rattle.xc_top.specs.Answers.{source_limit, IsUnreadBy, IsUnread, FileUnread, ScheduleUnread, Cause, NoCommand, NotRead, Judged, Writes, Tells, CanRun, IsRunToEnd}

-- what is told of a file holds of its text
told_of : (shelf : ShelfSeen) (files : List ℕ → Option (List ℕ)) (name text : List ℕ) (P : List ℕ → Type 0) → shelf.files ≡ Some files → files name ≡ Some text → Told shelf name P → P text
told_of shelf files name text P told there h =
    let k = subst (λ f. IfSome f (λ file_of. (shelf.after.faults name ≡ shelf.before.faults name) × (text : List ℕ) × (file_of name ≡ Some text) × P text)) told h in
    let same : k.1 ≡ text = let e = k.2 in cc in
    subst P same k.3

not_scheduled : (by : Choice) → schedule_in by ≡ None → IsScheduled by → ⊥
not_scheduled choice.Turns e h = h
not_scheduled (choice.Seed n) e h = h
not_scheduled (choice.Schedule file) e h = cc

-- what is written
written : (by : Choice) (p : Program) (planned : Status) (o e : List ℕ) (out err : SinkSeen) (status : Status) → (IsScheduled by → ⊥) → (Rises 1 out.faults_before out.faults_after → ⊥) → (Rises 1 err.faults_before err.faults_after → ⊥)
    → IsEndOf by p planned o → Writes planned o e out err status → IsRunToEnd p out status
written by p (Ok shown) o e out err status free puts_out puts_err source (inl h) = subst (IsRunToEnd p out) (sym h.0) (o, source, h.1)
written by p (Ok shown) o e out err status free puts_out puts_err source (inr (fault, inl h)) = absurd (puts_out h.0.0)
written by p (Ok shown) o e out err status free puts_out puts_err source (inr (fault, inr h)) = absurd (puts_err h.1.0)
written by p (Trap shown) o e out err status free puts_out puts_err source h = subst (IsRunToEnd p out) (sym h.0) source
written by p (BadSchedule bad) o e out err status free puts_out puts_err named h = absurd (free named)
written by p (Unfinished numbers) o e out err status free puts_out puts_err named h = absurd (free named)
written by p (ReadFault name) o e out err status free puts_out puts_err never h = absurd never
written by p WriteFault o e out err status free puts_out puts_err never h = absurd never
written by p Usage o e out err status free puts_out puts_err never h = absurd never
written by p (Long name) o e out err status free puts_out puts_err never h = absurd never
written by p (Refused name kind at) o e out err status free puts_out puts_err never h = absurd never
written by p (Stuck numbers) o e out err status free puts_out puts_err never h = absurd never
written by p (WordsFull live asked numbers) o e out err status free puts_out puts_err never h = absurd never
written by p (OutFull len piece numbers) o e out err status free puts_out puts_err never h = absurd never
written by p NoMemory o e out err status free puts_out puts_err never h = absurd never

module _ (command : Option Command) (shelf : ShelfSeen) (out err : SinkSeen) (tree : Tree) (r : CanRun command shelf out err tree) where
  not_unread_by : (status : Status) → IsUnreadBy r.file source_limit shelf status → ⊥
  not_unread_by (ReadFault name) h = r.fetched h.1
  not_unread_by (Long name) h =
      let long = told_of shelf r.files r.file r.text (λ t. source_limit < length t) r.are_told r.is_there h.2 in
      absurd (omega (arith, long, r.short))
  not_unread_by (Ok shown) h = h
  not_unread_by WriteFault h = h
  not_unread_by Usage h = h
  not_unread_by (Refused name kind at) h = h
  not_unread_by (Trap shown) h = h
  not_unread_by (Unfinished numbers) h = h
  not_unread_by (Stuck numbers) h = h
  not_unread_by (BadSchedule bad) h = h
  not_unread_by (WordsFull live asked numbers) h = h
  not_unread_by (OutFull len piece numbers) h = h
  not_unread_by NoMemory h = h

  not_unread : (status : Status) → IsUnread (Run r.options r.file) shelf status → ⊥
  not_unread status (FileUnread h) = not_unread_by status h.why
  not_unread status (ScheduleUnread between text has name is h) = let none = r.unscheduled in cc

  same_command : (c : Command) → command ≡ Some c → c ≡ Run r.options r.file
  same_command c is = let run = r.is_run in cc

  planned_ends : (planned : Status) (o e : List ℕ) → Cause command shelf planned o e → IsEndOf r.options.choice (program_of tree) planned o
  planned_ends planned o e (NoCommand none usage silent says) = absurd (let run = r.is_run in cc)
  planned_ends planned o e (NotRead c is unread silent says) = absurd (not_unread planned (subst (λ c. IsUnread c shelf planned) (same_command c is) unread))
  planned_ends planned o e (Judged c is text schedule read judges completes) =
      let same : r.text ≡ text = told_of (until read.between shelf) r.files (file_in c) r.text (λ t. t ≡ text) r.are_told (ap (λ c. r.files (file_in c)) (same_command c is) ∙ r.is_there) read.first.told in
      subst (λ c. Completes c text planned o) (same_command c is) completes tree (subst (λ t. IsTreeOf t tree) same r.is_tree) r.built r.room

pub runs_to_end : (command : Option Command) (shelf : ShelfSeen) (out err : SinkSeen) (status : Status) → Tells command shelf out err status → (tree : Tree) → CanRun command shelf out err tree → IsRunToEnd (program_of tree) out status
runs_to_end command shelf out err status (inl h) tree r = subst (IsRunToEnd (program_of tree) out) (sym h.0) tt
runs_to_end command shelf out err status (inr (planned, o, e, cause, writes)) tree r =
    written r.options.choice (program_of tree) planned o e out err status (not_scheduled r.options.choice r.unscheduled) r.out_written r.err_written (planned_ends command shelf out err tree r planned o e cause) writes
