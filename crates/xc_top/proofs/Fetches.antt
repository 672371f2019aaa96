-- What was fetched, put together.
use Rattle.std.proofs.Common.{◌≡◌, ◌≤◌, ◌+◌, ℕ, List, Option, Some, None, refl, sym, ap, ◌∙◌, subst}
use Rattle.xc_top_words.specs.declared.command.Command.{Command}
use Rattle.xc_top_words.specs.Commands.{file_in, schedule_of}
use Rattle.xc_top.specs.Seen.{Counts, ShelfSeen, until, since}
use Rattle.xc_top.specs.Answers.{Fetches, Has, HasSchedule, AreRead, MayHaveFetched, File, Both, limit_in, text_limit}

-- what is known of FILE's fetch
pub of_file : (P : List ℕ → ℕ → Type 0) (c : Command) (name : List ℕ) (limit : ℕ) → name ≡ file_in c → limit ≡ limit_in c → P name limit → P (file_in c) (limit_in c)
of_file P c name limit e f h = subst (P (file_in c)) f (subst (λ n. P n limit) e h)

-- what is known of a later fetch, the files being the same
pub later : (P : ShelfSeen → Type 0) (shelf : ShelfSeen) (between : Counts) (files : Option (List ℕ → Option (List ℕ))) → files ≡ shelf.files → P (record { files = files; before = between; after = shelf.after }) → P (since between shelf)
later P shelf between files e h = subst (λ f. P (record { files = f; before = between; after = shelf.after })) e h

-- both files are read, so both were fetched, or FILE alone
pub read_fetched : (c : Command) (shelf : ShelfSeen) (text : List ℕ) (schedule : Option (List ℕ)) → AreRead c shelf text schedule → MayHaveFetched (Some c) shelf
read_fetched c shelf text schedule h = by (schedule_of c) refl schedule h.second
  where
    by : (named : Option (List ℕ)) → schedule_of c ≡ named → (schedule : Option (List ℕ)) → HasSchedule (since h.between shelf) named schedule → MayHaveFetched (Some c) shelf
    by None e schedule k = File c refl (subst (λ m. Fetches (file_in c) (limit_in c) (until m shelf)) (sym k.1) h.first.fetches)
    by (Some name) e None k = absurd k
    by (Some name) e (Some t) k = Both c refl h.between text h.first name e k.fetches
