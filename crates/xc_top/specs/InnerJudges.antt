-- What only private functions and proofs speak of, beside `Judges`.
use Rattle.std.specs.Prelude.{◌≤◌, ◌^◌, ℕ, List, length, Option, Some, None}
use Rattle.xc_top_words.specs.declared.command.Choice.{Choice}
use Rattle.xc_top_words.specs.declared.command.Choice.TheVariants as choice
use Rattle.xc_top_words.specs.declared.command.Options.{Options}

-- where a schedule is named its text is given, and has at most 64 MiB
abbrev pub IsGiven : Choice → Option (List ℕ) → Type 0
IsGiven choice.Turns schedule = Unit {0}
IsGiven (choice.Seed n) schedule = Unit {0}
IsGiven (choice.Schedule file) None = ⊥
IsGiven (choice.Schedule file) (Some text) = length text ≤ 2 ^ 26

-- so it is where the options name one
abbrev pub IsGivenTo : Option Options → Option (List ℕ) → Type 0
IsGivenTo None schedule = Unit {0}
IsGivenTo (Some o) schedule = IsGiven o.choice schedule
