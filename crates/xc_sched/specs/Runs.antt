-- The text of a schedule: runs of steps, each of one stream, in one of two forms.
use Rattle.std.specs.Prelude.{◌≡◌, ℕ, ◌-◌, ◌/◌, ◌%◌, ◌^◌, ◌<◌, ◌≤◌, ◌==◌, Bool, true, ◌&&◌, not, List, [], ◌∷◌, ◌++◌, length, drop, map, replicate, Option, Some, None, nat_lt, nat_le, codes}
use Rattle.std.specs.Fmt.{decimal}
use Rattle.std.specs.List.{AllByRecursion, flat_map, join_with_byte}
use Rattle.xc_text_lines.specs.Grammar.{with_feeds}
use Rattle.xc_sched.specs.declared.run.Run.{Run}
use Rattle.xc_sched.specs.declared.form.Form.{Form}
use Rattle.xc_sched.specs.declared.form.Form.TheVariants.{Streams, Slots}

-- a stream below 8,192, which is slot i of processor q where it is 128 * q + i, and from 1 to 2^31 steps
abbrev pub is_valid : Run → Bool
is_valid r = nat_lt r.stream 8192 && (nat_le 1 r.count && nat_le r.count (2 ^ 31))

abbrev pub is_other : Option ℕ → ℕ → Bool
is_other None s = true
is_other (Some t) s = not (t == s)

abbrev pub may_follow : Option ℕ → Run → Bool
may_follow before r = is_valid r && is_other before r.stream

-- in range, and neighbours of different streams
abbrev pub FitsAfter : Option ℕ → List Run → Type 0
FitsAfter before [] = Unit {0}
FitsAfter before (r ∷ runs) = (may_follow before r ≡ true) × FitsAfter (Some r.stream) runs

abbrev pub Fits : List Run → Type 0
Fits runs = FitsAfter None runs

-- the streams, step by step
abbrev pub steps_of : List Run → List ℕ
steps_of runs = flat_map (λ r. replicate r.count r.stream) runs

-- the first line of each form
abbrev pub header : Form → List ℕ
header Streams = codes "schedule 1"
header Slots = codes "schedule 2"

-- the words that name a stream: its number, or its processor and its slot there
abbrev pub name_of : Form → ℕ → List (List ℕ)
name_of Streams s = decimal s ∷ []
name_of Slots s = decimal (s / 128) ∷ decimal (s % 128) ∷ []

-- the first form names streams below 1,024 alone
abbrev pub HasName : Form → Run → Type 0
HasName Streams r = r.stream < 1024
HasName Slots r = Unit {0}

-- one line for each run: its stream's name and its number of steps
abbrev pub line_of : Form → Run → List ℕ
line_of form r = join_with_byte 32 (name_of form r.stream ++ decimal r.count ∷ [])

abbrev pub text_of : Form → List Run → List ℕ
text_of form runs = with_feeds (header form ∷ map (line_of form) runs)

-- Runs with a text, of which those before place `at` have been replayed; they are few enough for a `u32` to number the lines and the one after.
pub record KeepsRuns (at : ℕ) (runs : List Run) : Type 0 where
  pub within : at ≤ length runs
  pub few : length runs < 2 ^ 32 - 2
  pub fit : Fits (drop at runs)

-- The text spells these steps in a form.
pub record SpellsIn (form : Form) (text steps : List ℕ) : Type 0 where
  pub runs : List Run
  pub fit : Fits runs
  pub names : AllByRecursion (HasName form) runs
  pub are : steps ≡ steps_of runs
  pub is_text : text ≡ text_of form runs

-- The text spells these steps in the second form, in which schedules are printed.
abbrev pub Spells : List ℕ → List ℕ → Type 0
Spells text steps = SpellsIn Slots text steps

-- The text spells these steps in one of the forms, in which schedules are read.
abbrev pub IsRead : List ℕ → List ℕ → Type 0
IsRead text steps = (form : Form) × SpellsIn form text steps

-- The grammar.
abbrev pub IsSchedule : List ℕ → Type 0
IsSchedule text = (steps : List ℕ) × IsRead text steps
