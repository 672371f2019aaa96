-- Reading a schedule, line by line.
use Rattle.std.specs.Prelude.{◌≡◌, ℕ, zero, suc, ◌+◌, ◌*◌, ◌^◌, Bool, List, [], ◌∷◌, ◌++◌, map, Option, Some, None, is_some, if◌then◌else◌}
use Rattle.std.specs.List.{AllByRecursion}
use Rattle.std.specs.Option.{option_map}
use Rattle.std.specs.Str.{bytes_eq}
use Rattle.xc_text_lines.specs.Lines.{words_of}
use Rattle.xc_text_lines.specs.Numbers.{number_of}
use Rattle.xc_sched.specs.declared.run.Run.{Run}
use Rattle.xc_sched.specs.declared.form.Form.{Form}
use Rattle.xc_sched.specs.declared.form.Form.TheVariants.{Streams, Slots}
use Rattle.xc_sched.specs.Runs.{header, HasName, is_other, line_of, Fits}
use Rattle.xc_sched.specs.InnerRuns.{last_of}

-- the form, once the first line was read, and the runs
abbrev pub Reading : Type 0
Reading = Option Form × List Run

-- the form that a first line begins
abbrev pub form_of : List ℕ → Option Form
form_of line = if bytes_eq line (header Streams) then Some Streams else (if bytes_eq line (header Slots) then Some Slots else None)

abbrev pub not_zero : Option ℕ → Option ℕ
not_zero None = None
not_zero (Some zero) = None
not_zero (Some (suc n)) = Some (suc n)

-- the number of steps that one word spells: from 1 to 2^31
abbrev pub count_of : List (List ℕ) → Option ℕ
count_of [] = None
count_of (a ∷ []) = not_zero (number_of (2 ^ 31 + 1) a)
count_of (a ∷ b ∷ ws) = None

-- the stream that a processor and a slot of it name
abbrev pub stream_at : Option ℕ → Option ℕ → Option ℕ
stream_at None i = None
stream_at (Some q) None = None
stream_at (Some q) (Some i) = Some (128 * q + i)

abbrev pub run_from : Option ℕ → Option ℕ → Option Run
run_from None n = None
run_from (Some s) None = None
run_from (Some s) (Some n) = Some (record { stream = s; count = n })

-- the run that the words of a line spell: a stream's name and a number of steps
abbrev pub run_of : Form → List (List ℕ) → Option Run
run_of form [] = None
run_of Streams (a ∷ ws) = run_from (number_of 1024 a) (count_of ws)
run_of Slots (a ∷ []) = None
run_of Slots (a ∷ b ∷ ws) = run_from (stream_at (number_of 64 a) (number_of 128 b)) (count_of ws)

abbrev pub added : Form → List Run → Option Run → Option Reading
added form runs None = None
added form runs (Some r) = if is_other (last_of None runs) r.stream then Some (Some form, runs ++ r ∷ []) else None

abbrev pub next_in : Option Form → List Run → List ℕ → Option Reading
next_in None runs line = option_map (λ form. (Some form, runs)) (form_of line)
next_in (Some form) runs line = added form runs (run_of form (words_of line))

abbrev pub next : Reading → List ℕ → Option Reading
next d line = next_in d.0 d.1 line

abbrev pub whole : Reading → Bool
whole d = is_some d.0

abbrev pub lines_in : Option Form → List Run → List (List ℕ)
lines_in None runs = []
lines_in (Some form) runs = header form ∷ map (line_of form) runs

abbrev pub lines_of : Reading → List (List ℕ)
lines_of d = lines_in d.0 d.1

abbrev pub FitsIn : Option Form → List Run → Type 0
FitsIn None runs = runs ≡ []
FitsIn (Some form) runs = Fits runs × AllByRecursion (HasName form) runs

abbrev pub FitsSoFar : Reading → Type 0
FitsSoFar d = FitsIn d.0 d.1
