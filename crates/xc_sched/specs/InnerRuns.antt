-- What only private functions and proofs speak of, beside `Runs`.
use Rattle.std.specs.Prelude.{ℕ, List, [], ◌∷◌, Option, Some}
use Rattle.xc_sched.specs.declared.run.Run.{Run}

-- the stream of the last run, after a stream before them
abbrev pub last_of : Option ℕ → List Run → Option ℕ
last_of before [] = before
last_of before (r ∷ runs) = last_of (Some r.stream) runs
