-- What only private functions and proofs speak of, beside `Runs`.
use Rattle.std.specs.Prelude.{ℕ, Option}

-- a pending action of an open loop: its thread, and what was done
-- what a thread's action does to memory
abbrev pub own_step : {A M : Type 0} → (A → M → Option M) → (ℕ × A) → M → Option M
own_step step x m = step x.1 m
