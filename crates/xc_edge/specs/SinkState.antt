use Rattle.std.specs.Prelude.{ℕ, List}

-- a sink in memory: what is written, how much fits in all, the numbers of the calls that are to
-- fail, how often a put failed, and how many calls were made
pub record SinkState : Type 0 where
  pub written : List ℕ
  pub room : ℕ
  pub failing : List ℕ
  pub faults : ℕ
  pub calls : ℕ
