-- What only private functions and proofs speak of, beside `SinkState`.
use Rattle.std.specs.Prelude.{◌≢◌, ◌≤◌, ℕ, List, [], ◌⊎◌, Contains, length}
use Rattle.xc_edge.specs.Counts.{raised}
use Rattle.xc_edge.specs.SinkState.{SinkState}

-- a put of this piece fails now
abbrev pub IsRefused : SinkState → List ℕ → Type 0
IsRefused sink piece = Contains sink.failing sink.calls ⊎ ((piece ≢ []) × (sink.room ≤ length sink.written))

-- the same sink, one call later
abbrev pub next_put : SinkState → SinkState
next_put sink = record sink { calls = raised sink.calls 1 }
