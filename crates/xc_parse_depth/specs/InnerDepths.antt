-- What only private functions and proofs speak of, beside `Depths`.
use Rattle.std.specs.Prelude.{◌≡◌, ℕ, ◌+◌, ◌≤◌, List, length, ◌==◌, count_by, slice_index_or}
use Rattle.xc_parse_depth.specs.declared.stretch.Stretch.{Stretch}

-- how many begin and end at each place
pub record Tallied (all : List Stretch) (count : ℕ) (begins ends : List ℕ) : Type 0 where
  pub begins_length : length begins ≡ count + 1
  pub ends_length : length ends ≡ count + 1
  pub begin : (k : ℕ) → k ≤ count → slice_index_or begins k 0 ≡ count_by (λ s. s.first == k) all
  pub end : (k : ℕ) → k ≤ count → slice_index_or ends k 0 ≡ count_by (λ s. s.end == k) all
