-- What only private functions and proofs speak of, beside `ShelfState`.
use Rattle.std.specs.Prelude.{◌≡◌, ℕ, List, Option, None, ◌⊎◌, Contains, count_by, bytes_eq, [], ◌∷◌, Some, if◌then◌else◌}
use Rattle.xc_edge.specs.Counts.{raised}
use Rattle.xc_edge.specs.ShelfState.{ShelfState}

-- the bytes of the first file of this name
abbrev pub file_named : List (List ℕ × List ℕ) → List ℕ → Option (List ℕ)
file_named [] name = None
file_named (file ∷ files) name = if bytes_eq file.0 name then Some file.1 else file_named files name

-- how often a name stands in a list
abbrev pub name_count : List (List ℕ) → List ℕ → ℕ
name_count names name = count_by (λ other. bytes_eq other name) names

-- a fetch of this name fails now
abbrev pub IsToFail : ShelfState → List ℕ → Type 0
IsToFail shelf name = Contains shelf.failing shelf.calls ⊎ (file_named shelf.files name ≡ None)

-- the same shelf, one call later
abbrev pub next_call : ShelfState → ShelfState
next_call shelf = record shelf { calls = raised shelf.calls 1 }
