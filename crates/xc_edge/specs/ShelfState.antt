use Rattle.std.specs.Prelude.{ℕ, List, string_bytes, map, Vec, String}

-- a shelf in memory: its files in order, each a name with its bytes, the numbers of the calls that
-- are to fail, the names whose fetch failed, and how many calls were made and bytes taken
pub record ShelfState : Type 0 where
  pub files : List (List ℕ × List ℕ)
  pub failing : List ℕ
  pub failed : List (List ℕ)
  pub calls : ℕ
  pub taken : ℕ

-- names with their bytes
abbrev pub entries : {A B : Type 0} → List (String A × Vec ℕ B) → List (List ℕ × List ℕ)
entries files = map (λ file. (string_bytes file.0, file.1.items)) files
