-- What is kept of stretches of a source text, each from a byte up to another.
use Rattle.std.specs.Prelude.{◌≡◌, ℕ, Bool, true, ◌&&◌, nat_eq, List, Option, Some, position, slice_range}
use Rattle.std.specs.List.{list_any}
use Rattle.std.specs.Map.{lookup}
use Rattle.std.specs.Str.{bytes_eq}
use Rattle.xc_text_place.specs.Stretches.{stretch_eq}

abbrev pub bytes_at : List ℕ → ℕ × ℕ → List ℕ
bytes_at source p = slice_range source p.0 p.1

-- the bytes of each of these stretches are among the texts
abbrev pub AreIn : List ℕ → List (ℕ × ℕ) → List (List ℕ) → Type 0
AreIn source seen known = (p : ℕ × ℕ) → list_any (stretch_eq p) seen ≡ true → list_any (bytes_eq (bytes_at source p)) known ≡ true

-- each of these stretches has the place of its bytes among the texts
abbrev pub ArePlaces : List ℕ → List (List ℕ) → List ((ℕ × ℕ) × Option ℕ) → Type 0
ArePlaces source known places = (p : ℕ × ℕ) (place : Option ℕ) → lookup (stretch_eq p) places ≡ Some place → place ≡ position (bytes_eq (bytes_at source p)) known
