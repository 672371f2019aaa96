-- What a thread does to memory, and when two such touches conflict: A. J. Bernstein, Analysis of Programs for Parallel Processing, 1966.
use Rattle.std.specs.Prelude.{◌≡◌, ℕ, Option, Some, None, Bool, true, false, nat_eq, IsTrue, replicate, if◌then◌else◌}
use Rattle.std.specs.Option.{option_map}
use Rattle.std.specs.FinMap.{contains_key, insert, remove}
use Rattle.xc_word.specs.declared.memory.Cell.{Cell}
use Rattle.xc_word.specs.declared.memory.Place.{Place}
use Rattle.xc_word.specs.declared.memory.Access.{Access}
use Rattle.xc_word.specs.declared.memory.Kind.{Kind}
use Rattle.xc_word.specs.declared.memory.Kind.TheVariants.{ReadXx, ReadFf}
use Rattle.xc_word.specs.Cells.{Segments, put_cell, fresh}
use Rattle.xc_word.specs.Table.{outcome}

-- an access to a cell, a new segment with its number and its cells, a segment that is freed
pub data Touch : Type 0 where
  On : Access → Touch
  NewSegment : ℕ → ℕ → Touch
  FreeSegment : ℕ → Touch

-- what an access leaves at its cell; none where there is no such cell, where it waits, and where its answer is not this one
abbrev pub answering : ℕ → Option (Option (ℕ × Cell)) → Option Cell
answering answer None = None
answering answer (Some None) = None
answering answer (Some (Some x)) = if nat_eq x.0 answer then Some x.1 else None

-- the memory after a touch with its recorded answer, which only an access has; none where the touch is not possible
abbrev pub touched : Touch × ℕ → Segments → Option Segments
touched (On act, answer) m = option_map (put_cell m act.place) (answering answer (outcome m act))
touched (NewSegment seg cells, answer) m = if contains_key m seg then None else Some (insert m seg (replicate cells fresh))
touched (FreeSegment seg, answer) m = if contains_key m seg then Some (remove m seg) else None

-- the cells that a touch names, those of its whole segment where one is made or freed
abbrev pub Names : Touch → Place → Type 0
Names (On act) p = act.place ≡ p
Names (NewSegment seg cells) p = seg ≡ p.seg
Names (FreeSegment seg) p = seg ≡ p.seg

-- the kinds of access that leave their cell as it was. One that writes, or waits and leaves another state, is a write
abbrev pub is_read : Kind → Bool
is_read ReadXx = true
is_read ReadFf = true
is_read _ = false

-- a touch that leaves every cell as it was
abbrev pub IsRead : Touch → Type 0
IsRead (On act) = IsTrue (is_read act.kind)
IsRead (NewSegment seg cells) = ⊥
IsRead (FreeSegment seg) = ⊥

-- two touches conflict when they name one cell and are not both reads
abbrev pub Conflict : Touch → Touch → Type 0
Conflict a b = ((p : Place) × Names a p × Names b p) × (¬ (IsRead a × IsRead b))
