-- The first cells of a global object; those behind them are full and 0.
use Rattle.std.specs.Prelude.{ℕ, ◌+◌, ◌-◌, zero, suc, Bool, true, false, ◌==◌, ◌&&◌, cond, List, [], ◌∷◌, ◌++◌, length, map, replicate, Option, Some, None, slice_get, unwrap_or}
use Rattle.xc_tree.specs.declared.ty.Ty.{Ty}
use Rattle.xc_tree.specs.declared.ty.Ty.TheOpen.{Ty-F}
use Rattle.xc_tree.specs.declared.ty.Ty.TheFolds.{fold-Ty}
use Rattle.xc_tree.specs.Lists.{joined}
use Rattle.xc_type_rule.specs.declared.found.Member.{Member}
use Rattle.xc_type_structs.specs.declared.structs.Structs.{Structs}

-- a cell is a word, and whether it is full
abbrev pub Cell : Type 0
Cell = ℕ × Bool

abbrev pub fresh : Cell
fresh = (0, true)

abbrev pub vacant : Cell
vacant = (0, false)

abbrev pub is_fresh : Cell → Bool
is_fresh c = c.1 && c.0 == 0

abbrev pub in_front : Cell → List Cell → List Cell
in_front c [] = cond (is_fresh c) [] (c ∷ [])
in_front c (d ∷ ds) = c ∷ d ∷ ds

-- the cells up to the last one that is not full and 0
unfoldable pub trimmed : List Cell → List Cell
trimmed [] = []
trimmed (c ∷ cs) = in_front c (trimmed cs)

-- with initialisers ----------------------------------------------------------

-- each word at its offset, and 0 between; all cells are full
unfoldable pub filled_from : ℕ → List (ℕ × ℕ) → List Cell
filled_from at [] = []
filled_from at (w ∷ ws) = replicate (w.0 - at) fresh ++ ((w.1, true) ∷ filled_from (w.0 + 1) ws)

-- the first cells of an object with these words
abbrev pub initialised : List (ℕ × ℕ) → List Cell
initialised ws = trimmed (filled_from 0 ws)

-- without --------------------------------------------------------------------

-- a `sync` or `future` cell starts empty; `structs` has the cells of each struct
abbrev pub start_step : List (List Cell) → Ty-F (List Cell) → List Cell
start_step structs Ty-F.Void = []
start_step structs (Ty-F.Array n of) = joined (replicate n of)
start_step structs (Ty-F.Struct s) = unwrap_or (slice_get structs s) []
start_step structs (Ty-F.Sync of) = vacant ∷ []
start_step structs (Ty-F.Future of) = vacant ∷ []
start_step structs _ = fresh ∷ []

abbrev pub start_of : List (List Cell) → Ty → List Cell
start_of structs = fold-Ty (List Cell) (start_step structs)

-- a member of unknown type has one cell
abbrev pub typed_start : List (List Cell) → Option Ty → List Cell
typed_start structs None = fresh ∷ []
typed_start structs (Some ty) = start_of structs ty

abbrev pub member_start : List (List Cell) → Member → List Cell
member_start structs m = typed_start structs m.ty

abbrev pub struct_start : List (List Cell) → List Member → List Cell
struct_start structs ms = joined (map (member_start structs) ms)

-- the cells of each struct, where structs lie in one another at most `deep` levels
unfoldable pub starts_within : ℕ → List (List Member) → List (List Cell)
starts_within zero members = []
starts_within (suc deep) members = map (struct_start (starts_within deep members)) members

-- the first cells of an object of this type
unfoldable pub started : Structs → Ty → List Cell
started s ty = trimmed (start_of (starts_within (length s.members) s.members) ty)
