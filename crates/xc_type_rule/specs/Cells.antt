-- How many cells a type has, by the sizes of the structs.
use Rattle.std.specs.Prelude.{ℕ, ◌*◌, ◌-◌, ◌^◌, min, List, slice_get, unwrap_or}
use Rattle.xc_tree.specs.declared.ty.Ty.{Ty}
use Rattle.xc_tree.specs.declared.ty.Ty.TheOpen.{Ty-F}
use Rattle.xc_tree.specs.declared.ty.Ty.TheFolds.{fold-Ty}

-- the size of the struct with this number
abbrev pub listed : List ℕ → ℕ → ℕ
listed sizes s = unwrap_or (slice_get sizes s) 0

-- an array's elements are counted up to 2^32 - 1
abbrev pub cells_step : List ℕ → Ty-F ℕ → ℕ
cells_step sizes Ty-F.Void = 0
cells_step sizes (Ty-F.Array n of) = min (n * of) (2 ^ 32 - 1)
cells_step sizes (Ty-F.Struct s) = listed sizes s
cells_step sizes _ = 1

abbrev pub cells : List ℕ → Ty → ℕ
cells sizes = fold-Ty ℕ (cells_step sizes)
