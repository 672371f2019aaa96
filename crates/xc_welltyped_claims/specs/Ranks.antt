-- Ranks of structs: each stands above those that lie in it (C99 6.7.2.1 paragraph 2: none lies in itself).
use Rattle.std.specs.Prelude.{◌≡◌, ℕ, ◌<◌, ◌≤◌, List, length, map, slice_get, unwrap_or, Some}
use Rattle.std.specs.List.{All}
use Rattle.xc_tree.specs.declared.ty.Ty.{Ty}
use Rattle.xc_tree.specs.declared.ty.Ty.TheOpen.{Ty-F}
use Rattle.xc_tree.specs.declared.ty.Ty.TheFolds.{fold-Ty}
use Rattle.xc_tree.specs.Types.{Shape, struct_shapes, shape_of, in_order}

-- the cells of each struct, where structs in structs have these
abbrev pub next_level : List (List Ty) → List Shape → List Shape
next_level structs shapes = map (λ members. in_order (map (shape_of shapes) members)) structs

abbrev pub rank_of : List ℕ → ℕ → ℕ
rank_of ranks s = unwrap_or (slice_get ranks s) 0

-- the rank of the struct that lies in the type, 0 where there is none
abbrev pub height_step : List ℕ → Ty-F ℕ → ℕ
height_step ranks (Ty-F.Array n of) = of
height_step ranks (Ty-F.Struct s) = rank_of ranks s
height_step ranks _ = 0

abbrev pub height : List ℕ → Ty → ℕ
height ranks = fold-Ty ℕ (height_step ranks)

-- a struct has a rank of at least 1, at most so many as there are structs, and above those that lie in it
pub record IsRanked (structs : List (List Ty)) (ranks : List ℕ) (s : ℕ) (members : List Ty) : Type 0 where
  pub first : 0 < rank_of ranks s
  pub last : rank_of ranks s ≤ length structs
  pub above : All (λ m. height ranks m < rank_of ranks s) members

abbrev pub AreRanked : List (List Ty) → List ℕ → Type 0
AreRanked structs ranks = (s : ℕ) (members : List Ty) → slice_get structs s ≡ Some members → IsRanked structs ranks s members

-- one more level of structs in structs changes none
pub record Known (structs : List (List Ty)) (ranks : List ℕ) : Type 0 where
  pub level : struct_shapes structs ≡ next_level structs (struct_shapes structs)
  pub above : (s : ℕ) (members : List Ty) → slice_get structs s ≡ Some members → All (λ m. height ranks m < rank_of ranks s) members
