-- What the table of structs says of them, of which some may be open (C99 6.7.2.1).
use Rattle.std.specs.Prelude.{◌≡◌, ℕ, ◌+◌, ◌-◌, ◌^◌, ◌<◌, ◌≤◌, min, Bool, true, false, IsTrue, List, [], ◌∷◌, ◌++◌, length, map, count_by, Option, Some, None, slice_get}
use Rattle.std.specs.List.{All}
use Rattle.xc_tree.specs.declared.ty.Ty.{Ty}
use Rattle.xc_tree.specs.Lists.{every}
use Rattle.xc_tree.specs.Types.{Shape, struct_shapes, is_size}
use Rattle.xc_type_rule.specs.declared.found.Member.{Member}
use Rattle.xc_type_rule.specs.Cells.{listed}
use Rattle.xc_type_structs.specs.declared.structs.Structs.{Structs}
use Rattle.xc_type_structs.specs.declared.structs.Layout.{Layout}
use Rattle.xc_type_structs.specs.Agree.{Agrees, Lays, members_shape}
use Rattle.xc_type_structs.specs.Table.{part_cells}
use Rattle.xc_welltyped_claims.specs.Ranks.{height, rank_of}
use Rattle.xc_welltyped_claims.specs.Lists.{StartsWith}
use Rattle.xc_welltyped_claims.specs.Types.{will_be_object}

abbrev pub with_known : Option Ty → List Ty → List Ty
with_known None ts = ts
with_known (Some t) ts = t ∷ ts

-- the types of members that are known
abbrev pub tys_of : List Member → List Ty
tys_of [] = []
tys_of (m ∷ ms) = with_known m.ty (tys_of ms)

abbrev pub struct_tys : List (List Member) → List (List Ty)
struct_tys structs = map tys_of structs

-- the cells of each struct; an open one has none
abbrev pub table_shapes : Structs → List Shape
table_shapes s = struct_shapes (struct_tys s.members)

-- a member of a type that an object may have once all structs are complete
pub record IsMember (sizes : List ℕ) (off : ℕ) (m : Member) : Type 0 where
  pub ty : Ty
  pub typed : m.ty ≡ Some ty
  pub object : IsTrue (will_be_object sizes ty)
  pub lies : m.off ≡ off

-- each lies behind the ones before it; offsets end at 2^32 - 1
abbrev pub AreMembers : List ℕ → ℕ → List Member → Type 0
AreMembers sizes off [] = Unit {0}
AreMembers sizes off (m ∷ ms) = IsMember sizes off m × AreMembers sizes (min (off + part_cells sizes m.ty) (2 ^ 32 - 1)) ms

abbrev pub has_members : List Member → Bool
has_members [] = false
has_members (m ∷ ms) = true

-- a complete struct stands above those that lie in it, in the order in which structs were closed
pub record IsClosed (s : Structs) (ranks : List ℕ) (n : ℕ) (ms : List Member) : Type 0 where
  pub sized : IsTrue (is_size (listed s.sizes n))
  pub members : AreMembers s.sizes 0 ms
  pub first : 0 < rank_of ranks n
  pub last : rank_of ranks n ≤ count_by has_members s.members
  pub above : All (λ ty. height ranks ty < rank_of ranks n) (tys_of ms)

-- an open struct has no members yet
abbrev pub IsStruct : Structs → List ℕ → ℕ → List Member → Type 0
IsStruct s ranks n [] = Unit {0}
IsStruct s ranks n (m ∷ ms) = IsClosed s ranks n (m ∷ ms)

pub record IsTable (s : Structs) : Type 0 where
  pub agrees : Agrees s (table_shapes s)
  pub ranks : List ℕ
  pub many : length ranks ≡ length s.members
  pub structs : (n : ℕ) (ms : List Member) → slice_get s.members n ≡ Some ms → IsStruct s ranks n ms

-- the members so far of the struct at work
pub record IsLaid (s : Structs) (l : Layout) : Type 0 where
  pub lays : Lays l (members_shape (table_shapes s) (map (λ m. m.ty) l.members))
  pub members : AreMembers s.sizes 0 l.members

-- the second table goes on with the first one, and each struct that was opened since is complete
pub record Grows (few more : Structs) : Type 0 where
  pub added : List ℕ
  pub sizes : more.sizes ≡ few.sizes ++ added
  pub complete : IsTrue (every (map is_size added))
  pub mixed : StartsWith few.mixed more.mixed
  pub members : StartsWith few.members more.members
