-- Which kinds of cells there are.
use Rattle.std.specs.Prelude.{ℕ, Bool, false, ◌&&◌, ◌||◌, not, List, [], ◌∷◌, map, Option, Some, None, slice_get}
use Rattle.xc_tree.specs.declared.ty.Ty.{Ty, out-Ty}
use Rattle.xc_tree.specs.declared.ty.Ty.TheOpen.{Ty-F}
use Rattle.xc_tree.specs.declared.ty.Ty.TheFolds.{fold-Ty}
use Rattle.xc_tree.specs.Lists.{some}
use Rattle.xc_tree.specs.Types.{same_ty, holds_pointer}
use Rattle.xc_type_structs.specs.declared.kinds.Kinds.{Kinds}

-- a list of cells, told by less ----------------------------------------------

abbrev pub differ : Ty → Ty → Bool
differ t u = not (same_ty t u)

abbrev pub first_of : List Ty → Option Ty
first_of [] = None
first_of (k ∷ ks) = Some k

-- some differ from the first
abbrev pub is_varied : List Ty → Bool
is_varied [] = false
is_varied (k ∷ ks) = some (map (differ k) ks)

-- what is kept of the types of some cells
unfoldable pub summary : List Ty → Kinds
summary ks = record { head = first_of ks; pointer = some (map holds_pointer ks); varied = is_varied ks }

-- a cell has a pointer, and another one another type
abbrev pub is_mixture : Kinds → Bool
is_mixture k = k.pointer && k.varied

abbrev pub no_kinds : Kinds
no_kinds = record { head = None; pointer = false; varied = false }

abbrev pub one_kind : Ty → Kinds
one_kind t = record { head = Some t; pointer = holds_pointer t; varied = false }

abbrev pub heads_differ : Option Ty → Option Ty → Bool
heads_differ (Some t) (Some u) = differ t u
heads_differ _ _ = false

abbrev pub either : Option Ty → Option Ty → Option Ty
either None o = o
either (Some t) o = Some t

-- the kinds of two parts
abbrev pub joined : Kinds → Kinds → Kinds
joined a b = record { head = either a.head b.head; pointer = a.pointer || b.pointer; varied = a.varied || (b.varied || heads_differ a.head b.head) }

-- the kinds of a type --------------------------------------------------------

abbrev pub or_no_kinds : Option Kinds → Kinds
or_no_kinds None = no_kinds
or_no_kinds (Some k) = k

abbrev pub listed : List Kinds → ℕ → Kinds
listed table s = or_no_kinds (slice_get table s)

abbrev pub element_at : Ty → Ty-F Ty → Ty
element_at t (Ty-F.Array n of) = of
element_at t _ = t

-- what the elements of an array are
abbrev pub element : Ty → Ty
element t = element_at t (out-Ty t)

-- an array has the kinds of its elements, a struct those that are listed, and a scalar its own
abbrev pub kinds_at : {A : Type 0} → List Kinds → (A → Kinds) → Ty → Ty-F A → Kinds
kinds_at table inner t Ty-F.Void = no_kinds
kinds_at table inner t (Ty-F.Array n of) = inner of
kinds_at table inner t (Ty-F.Struct s) = listed table s
kinds_at table inner t _ = one_kind t

-- the kinds of the cells of a type, where these are those of the structs
abbrev pub kinds_of : List Kinds → Ty → Kinds
kinds_of table t = fold-Ty (Ty → Kinds) (λ l u. kinds_at table (λ of. of (element u)) u l) t t

-- a part of unknown type has a cell of no kind
abbrev pub kinds_of_part : List Kinds → Option Ty → Kinds
kinds_of_part table None = no_kinds
kinds_of_part table (Some t) = kinds_of table t
