-- The table of the structs of a text.
use Rattle.std.specs.Prelude.{ℕ, ◌+◌, ◌-◌, ◌^◌, min, false, List, [], ◌∷◌, ◌++◌, Option, Some, None, slice_set}
use Rattle.xc_tree.specs.declared.ty.Ty.{Ty}
use Rattle.xc_type_rule.specs.Cells.{cells}
use Rattle.xc_type_structs.specs.declared.structs.Layout.{Layout}
use Rattle.xc_type_structs.specs.declared.structs.Structs.{Structs}
use Rattle.xc_type_structs.specs.Kinds.{no_kinds, joined, kinds_of_part, is_mixture}
use Rattle.xc_type_structs.specs.Members.{added}

abbrev pub nothing : Layout
nothing = record { members = []; size = 0; kinds = no_kinds }

-- an unknown type has one cell at least
abbrev pub part_cells : List ℕ → Option Ty → ℕ
part_cells sizes None = 1
part_cells sizes (Some t) = cells sizes t

-- each member lies behind the ones before it (C99 6.7.2.1 paragraph 13)
abbrev pub with_member : Structs → ℕ → Option Ty → Layout → Layout
with_member s name ty l = record {
  members = added l.members (record { name = name; off = l.size; ty = ty });
  size = min (l.size + part_cells s.sizes ty) (2 ^ 32 - 1);
  kinds = joined l.kinds (kinds_of_part s.kinds ty);
}

abbrev pub no_structs : Structs
no_structs = record { sizes = []; kinds = []; mixed = []; members = [] }

-- a struct is not complete up to its closing brace, and has no cells so long (C99 6.7.2.1 paragraph 7)
abbrev pub opened : Structs → Structs
opened s = record {
  sizes = s.sizes ++ 0 ∷ [];
  kinds = s.kinds ++ no_kinds ∷ [];
  mixed = s.mixed ++ false ∷ [];
  members = s.members ++ [] ∷ [];
}

abbrev pub closed : Structs → ℕ → Layout → Structs
closed s number l = record {
  sizes = slice_set s.sizes number l.size;
  kinds = slice_set s.kinds number l.kinds;
  mixed = slice_set s.mixed number (is_mixture l.kinds);
  members = slice_set s.members number l.members;
}
