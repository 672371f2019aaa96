-- What only private functions and proofs speak of, beside `Kinds`.
use Rattle.std.specs.Prelude.{Bool, List}
use Rattle.xc_tree.specs.declared.ty.Ty.{Ty, out-Ty}
use Rattle.xc_tree.specs.Types as types
use Rattle.xc_type_structs.specs.declared.kinds.Kinds.{Kinds}
use Rattle.xc_type_structs.specs.Kinds.{no_kinds, kinds_at}

abbrev pub is_pointer : Ty → Bool
is_pointer t = types.is_pointer t

abbrev pub level_kinds : List Kinds → Ty → Kinds
level_kinds table t = kinds_at table (λ of. no_kinds) t (out-Ty t)
