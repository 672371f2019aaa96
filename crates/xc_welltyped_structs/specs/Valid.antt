-- The structs of a whole text.
use Rattle.std.specs.Prelude.{◌≡◌, IsTrue, is_some}
use Rattle.xc_tree.specs.Types.{sizes, structs_ok}
use Rattle.xc_type_rule.specs.declared.found.Member.{Member}
use Rattle.xc_type_structs.specs.declared.structs.Structs.{Structs}
use Rattle.xc_welltyped_claims.specs.Lists.{Each}
use Rattle.xc_welltyped_claims.specs.Table.{struct_tys, table_shapes}

-- each struct is complete, each member has a type, and no struct lies in itself
pub record AreValid (s : Structs) : Type 0 where
  pub ok : IsTrue (structs_ok (struct_tys s.members))
  pub same : sizes (table_shapes s) ≡ s.sizes
  pub typed : Each (λ ms. Each (λ (m : Member). IsTrue (is_some m.ty)) ms) s.members
