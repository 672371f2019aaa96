-- The structs of a whole text.
use Rattle.std.proofs.Common.{ℕ, ◌+◌, ◌-◌, ◌^◌, min, List, [], ◌∷◌, map, refl, sym, ◌∙◌, subst}
use Rattle.std.specs.Prelude.{IsTrue, is_some}
use Rattle.xc_tree.specs.declared.ty.Ty.{Ty}
use Rattle.xc_tree.specs.Lists.{every}
use Rattle.xc_tree.proofs.Lists.{and_both}
use Rattle.xc_tree.specs.Types.{Shape, sizes, is_size, is_object}
use Rattle.xc_type_rule.specs.declared.found.Member.{Member}
use Rattle.xc_type_structs.specs.declared.structs.Structs.{Structs}
use Rattle.xc_type_structs.specs.Table.{part_cells}
use Rattle.xc_welltyped_claims.proofs.RankLevels.{structs_known}
use Rattle.xc_welltyped_claims.specs.Lists.{Each}
use Rattle.xc_welltyped_claims.specs.Types.{will_be_object}
use Rattle.xc_welltyped_claims.specs.Table.{tys_of, struct_tys, table_shapes, AreMembers, IsStruct, IsTable}
use Rattle.xc_welltyped_claims.specs.Env.{AreComplete}
use Rattle.xc_welltyped_claims.proofs.Lists.{each_more}
use Rattle.xc_welltyped_structs.proofs.Lists.{every_of, each_at}
use Rattle.xc_welltyped_structs.specs.Valid.{AreValid}
use Rattle.xc_welltyped_structs.proofs.Types.{object_same}
use Rattle.xc_welltyped_structs.proofs.Promises.{promise_kept}
use Rattle.xc_welltyped_structs.proofs.Ranked.{members_kept, members_at, others, stacked_known}
use Rattle.xc_welltyped_structs.proofs.Tables.{table_stacked}

members_typed : (ns : List ℕ) (ms : List Member) (off : ℕ) → AreMembers ns off ms → Each (λ (m : Member). IsTrue (is_some m.ty)) ms
members_typed ns [] off h = tt
members_typed ns (m ∷ ms) off h = (subst (λ o. IsTrue (is_some o)) (sym h.0.typed) refl, members_typed ns ms (min (off + part_cells ns m.ty) (2 ^ 32 - 1)) h.1)

module _ (s : Structs) (h : IsTable s) (complete : AreComplete s.sizes) where
  abbrev S : List Shape
  S = table_shapes s

  object_at : (t : Ty) → IsTrue (will_be_object s.sizes t) → IsTrue (is_object S t)
  object_at t k = subst IsTrue (object_same S s.sizes (sym h.agrees.size) t) (promise_kept s.sizes complete t k)

  struct_at : (n : ℕ) (ms : List Member) → IsStruct s h.ranks n ms → IsTrue (every (map (is_object S) (tys_of ms)))
  struct_at n [] c = refl
  struct_at n (m ∷ ms) c = every_of (is_object S) (tys_of (m ∷ ms))
      (each_more (λ t. IsTrue (will_be_object s.sizes t)) (λ t. IsTrue (is_object S t)) object_at (tys_of (m ∷ ms)) (members_kept s.sizes 0 (m ∷ ms) c.members))

  typed_at : (n : ℕ) (ms : List Member) → IsStruct s h.ranks n ms → Each (λ (m : Member). IsTrue (is_some m.ty)) ms
  typed_at n [] c = tt
  typed_at n (m ∷ ms) c = members_typed s.sizes (m ∷ ms) 0 c.members

  objects : IsTrue (every (map (λ members. every (map (is_object S) members)) (struct_tys s.members)))
  objects = every_of (λ members. every (map (is_object S) members)) (struct_tys s.members)
      (each_at (λ members. IsTrue (every (map (is_object S) members))) (struct_tys s.members) (λ n tys e.
      let is = members_at s h.ranks (table_stacked s h) n tys e in
      subst (λ ts. IsTrue (every (map (is_object S) ts))) is.2 (struct_at n is.0 (h.structs n is.0 is.1))))

  all_sized : IsTrue (every (map is_size (sizes S)))
  all_sized = subst (λ ns. IsTrue (every (map is_size ns))) h.agrees.size complete

  pub structs_valid : AreValid s
  structs_valid = record {
    ok = structs_known (struct_tys s.members) (others s h.ranks (table_stacked s h)) (stacked_known s h.ranks (table_stacked s h))
        ∙ and_both (every (map (λ members. every (map (is_object S) members)) (struct_tys s.members))) _ objects all_sized;
    same = sym h.agrees.size;
    typed = each_at (Each (λ (m : Member). IsTrue (is_some m.ty))) s.members (λ n ms e. typed_at n ms (h.structs n ms e));
  }
