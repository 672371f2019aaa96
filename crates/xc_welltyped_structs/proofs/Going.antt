-- Complete structs of a table, in a later one.
use Rattle.std.proofs.Common.{◌≡◌, ℕ, ◌<◌, ◌≤◌, List, [], ◌∷◌, length, map, refl, subst, arith}
use Rattle.std.specs.Prelude.{IsTrue, slice_get, count_by}
use Rattle.xc_tree.specs.declared.ty.Ty.{Ty}
use Rattle.xc_tree.specs.Types.{Shape, is_size, shape_of}
use Rattle.xc_type_rule.specs.declared.found.Member.{Member}
use Rattle.xc_type_rule.specs.Cells.{listed}
use Rattle.xc_type_structs.specs.declared.structs.Structs.{Structs}
use Rattle.xc_welltyped_claims.specs.Ranks.{height, rank_of}
use Rattle.xc_welltyped_claims.specs.Types.{will_be_object}
use Rattle.xc_welltyped_claims.specs.Table.{tys_of, has_members, AreMembers, IsClosed, IsStruct}
use Rattle.xc_welltyped_claims.proofs.Lists.{each_more}
use Rattle.xc_welltyped_structs.proofs.Lists.{each_all, all_each, each_with, map_each}
use Rattle.xc_welltyped_structs.proofs.Kept.{height_same, shape_same}
use Rattle.xc_welltyped_structs.proofs.Ranked.{members_kept}
use Rattle.xc_welltyped_structs.proofs.Members.{members_go}

-- members have the same cells, where structs that have a size have
module _ (S T : List Shape) (ns : List ℕ) (agree : (s : ℕ) → IsTrue (is_size (listed ns s)) → slice_get S s ≡ slice_get T s) where
  pub tys_same : (ms : List Member) → AreMembers ns 0 ms → map (shape_of S) (tys_of ms) ≡ map (shape_of T) (tys_of ms)
  tys_same ms h = map_each (shape_of S) (shape_of T) (tys_of ms)
      (each_more (λ t. IsTrue (will_be_object ns t)) (λ t. shape_of S t ≡ shape_of T t) (shape_same S T ns agree) (tys_of ms) (members_kept ns 0 ms h))

pub struct_same : (s : Structs) (S T : List Shape) → ((n : ℕ) → IsTrue (is_size (listed s.sizes n)) → slice_get S n ≡ slice_get T n) →
    (ranks : List ℕ) (n : ℕ) (ms : List Member) → IsStruct s ranks n ms → map (shape_of S) (tys_of ms) ≡ map (shape_of T) (tys_of ms)
struct_same s S T agree ranks n [] c = refl
struct_same s S T agree ranks n (m ∷ ms) c = tys_same S T s.sizes agree (m ∷ ms) c.members

-- structs that have a size keep it, and their ranks
module _ (few more : Structs) (ranks others : List ℕ) (same : (s : ℕ) → IsTrue (is_size (listed few.sizes s)) → listed few.sizes s ≡ listed more.sizes s)
    (fewer : length few.sizes ≤ length more.sizes) (agree : (s : ℕ) → IsTrue (is_size (listed few.sizes s)) → rank_of ranks s ≡ rank_of others s)
    (count : count_by has_members few.members ≤ count_by has_members more.members) where
  pub kept_height : (t : Ty) → IsTrue (will_be_object few.sizes t) → height ranks t ≡ height others t
  kept_height = height_same few.sizes ranks others agree

  closed_goes : (n : ℕ) (ms : List Member) → IsClosed few ranks n ms → IsClosed more others n ms
  closed_goes n ms c =
      let rank = agree n c.sized in
      let first = c.first in
      let last = c.last in
      let le = count in
      record {
        sized = subst (λ k. IsTrue (is_size k)) (same n c.sized) c.sized;
        members = members_go few.sizes more.sizes same fewer 0 ms c.members;
        first = omega (arith, rank, first);
        last = omega (arith, rank, last, le);
        above = each_all _ (tys_of ms) (each_with (λ t. IsTrue (will_be_object few.sizes t)) (λ t. height ranks t < rank_of ranks n) (λ t. height others t < rank_of others n)
            (λ t k lt. let two = kept_height t k in omega (arith, two, rank, lt)) (tys_of ms) (members_kept few.sizes 0 ms c.members) (all_each _ (tys_of ms) c.above));
      }

  pub struct_goes : (n : ℕ) (ms : List Member) → IsStruct few ranks n ms → IsStruct more others n ms
  struct_goes n [] c = tt
  struct_goes n (m ∷ ms) c = closed_goes n (m ∷ ms) c
