-- One more struct, which is open.
use Rattle.std.proofs.Common.{◌≡◌, ℕ, ◌≤◌, List, [], ◌∷◌, ◌++◌, length, map, sym, ap, ◌∙◌, subst, arith, length-append, ◌⊎◌, inl, inr}
use Rattle.std.specs.Prelude.{IsTrue, Some, slice_get, count_by, cond}
use Rattle.std.proofs.lemmas.List.Sums.{sum_by_push}
use Rattle.xc_tree.specs.Types.{Shape, no_cells, is_size, in_order, shape_of}
use Rattle.xc_type_rule.specs.declared.found.Member.{Member}
use Rattle.xc_type_rule.specs.Cells.{listed}
use Rattle.xc_type_structs.specs.declared.structs.Structs.{Structs}
use Rattle.xc_type_structs.specs.Table as table
use Rattle.xc_type_structs.specs.Agree.{Agrees}
use Rattle.xc_type_structs.proofs.Table.{agrees_opened}
use Rattle.xc_welltyped_claims.specs.Table.{tys_of, table_shapes, has_members, IsStruct, IsTable}
use Rattle.xc_welltyped_claims.proofs.Lists.{get_left, length_left}
use Rattle.xc_welltyped_structs.proofs.Lists.{same_over, get_push, get_end, zero_push}
use Rattle.xc_welltyped_structs.proofs.Promises.{listed_left}
use Rattle.xc_welltyped_structs.proofs.Ranked.{AreStacked, stacked_level, has_level, cells_same}
use Rattle.xc_welltyped_structs.proofs.Going.{struct_same, struct_goes}
use Rattle.xc_welltyped_structs.proofs.Tables.{table_stacked, table_has, shapes_many, level_many}

-- the table ------------------------------------------------------------------------------------------

module _ (s : Structs) (h : IsTable s) where
  abbrev new : Structs
  new = table.opened s

  abbrev ranks : List ℕ
  ranks = h.ranks ++ 0 ∷ []

  abbrev S : List Shape
  S = table_shapes s

  abbrev U : List Shape
  U = S ++ no_cells ∷ []

  more : length s.sizes ≤ length new.sizes
  more = length_left s.sizes (0 ∷ [])

  counted : count_by has_members new.members ≡ count_by has_members s.members
  counted = let push = sum_by_push (λ ms. cond (has_members ms) 1 0) s.members [] in omega (arith, push)

  struct_stays : (n : ℕ) (ms : List Member) → IsStruct s h.ranks n ms → IsStruct new ranks n ms
  struct_stays = struct_goes s new h.ranks ranks (listed_left s.sizes (0 ∷ [])) more (λ n w. sym (zero_push h.ranks n)) (let count = counted in omega (arith, count))

  structs : (n : ℕ) (ms : List Member) → slice_get new.members n ≡ Some ms → IsStruct new ranks n ms
  structs n ms e = by (get_push s.members [] n ms e)
    where
      by : (slice_get s.members n ≡ Some ms) ⊎ ((n ≡ length s.members) × ([] ≡ ms)) → IsStruct new ranks n ms
      by (inl is) = struct_stays n ms (h.structs n ms is)
      by (inr is) = subst (λ l. IsStruct new ranks n l) is.1 tt

  stacked : AreStacked new ranks
  stacked = record {
    many = (let a = length-append h.ranks (0 ∷ []) in let b = length-append s.members ([] ∷ []) in let e = h.many in omega (arith, a, b, e));
    structs = structs;
    sized = λ n w. let is = (table_stacked s h).sized n (subst (λ k. IsTrue (is_size k)) (zero_push s.sizes n) w) in (is.0, is.1, get_left s.members ([] ∷ []) n (is.0 ∷ is.1) is.2);
  }

  -- the cells of the others
  shapes_left : (n : ℕ) → IsTrue (is_size (listed s.sizes n)) → slice_get S n ≡ slice_get U n
  shapes_left n w =
      let is = (table_stacked s h).sized n w in
      let e = table_has s h n (is.0 ∷ is.1) is.2 in
      e ∙ sym (get_left S (no_cells ∷ []) n _ e)

  has : (n : ℕ) (ms : List Member) → slice_get new.members n ≡ Some ms → slice_get U n ≡ Some (in_order (map (shape_of U) (tys_of ms)))
  has n ms e = by (get_push s.members [] n ms e)
    where
      by : (slice_get s.members n ≡ Some ms) ⊎ ((n ≡ length s.members) × ([] ≡ ms)) → slice_get U n ≡ Some (in_order (map (shape_of U) (tys_of ms)))
      by (inl is) = get_left S (no_cells ∷ []) n _ (table_has s h n ms is) ∙ ap (λ l. Some (in_order l)) (struct_same s S U shapes_left h.ranks n ms (h.structs n ms is))
      by (inr is) = ap (slice_get U) (is.0 ∙ sym (shapes_many s h)) ∙ get_end S no_cells ∙ ap (λ l. Some (in_order (map (shape_of U) (tys_of l)))) is.1

  shapes_are : table_shapes new ≡ U
  shapes_are = same_over new.members (table_shapes new) U (sym (level_many new (stacked_level new ranks stacked)))
      (let a = length-append S (no_cells ∷ []) in let b = length-append s.members ([] ∷ []) in let e = shapes_many s h in omega (arith, a, b, e))
      (cells_same new ranks stacked (table_shapes new) U (has_level new.members (table_shapes new) (stacked_level new ranks stacked)) has)

  pub table_opened : IsTable (table.opened s)
  table_opened = record {
    agrees = subst (Agrees new) (sym shapes_are) (agrees_opened s S h.agrees);
    ranks = ranks;
    many = stacked.many;
    structs = structs;
  }
