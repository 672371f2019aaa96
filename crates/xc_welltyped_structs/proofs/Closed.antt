-- A struct that fits is closed.
use Rattle.std.proofs.Common.{◌≡◌, ℕ, suc, ◌^◌, ◌<◌, ◌≤◌, List, [], ◌∷◌, length, get_or, map, Bool, true, false, refl, sym, ap, ◌∙◌, subst, arith, length-set}
use Rattle.std.specs.Prelude.{IsTrue, ◌==◌, not, nat_le, nat_lt, Some, slice_get, slice_set, unwrap_or, count_by, cond}
use Rattle.std.proofs.lemmas.Bool.{eqb-true, eqb-false, le-leb, ltb-false}
use Rattle.std.proofs.lemmas.List.Sums.{sum_by-set}
use Rattle.std.proofs.lemmas.Option.{slice_get_within, get_or_from_slice_get}
use Rattle.xc_tree.specs.declared.ty.Ty.{Ty}
use Rattle.xc_tree.proofs.Lists.{and_both}
use Rattle.xc_tree.specs.Types.{Shape, is_size, in_order, shape_of}
use Rattle.xc_type_rule.specs.declared.found.Member.{Member}
use Rattle.xc_type_rule.specs.Cells.{listed}
use Rattle.xc_type_structs.specs.declared.structs.Structs.{Structs}
use Rattle.xc_type_structs.specs.declared.structs.Layout.{Layout}
use Rattle.xc_type_structs.specs.Table as table
use Rattle.xc_type_structs.specs.Agree.{Agrees, members_shape}
use Rattle.xc_type_structs.proofs.Table.{agrees_closed}
use Rattle.xc_welltyped_claims.specs.Ranks.{height, rank_of}
use Rattle.xc_welltyped_claims.specs.Types.{will_be_object}
use Rattle.xc_welltyped_claims.specs.Table.{tys_of, table_shapes, has_members, IsClosed, IsStruct, IsTable, IsLaid}
use Rattle.xc_welltyped_claims.proofs.Lists.{each_more}
use Rattle.xc_welltyped_structs.proofs.Lists.{each_all, same_over, set_here, set_other}
use Rattle.xc_welltyped_structs.proofs.Kept.{height_most}
use Rattle.xc_welltyped_structs.proofs.Ranked.{members_kept, AreStacked, stacked_level, has_level, cells_same}
use Rattle.xc_welltyped_structs.proofs.Members.{member_tys, parts_tys, members_go, has_cells}
use Rattle.xc_welltyped_structs.proofs.Going.{tys_same, struct_same, kept_height, struct_goes}
use Rattle.xc_welltyped_structs.proofs.Tables.{table_stacked, table_has, open_size, shapes_many, sizes_many, level_many}

not_below : (m n : ℕ) → IsTrue (not (nat_lt m n)) → n ≤ m
not_below m n h = by (nat_lt m n) refl h
  where
    by : (b : Bool) → nat_lt m n ≡ b → IsTrue (not b) → n ≤ m
    by true e w = absurd cc
    by false e w = ltb-false m n e

module _ (s : Structs) (h : IsTable s) (l : Layout) (number : ℕ) (at : slice_get s.members number ≡ Some []) (laid : IsLaid s l) (full : IsTrue (has_members l.members)) (fits : IsTrue (not (nat_lt (2 ^ 22) l.size))) where
  abbrev new : Structs
  new = table.closed s number l

  abbrev count : ℕ
  count = count_by has_members s.members

  abbrev ranks : List ℕ
  ranks = slice_set h.ranks number (suc count)

  abbrev S : List Shape
  S = table_shapes s

  abbrev shape : Shape
  shape = members_shape S (member_tys l.members)

  abbrev U : List Shape
  U = slice_set S number shape

  abbrev Kept : Ty → Type 0
  Kept t = IsTrue (will_be_object s.sizes t)

  -- its size ------------------------------------------------------------------------------------------

  few : l.size ≤ 2 ^ 22
  few = not_below (2 ^ 22) l.size fits

  cells : shape.size ≡ l.size
  cells = let size = laid.lays.size in let most = few in omega (arith, size, most)

  pub is_sized : IsTrue (is_size l.size)
  is_sized = let some = has_cells s S h.agrees 0 l.members full laid.members in let size = cells in let most = few in
      and_both (nat_le 1 l.size) _ (le-leb 1 l.size (omega (arith, some, size))) (le-leb l.size (2 ^ 22) most)

  within : number < length s.members
  within = slice_get_within s.members number [] at

  within_sizes : number < length s.sizes
  within_sizes = let lt = within in let same = sizes_many s h in omega (arith, lt, same)

  within_ranks : number < length h.ranks
  within_ranks = let lt = within in let same = h.many in omega (arith, lt, same)

  within_shapes : number < length S
  within_shapes = let lt = within in let same = shapes_many s h in omega (arith, lt, same)

  -- a struct that has a size is another one
  other : (n : ℕ) → IsTrue (is_size (listed s.sizes n)) → number ≡ n → ⊥
  other n w e = let bad : IsTrue (is_size 0) = subst (λ k. IsTrue (is_size k)) (ap (listed s.sizes) (sym e) ∙ open_size s h number at) w in absurd cc

  pub same_sizes : (n : ℕ) → IsTrue (is_size (listed s.sizes n)) → listed s.sizes n ≡ listed new.sizes n
  same_sizes n w = ap (λ o. unwrap_or o 0) (sym (set_other s.sizes number n l.size (other n w)))

  pub fewer : length s.sizes ≤ length new.sizes
  fewer = let same = length-set s.sizes number l.size in omega (arith, same)

  -- ranks ---------------------------------------------------------------------------------------------

  abbrev one : List Member → ℕ
  one ms = cond (has_members ms) 1 0

  one_full : one l.members ≡ 1
  one_full = ap (λ b. let n : ℕ = cond b 1 0 in n) full

  counted : count_by has_members new.members ≡ suc count
  counted =
      let set = sum_by-set one s.members number l.members [] within in
      let old : one (get_or s.members number []) ≡ 0 = ap one (get_or_from_slice_get s.members number [] [] at) in
      let now : one l.members ≡ 1 = one_full in
      omega (arith, set, old, now)

  same_ranks : (n : ℕ) → IsTrue (is_size (listed s.sizes n)) → rank_of h.ranks n ≡ rank_of ranks n
  same_ranks n w = ap (λ o. unwrap_or o 0) (sym (set_other h.ranks number n (suc count) (other n w)))

  fewer_closed : count ≤ count_by has_members new.members
  fewer_closed = let more = counted in omega (arith, more)

  heights : (t : Ty) → Kept t → height h.ranks t ≡ height ranks t
  heights = kept_height s new h.ranks ranks same_sizes fewer same_ranks fewer_closed

  most_height : (t : Ty) → Kept t → height h.ranks t ≤ count
  most_height = height_most s.sizes h.ranks count (λ n w. let is = (table_stacked s h).sized n w in let c = h.structs n (is.0 ∷ is.1) is.2 in c.last)

  rank_here : rank_of ranks number ≡ suc count
  rank_here = ap (λ o. unwrap_or o 0) (set_here h.ranks number (suc count) within_ranks)

  closed_here : IsClosed new ranks number l.members
  closed_here =
      let rank = rank_here in
      let more = counted in
      record {
        sized = subst (λ k. IsTrue (is_size k)) (sym (ap (λ o. unwrap_or o 0) (set_here s.sizes number l.size within_sizes))) is_sized;
        members = members_go s.sizes new.sizes same_sizes fewer 0 l.members laid.members;
        first = omega (arith, rank);
        last = omega (arith, rank, more);
        above = each_all _ (tys_of l.members) (each_more Kept (λ t. height ranks t < rank_of ranks number)
            (λ t k. let same = heights t k in let most = most_height t k in omega (arith, same, most, rank)) (tys_of l.members) (members_kept s.sizes 0 l.members laid.members));
      }

  here : (ms : List Member) → l.members ≡ ms → IsStruct new ranks number ms
  here [] e = tt
  here (m ∷ ms) e = subst (IsClosed new ranks number) e closed_here

  there : (n : ℕ) (ms : List Member) → IsStruct s h.ranks n ms → IsStruct new ranks n ms
  there = struct_goes s new h.ranks ranks same_sizes fewer same_ranks fewer_closed

  -- this struct, or another one
  which : (P : ℕ → List Member → Type 0) → ((ms : List Member) → l.members ≡ ms → P number ms) → ((n : ℕ) → (number ≡ n → ⊥) → (ms : List Member) → slice_get s.members n ≡ Some ms → P n ms) →
      (n : ℕ) (ms : List Member) → slice_get new.members n ≡ Some ms → P n ms
  which P f g n ms e = by (number == n) refl
    where
      by : (b : Bool) → (number == n) ≡ b → P n ms
      by true q =
          let same : number ≡ n = eqb-true number n q in
          let two : Some l.members ≡ Some ms = sym (set_here s.members number l.members within) ∙ ap (slice_get new.members) same ∙ e in
          subst (λ k. P k ms) same (f ms (let one : l.members ≡ ms = cc in one))
      by false q = let ne = eqb-false number n q in g n ne ms (sym (set_other s.members number n l.members ne) ∙ e)

  structs : (n : ℕ) (ms : List Member) → slice_get new.members n ≡ Some ms → IsStruct new ranks n ms
  structs = which (IsStruct new ranks) here (λ n ne ms e. there n ms (h.structs n ms e))

  full_at : (ms : List Member) → l.members ≡ ms → (m : Member) × (rest : List Member) × (slice_get new.members number ≡ Some (m ∷ rest))
  full_at [] e = absurd (let bad : IsTrue (has_members []) = subst (λ ms. IsTrue (has_members ms)) e full in cc)
  full_at (m ∷ ms) e = (m, ms, set_here s.members number l.members within ∙ ap Some e)

  sized : (n : ℕ) → IsTrue (is_size (listed new.sizes n)) → (m : Member) × (ms : List Member) × (slice_get new.members n ≡ Some (m ∷ ms))
  sized n w = by (number == n) refl
    where
      by : (b : Bool) → (number == n) ≡ b → (m : Member) × (ms : List Member) × (slice_get new.members n ≡ Some (m ∷ ms))
      by true q = subst (λ k. (m : Member) × (ms : List Member) × (slice_get new.members k ≡ Some (m ∷ ms))) (eqb-true number n q) (full_at l.members refl)
      by false q =
          let ne = eqb-false number n q in
          let is = (table_stacked s h).sized n (subst (λ o. IsTrue (is_size (unwrap_or o 0))) (set_other s.sizes number n l.size ne) w) in
          (is.0, is.1, set_other s.members number n l.members ne ∙ is.2)

  stacked : AreStacked new ranks
  stacked = record {
    many = length-set h.ranks number (suc count) ∙ h.many ∙ sym (length-set s.members number l.members);
    structs = structs;
    sized = sized;
  }

  -- cells ---------------------------------------------------------------------------------------------

  shapes_stay : (n : ℕ) → IsTrue (is_size (listed s.sizes n)) → slice_get S n ≡ slice_get U n
  shapes_stay n w = sym (set_other S number n shape (other n w))

  abbrev Has : ℕ → List Member → Type 0
  Has n ms = slice_get U n ≡ Some (in_order (map (shape_of U) (tys_of ms)))

  has_here : (ms : List Member) → l.members ≡ ms → Has number ms
  has_here ms e = set_here S number shape within_shapes
      ∙ ap (λ ps. Some (in_order ps)) (parts_tys S s.sizes 0 l.members laid.members ∙ tys_same S U s.sizes shapes_stay l.members laid.members)
      ∙ ap (λ l. Some (in_order (map (shape_of U) (tys_of l)))) e

  has_there : (n : ℕ) → (number ≡ n → ⊥) → (ms : List Member) → slice_get s.members n ≡ Some ms → Has n ms
  has_there n ne ms e = set_other S number n shape ne ∙ table_has s h n ms e ∙ ap (λ ps. Some (in_order ps)) (struct_same s S U shapes_stay h.ranks n ms (h.structs n ms e))

  shapes_are : table_shapes new ≡ U
  shapes_are = same_over new.members (table_shapes new) U (sym (level_many new (stacked_level new ranks stacked)))
      (length-set s.members number l.members ∙ sym (shapes_many s h) ∙ sym (length-set S number shape))
      (cells_same new ranks stacked (table_shapes new) U (has_level new.members (table_shapes new) (stacked_level new ranks stacked)) (which Has has_here has_there))

  pub table_closed : IsTable (table.closed s number l)
  table_closed = record {
    agrees = subst (Agrees new) (sym shapes_are) (agrees_closed s S h.agrees l number shape laid.lays (let size = cells in let most = few in omega (arith, size, most)));
    ranks = ranks;
    many = stacked.many;
    structs = structs;
  }
