-- Where complete structs have ranks and open ones none lies in another, the cells of all structs are known.
use Rattle.std.proofs.Common.{◌≡◌, ℕ, zero, suc, ◌+◌, ◌-◌, ◌^◌, ◌<◌, ◌≤◌, min, List, [], ◌∷◌, length, map, refl, sym, ap, ◌∙◌, subst, arith}
use Rattle.std.specs.Prelude.{IsTrue, Option, Some, None, slice_get, option_map, count_by}
use Rattle.std.proofs.lemmas.List.{length-map}
use Rattle.std.proofs.lemmas.List.Sums.{count_by-le-length}
use Rattle.std.proofs.lemmas.Option.{slice_get-map, slice_get_within}
use Rattle.xc_tree.specs.declared.ty.Ty.{Ty}
use Rattle.xc_tree.specs.Types.{Shape, is_size, in_order, shape_of}
use Rattle.xc_type_rule.specs.declared.found.Member.{Member}
use Rattle.xc_type_rule.specs.Cells.{listed}
use Rattle.xc_type_structs.specs.declared.structs.Structs.{Structs}
use Rattle.xc_type_structs.specs.Table.{part_cells}
use Rattle.xc_welltyped_claims.specs.Ranks.{height, next_level, Known, rank_of, IsRanked, AreRanked}
use Rattle.xc_welltyped_claims.proofs.RankLevels.{known}
use Rattle.xc_welltyped_claims.specs.Lists.{Each}
use Rattle.xc_welltyped_claims.specs.Types.{will_be_object}
use Rattle.xc_welltyped_claims.specs.Table.{with_known, tys_of, struct_tys, table_shapes, AreMembers, has_members, IsClosed, IsStruct}
use Rattle.xc_welltyped_structs.proofs.Lists.{each_all, all_each, each_with, map_each}
use Rattle.xc_welltyped_structs.proofs.Kept.{height_same, shape_below}

-- members ------------------------------------------------------------------------------------

pub members_kept : (ns : List ℕ) (off : ℕ) (ms : List Member) → AreMembers ns off ms → Each (λ t. IsTrue (will_be_object ns t)) (tys_of ms)
members_kept ns off [] h = tt
members_kept ns off (m ∷ ms) h = subst (λ o. Each (λ t. IsTrue (will_be_object ns t)) (with_known o (tys_of ms))) (sym h.0.typed) (h.0.object, members_kept ns (min (off + part_cells ns m.ty) (2 ^ 32 - 1)) ms h.1)

-- ranks ---------------------------------------------------------------------------------------

-- an open struct gets the lowest rank
pub filled : List (List Member) → List ℕ → List ℕ
filled [] rs = []
filled (ms ∷ mss) [] = []
filled ([] ∷ mss) (r ∷ rs) = 1 ∷ filled mss rs
filled ((m ∷ ms) ∷ mss) (r ∷ rs) = r ∷ filled mss rs

filled_open : (mss : List (List Member)) (rs : List ℕ) → length rs ≡ length mss → (n : ℕ) → slice_get mss n ≡ Some [] → rank_of (filled mss rs) n ≡ 1
unfolding filled
filled_open [] rs e n is = absurd cc
filled_open (ms ∷ mss) [] e n is = absurd (omega (arith, e))
filled_open ([] ∷ mss) (r ∷ rs) e zero is = refl
filled_open ((m ∷ ms) ∷ mss) (r ∷ rs) e zero is = absurd cc
filled_open ([] ∷ mss) (r ∷ rs) e (suc n) is = filled_open mss rs (omega (arith, e)) n is
filled_open ((m ∷ ms) ∷ mss) (r ∷ rs) e (suc n) is = filled_open mss rs (omega (arith, e)) n is

filled_closed : (mss : List (List Member)) (rs : List ℕ) → length rs ≡ length mss → (n : ℕ) (m : Member) (ms : List Member) → slice_get mss n ≡ Some (m ∷ ms) → rank_of (filled mss rs) n ≡ rank_of rs n
unfolding filled
filled_closed [] rs e n x xs is = absurd cc
filled_closed (ms ∷ mss) [] e n x xs is = absurd (omega (arith, e))
filled_closed ([] ∷ mss) (r ∷ rs) e zero x xs is = absurd cc
filled_closed ((m ∷ ms) ∷ mss) (r ∷ rs) e zero x xs is = refl
filled_closed ([] ∷ mss) (r ∷ rs) e (suc n) x xs is = filled_closed mss rs (omega (arith, e)) n x xs is
filled_closed ((m ∷ ms) ∷ mss) (r ∷ rs) e (suc n) x xs is = filled_closed mss rs (omega (arith, e)) n x xs is

-- the structs of a table, of which some may be open: these have no size
pub record AreStacked (s : Structs) (ranks : List ℕ) : Type 0 where
  pub many : length ranks ≡ length s.members
  pub structs : (n : ℕ) (ms : List Member) → slice_get s.members n ≡ Some ms → IsStruct s ranks n ms
  pub sized : (n : ℕ) → IsTrue (is_size (listed s.sizes n)) → (m : Member) × (ms : List Member) × (slice_get s.members n ≡ Some (m ∷ ms))

module _ (s : Structs) (ranks : List ℕ) (st : AreStacked s ranks) where
  -- levels ---------------------------------------------------------------------------------------

  abbrev pub others : List ℕ
  others = filled s.members ranks

  kept_height : (t : Ty) → IsTrue (will_be_object s.sizes t) → height ranks t ≡ height others t
  kept_height = height_same s.sizes ranks others (λ n w. let is = st.sized n w in sym (filled_closed s.members ranks st.many n is.0 is.1 is.2))

  ranked_by : (n : ℕ) (ms : List Member) → slice_get s.members n ≡ Some ms → IsStruct s ranks n ms → IsRanked (struct_tys s.members) others n (tys_of ms)
  ranked_by n [] e c =
      let one = filled_open s.members ranks st.many n e in
      let lt : n < length s.members = slice_get_within s.members n [] e in
      let same : length (struct_tys s.members) ≡ length s.members = length-map s.members tys_of in
      record { first = omega (arith, one); last = omega (arith, one, lt, same); above = each_all _ [] tt }
  ranked_by n (m ∷ ms) e c =
      let one = filled_closed s.members ranks st.many n m ms e in
      let few : count_by has_members s.members ≤ length s.members = count_by-le-length has_members s.members in
      let same : length (struct_tys s.members) ≡ length s.members = length-map s.members tys_of in
      let first = c.first in
      let last = c.last in
      record {
        first = omega (arith, one, first);
        last = omega (arith, one, last, few, same);
        above = each_all _ (tys_of (m ∷ ms)) (each_with (λ t. IsTrue (will_be_object s.sizes t)) (λ t. height ranks t < rank_of ranks n) (λ t. height others t < rank_of others n)
            (λ t k lt. let two = kept_height t k in omega (arith, two, one, lt)) (tys_of (m ∷ ms)) (members_kept s.sizes 0 (m ∷ ms) c.members) (all_each _ (tys_of (m ∷ ms)) c.above));
      }

  -- the members behind the types
  pub members_at : (n : ℕ) (tys : List Ty) → slice_get (struct_tys s.members) n ≡ Some tys → (ms : List Member) × (slice_get s.members n ≡ Some ms) × (tys_of ms ≡ tys)
  members_at n tys e = by (slice_get s.members n) refl
    where
      by : (o : Option (List Member)) → slice_get s.members n ≡ o → (ms : List Member) × (slice_get s.members n ≡ Some ms) × (tys_of ms ≡ tys)
      by None is = absurd (let no : None ≡ Some tys = sym (slice_get-map tys_of s.members n ∙ ap (option_map tys_of) is) ∙ e in cc)
      by (Some ms) is = (ms, is, (let two : Some (tys_of ms) ≡ Some tys = sym (slice_get-map tys_of s.members n ∙ ap (option_map tys_of) is) ∙ e in cc))

  ranked : AreRanked (struct_tys s.members) others
  ranked n tys e = let is = members_at n tys e in subst (λ l. IsRanked (struct_tys s.members) others n l) is.2 (ranked_by n is.0 is.1 (st.structs n is.0 is.1))

  pub stacked_known : Known (struct_tys s.members) others
  stacked_known = known (struct_tys s.members) others ranked

  pub stacked_level : table_shapes s ≡ next_level (struct_tys s.members) (table_shapes s)
  stacked_level = stacked_known.level

  -- the cells are the only ones ------------------------------------------------------------------

  -- these shapes have the cells of the table's structs
  abbrev pub Has : List Shape → Type 0
  Has X = (n : ℕ) (ms : List Member) → slice_get s.members n ≡ Some ms → slice_get X n ≡ Some (in_order (map (shape_of X) (tys_of ms)))

  module _ (X Y : List Shape) (hx : Has X) (hy : Has Y) where
    struct_same : (n : ℕ) (m : Member) (ms : List Member) → slice_get s.members n ≡ Some (m ∷ ms) → IsClosed s ranks n (m ∷ ms) →
        ((k : ℕ) → IsTrue (is_size (listed s.sizes k)) → rank_of ranks k < rank_of ranks n → slice_get X k ≡ slice_get Y k) → slice_get X n ≡ slice_get Y n
    struct_same n m ms e c below = hx n (m ∷ ms) e ∙ ap (λ l. Some (in_order l)) (map_each (shape_of X) (shape_of Y) (tys_of (m ∷ ms))
        (each_with (λ t. IsTrue (will_be_object s.sizes t)) (λ t. height ranks t < rank_of ranks n) (λ t. shape_of X t ≡ shape_of Y t)
        (shape_below X Y s.sizes ranks (rank_of ranks n) below) (tys_of (m ∷ ms)) (members_kept s.sizes 0 (m ∷ ms) c.members) (all_each _ (tys_of (m ∷ ms)) c.above)))
        ∙ sym (hy n (m ∷ ms) e)

    upto : (r n : ℕ) → IsTrue (is_size (listed s.sizes n)) → rank_of ranks n < r → slice_get X n ≡ slice_get Y n
    upto zero n w lt = absurd (omega (arith, lt))
    upto (suc r) n w lt = let is = st.sized n w in
        struct_same n is.0 is.1 is.2 (st.structs n (is.0 ∷ is.1) is.2) (λ k v less. upto r k v (omega (arith, lt, less)))

    -- structs that have a size
    pub sized_same : (n : ℕ) → IsTrue (is_size (listed s.sizes n)) → slice_get X n ≡ slice_get Y n
    sized_same n w = upto (suc (rank_of ranks n)) n w (omega arith)

    -- all structs of the table
    pub cells_same : (n : ℕ) (ms : List Member) → slice_get s.members n ≡ Some ms → slice_get X n ≡ slice_get Y n
    cells_same n [] e = hx n [] e ∙ sym (hy n [] e)
    cells_same n (m ∷ ms) e = let is = st.structs n (m ∷ ms) e in sized_same n is.sized

-- shapes that are the next ones too
pub has_level : (mss : List (List Member)) (X : List Shape) → X ≡ next_level (struct_tys mss) X → (n : ℕ) (ms : List Member) → slice_get mss n ≡ Some ms → slice_get X n ≡ Some (in_order (map (shape_of X) (tys_of ms)))
has_level mss X e n ms is = ap (λ l. slice_get l n) e ∙ slice_get-map (λ tys. in_order (map (shape_of X) tys)) (struct_tys mss) n
    ∙ ap (option_map (λ tys. in_order (map (shape_of X) tys))) (slice_get-map tys_of mss n ∙ ap (option_map tys_of) is)
