-- The first cells of a global without an initialiser.
use Rattle.std.proofs.Common.{◌≡◌, ℕ, zero, suc, ◌+◌, ◌-◌, ◌*◌, ◌^◌, ◌<◌, ◌≤◌, min, List, [], ◌∷◌, ◌++◌, length, map, true, refl, sym, ap, ◌∙◌, subst, arith}
use Rattle.std.specs.Prelude.{IsTrue, is_some, ◌&&◌, replicate, Option, Some, None, slice_get, unwrap_or}
use Rattle.std.proofs.lemmas.List.{length-append}
use Rattle.std.proofs.lemmas.Nat.{mul-add-lt}
use Rattle.std.proofs.lemmas.List.Sums.{sum_by-cons}
use Rattle.xc_tree.specs.declared.ty.Ty.{Ty, Int, Uint, Ptr, Sync, Future, roll-Ty, out-roll-Ty}
use Rattle.xc_tree.specs.declared.ty.Ty.TheOpen.{Ty-F}
use Rattle.xc_tree.specs.declared.ty.Ty.TheFolds.{map-Ty, fold-roll-Ty}
use Rattle.xc_tree.specs.declared.tree.Object.{Object}
use Rattle.xc_tree.specs.Lists.{joined, passes}
use Rattle.xc_tree.specs.Types.{Shape, Formed, formed, form_step, struct_formed, one_cell, in_order, is_size, is_number, is_qualified, qualified_at, base, shape_of}
use Rattle.xc_tree.specs.Valid.{word_ok, cell_ok, cells_from}
use Rattle.xc_tree.proofs.Lists.{and_left, and_right, and_both}
use Rattle.xc_type_rule.specs.declared.found.Member.{Member}
use Rattle.xc_type_rule.specs.Cells.{listed}
use Rattle.xc_type_structs.specs.declared.structs.Structs.{Structs}
use Rattle.xc_type_structs.specs.Table.{part_cells}
use Rattle.xc_type_initialiser_objects.specs.Cells.{Cell, fresh, vacant, start_step, start_of, typed_start, struct_start, starts_within}
use Rattle.xc_type_initialiser_objects.proofs.Starting.{one_level}
use Rattle.xc_welltyped_claims.specs.Ranks.{height, rank_of}
use Rattle.xc_welltyped.proofs.Types.{or_right}
use Rattle.xc_welltyped_claims.specs.Lists.{Each}
use Rattle.xc_welltyped_claims.specs.Types.{will_be_object}
use Rattle.xc_welltyped_claims.specs.Table.{with_known, tys_of, AreMembers, IsTable}
use Rattle.xc_welltyped_structs.proofs.Lists.{all_each, each_with}
use Rattle.xc_welltyped_structs.proofs.Kept.{scalar_at, by_kept, height_array, height_struct}
use Rattle.xc_welltyped_structs.proofs.Ranked.{members_kept}
use Rattle.xc_welltyped_structs.proofs.Tables.{table_stacked}
use Rattle.xc_welltyped_statements.proofs.Members.{first_part, next_part}
use Rattle.xc_welltyped_statements.proofs.Parts.{repeated_cell}
use Rattle.xc_welltyped_statements.proofs.Scalar.{is_scalar, int_scalar, uint_scalar, pointer_scalar, sync_scalar, future_scalar}

module _ (globals : List Object) where
  abbrev pub From : (ℕ → Option Ty) → ℕ → List Cell → Type 0
  From cell k cs = IsTrue (cells_from globals cell k cs)

  from_both : (cell : ℕ → Option Ty) (k : ℕ) (xs ys : List Cell) → From cell k xs → From cell (k + length xs) ys → From cell k (xs ++ ys)
  from_both cell k [] ys h g = let same : k + 0 ≡ k = omega arith in subst (λ m. From cell m ys) same g
  from_both cell k (x ∷ xs) ys h g =
      let next : k + suc (length xs) ≡ (k + 1) + length xs = omega arith in
      and_both (passes (λ ty. cell_ok globals ty x) (cell k)) _ (and_left (passes (λ ty. cell_ok globals ty x) (cell k)) _ h)
      (from_both cell (k + 1) xs ys (and_right (passes (λ ty. cell_ok globals ty x) (cell k)) _ h) (subst (λ m. From cell m ys) next g))

  -- as many cells, each of which may be so
  pub record Fits (cs : List Cell) (h : Shape) : Type 0 where
    pub many : length cs ≡ h.size
    pub cells : (cell : ℕ → Option Ty) (k : ℕ) → ((j : ℕ) → j < h.size → cell (k + j) ≡ h.cell j) → From cell k cs

  fits_none : Fits [] (in_order [])
  fits_none = record { many = refl; cells = λ cell k f. refl }

  -- one behind another
  fits_next : (xs ys : List Cell) (h : Shape) (hs : List Shape) → Fits xs h → Fits ys (in_order hs) → Fits (xs ++ ys) (in_order (h ∷ hs))
  fits_next xs ys h hs f g =
      let sum = sum_by-cons (λ (h : Shape). h.size) h hs in
      let one = f.many in
      let rest = g.many in
      let both = length-append xs ys in
      record {
        many = omega (arith, sum, one, rest, both);
        cells = λ cell k same. from_both cell k xs ys
            (f.cells cell k (λ j lt. same j (omega (arith, sum, lt)) ∙ first_part h hs j lt))
            (g.cells cell (k + length xs) (λ j lt.
            let at : (k + length xs) + j ≡ k + (h.size + j) = omega (arith, one) in
            ap cell at ∙ same (h.size + j) (omega (arith, sum, lt)) ∙ next_part h hs h.size j refl));
      }

  -- scalars ------------------------------------------------------------------------

  full_ok : (u : Ty) → IsTrue (is_scalar u) → IsTrue (cell_ok globals u fresh)
  full_ok u h = at (base u) h
    where
      at : (o : Option Ty) → IsTrue (is_some o) → IsTrue (passes (word_ok globals 0) o)
      at None h = h
      at (Some b) h = or_right (is_number b) _ refl

  empty_ok : (u : Ty) → is_qualified u ≡ true → IsTrue (is_scalar u) → IsTrue (cell_ok globals u vacant)
  empty_ok u q h = and_both (is_qualified u && true) _ (and_both (is_qualified u) _ q refl) (full_ok u h)

  one_fits : (u : Ty) (c : Cell) → IsTrue (cell_ok globals u c) → Fits (c ∷ []) (one_cell u)
  one_fits u c h = record {
    many = refl;
    cells = λ cell k same.
        let here : k ≡ k + 0 = omega arith in
        let at : cell k ≡ Some u = ap cell here ∙ same 0 (omega arith) in
        and_both (passes (λ ty. cell_ok globals ty c) (cell k)) _ (subst (λ o. IsTrue (passes (λ ty. cell_ok globals ty c) o)) (sym at) h) refl;
  }

  sync_qualified : (t : Ty) → is_qualified (Sync t) ≡ true
  unfolding roll-Ty denote.Hole.Carrier.roll
  sync_qualified t = ap qualified_at (out-roll-Ty (Ty-F.Sync t))

  future_qualified : (t : Ty) → is_qualified (Future t) ≡ true
  unfolding roll-Ty denote.Hole.Carrier.roll
  future_qualified t = ap qualified_at (out-roll-Ty (Ty-F.Future t))

  -- types ----------------------------------------------------------------------------

  module _ (starts : List (List Cell)) (X : List Shape) where
    scalar_fits : (l : Ty-F Ty) → IsTrue (scalar_at l) → Fits (start_step starts (map-Ty Ty (List Cell) (start_of starts) l)) (form_step X (map-Ty Ty Formed (formed X) l)).shape
    scalar_fits Ty-F.Int h = one_fits Int fresh (full_ok Int int_scalar)
    scalar_fits Ty-F.Uint h = one_fits Uint fresh (full_ok Uint uint_scalar)
    scalar_fits (Ty-F.Ptr t) h = one_fits (Ptr (formed X t).ty) fresh (full_ok (Ptr (formed X t).ty) (pointer_scalar (formed X t).ty))
    scalar_fits (Ty-F.Sync t) h = one_fits (Sync (formed X t).ty) vacant (empty_ok (Sync (formed X t).ty) (sync_qualified (formed X t).ty) (sync_scalar (formed X t).ty))
    scalar_fits (Ty-F.Future t) h = one_fits (Future (formed X t).ty) vacant (empty_ok (Future (formed X t).ty) (future_qualified (formed X t).ty) (future_scalar (formed X t).ty))
    scalar_fits Ty-F.Void h = absurd cc
    scalar_fits (Ty-F.Array n t) h = absurd cc
    scalar_fits (Ty-F.Struct s) h = absurd cc

    abbrev FitsTy : Ty → Type 0
    FitsTy t = Fits (start_of starts t) (shape_of X t)

    rolled : (l : Ty-F Ty) → Fits (start_step starts (map-Ty Ty (List Cell) (start_of starts) l)) (form_step X (map-Ty Ty Formed (formed X) l)).shape → FitsTy (roll-Ty l)
    rolled l f = subst (λ cs. Fits cs (shape_of X (roll-Ty l))) (sym (fold-roll-Ty (List Cell) (start_step starts) l))
        (subst (λ (g : Formed). Fits (start_step starts (map-Ty Ty (List Cell) (start_of starts) l)) g.shape) (sym (fold-roll-Ty Formed (form_step X) l)) f)

    -- so many elements
    elements_many : (n : ℕ) (cs : List Cell) (h : Shape) → Fits cs h → length (joined (replicate n cs)) ≡ n * h.size
    elements_many zero cs h f = let none : 0 ≡ 0 * h.size = omega arith in none
    elements_many (suc n) cs h f = let one = f.many in let rest = elements_many n cs h f in let both = length-append cs (joined (replicate n cs)) in omega (arith, one, rest, both)

    elements_from : (n : ℕ) (cs : List Cell) (h : Shape) → Fits cs h → (cell : ℕ → Option Ty) (k : ℕ) → ((i j : ℕ) → i < n → j < h.size → cell (k + (i * h.size + j)) ≡ h.cell j) → From cell k (joined (replicate n cs))
    elements_from zero cs h f cell k same = refl
    elements_from (suc n) cs h f cell k same =
        let one = f.many in
        from_both cell k cs (joined (replicate n cs)) (f.cells cell k (λ j lt. let here : k + j ≡ k + (0 * h.size + j) = omega arith in ap cell here ∙ same 0 j (omega arith) lt))
        (elements_from n cs h f cell (k + length cs) (λ i j less lt.
        let at : (k + length cs) + (i * h.size + j) ≡ k + (suc i * h.size + j) = omega (arith, one) in
        ap cell at ∙ same (suc i) j (omega (arith, less)) lt))

    array_fits : (n : ℕ) (t : Ty) → FitsTy t → FitsTy (roll-Ty (Ty-F.Array n t))
    array_fits n t f = rolled (Ty-F.Array n t) (record {
      many = elements_many n (start_of starts t) (shape_of X t) f;
      cells = λ cell k same. elements_from n (start_of starts t) (shape_of X t) f cell k (λ i j less lt.
          let inside = mul-add-lt i (shape_of X t).size j n less lt in
          same (i * (shape_of X t).size + j) (omega (arith, inside)) ∙ repeated_cell n (shape_of X t) i j less lt);
    })

    -- members, all of types
    members_fit : (ns : List ℕ) (off : ℕ) (ms : List Member) → AreMembers ns off ms → Each FitsTy (tys_of ms) → Fits (struct_start starts ms) (in_order (map (shape_of X) (tys_of ms)))
    members_fit ns off [] h f = fits_none
    members_fit ns off (m ∷ ms) h f =
        let is = h.0.typed in
        let both : Each FitsTy (h.0.ty ∷ tys_of ms) = subst (λ o. Each FitsTy (with_known o (tys_of ms))) is f in
        subst (λ o. Fits (typed_start starts o ++ struct_start starts ms) (in_order (map (shape_of X) (with_known o (tys_of ms))))) (sym is)
        (fits_next (start_of starts h.0.ty) (struct_start starts ms) (shape_of X h.0.ty) (map (shape_of X) (tys_of ms)) both.0
        (members_fit ns (min (off + part_cells ns m.ty) (2 ^ 32 - 1)) ms h.1 both.1))

  -- structs, by their ranks ------------------------------------------------------------

  module _ (s : Structs) (table : IsTable s) (X : List Shape) (has : (n : ℕ) (ms : List Member) → slice_get s.members n ≡ Some ms → AreMembers s.sizes 0 ms → slice_get X n ≡ Some (in_order (map (shape_of X) (tys_of ms)))) where
    abbrev pub ranks : List ℕ
    ranks = table.ranks

    abbrev pub StructFits : ℕ → ℕ → Type 0
    StructFits d n = Fits (unwrap_or (slice_get (starts_within d s.members) n) []) (struct_formed n (slice_get X n)).shape

    pub types_fit : (d : ℕ) → ((n : ℕ) → IsTrue (is_size (listed s.sizes n)) → rank_of ranks n ≤ d → StructFits d n) → (ty : Ty) → IsTrue (will_be_object s.sizes ty) → height ranks ty ≤ d →
        Fits (start_of (starts_within d s.members) ty) (shape_of X ty)
    types_fit d lower = by_kept s.sizes (λ ty. height ranks ty ≤ d → Fits (start_of (starts_within d s.members) ty) (shape_of X ty))
        (λ l h le. rolled (starts_within d s.members) X l (scalar_fits (starts_within d s.members) X l h))
        (λ n of f le. array_fits (starts_within d s.members) X n of (f (subst (λ k. k ≤ d) (height_array ranks n of) le)))
        (λ n w le. rolled (starts_within d s.members) X (Ty-F.Struct n) (lower n w (subst (λ k. k ≤ d) (height_struct ranks n) le)))

    pub struct_fits : (d n : ℕ) → IsTrue (is_size (listed s.sizes n)) → rank_of ranks n ≤ d → StructFits d n
    struct_fits zero n w le =
        let is = (table_stacked s table).sized n w in
        let c = table.structs n (is.0 ∷ is.1) is.2 in
        let first = c.first in absurd (omega (arith, first, le))
    struct_fits (suc d) n w le =
        let is = (table_stacked s table).sized n w in
        let c = table.structs n (is.0 ∷ is.1) is.2 in
        let ms : List Member = is.0 ∷ is.1 in
        let below : suc d - 1 ≡ d = omega arith in
        let cells = one_level (suc d) n s.members ms (omega arith) is.2 ∙ ap (λ d. struct_start (starts_within d s.members) ms) below in
        subst (λ cs. Fits cs (struct_formed n (slice_get X n)).shape) (sym cells)
        (subst (λ o. Fits (struct_start (starts_within d s.members) ms) (struct_formed n o).shape) (sym (has n ms is.2 c.members))
        (members_fit (starts_within d s.members) X s.sizes 0 ms c.members
        (each_with (λ t. IsTrue (will_be_object s.sizes t)) (λ t. height ranks t < rank_of ranks n) (FitsTy (starts_within d s.members) X)
        (λ t h lt. types_fit d (struct_fits d) t h (omega (arith, lt, le)))
        (tys_of ms) (members_kept s.sizes 0 ms c.members) (all_each (λ t. height ranks t < rank_of ranks n) (tys_of ms) c.above))))
