-- What structs lie in types of objects, once all structs are complete: those that have a size.
use Rattle.std.proofs.Common.{◌≡◌, ℕ, ◌*◌, ◌-◌, ◌^◌, ◌<◌, ◌≤◌, min, List, Bool, true, false, refl, sym, ap, ◌∙◌, subst, arith}
use Rattle.std.specs.Prelude.{IsTrue, slice_get}
use Rattle.xc_tree.specs.declared.ty.Ty.{Ty, roll-Ty, Ptr, Sync, Future}
use Rattle.xc_tree.specs.declared.ty.Ty.TheOpen.{Ty-F}
use Rattle.xc_tree.specs.declared.ty.Ty.TheFolds.{ind-Ty, map-Ty, fold-roll-Ty}
use Rattle.xc_tree.proofs.Lists.{and_left, and_right}
use Rattle.xc_tree.specs.Types.{Shape, Formed, formed, form_step, struct_formed, one_cell, repeated, shape_of, is_size}
use Rattle.xc_type_rule.specs.Cells.{cells, cells_step, listed}
use Rattle.xc_welltyped_claims.specs.Ranks.{height, height_step, rank_of}
use Rattle.xc_welltyped_claims.proofs.RankLevels.{formed_same}
use Rattle.xc_welltyped_claims.specs.Types.{Promise, promise_step, promised, will_be_object}
use Rattle.xc_welltyped_structs.proofs.Scalars.{at_layer}

-- a scalar
abbrev pub scalar_at : {A : Type 0} → Ty-F A → Bool
scalar_at Ty-F.Int = true
scalar_at Ty-F.Uint = true
scalar_at (Ty-F.Ptr to) = true
scalar_at (Ty-F.Sync of) = true
scalar_at (Ty-F.Future of) = true
scalar_at _ = false

module _ (ns : List ℕ) (Q : Ty → Type 0) (scalar : (l : Ty-F Ty) → IsTrue (scalar_at l) → Q (roll-Ty l)) (array : (n : ℕ) (of : Ty) → Q of → Q (roll-Ty (Ty-F.Array n of)))
    (struct : (s : ℕ) → IsTrue (is_size (listed ns s)) → Q (roll-Ty (Ty-F.Struct s))) where
  abbrev Child : Type 0
  Child = (t : Ty) × (IsTrue (will_be_object ns t) → Q t)

  abbrev layer : Ty-F Child → Ty-F Ty
  layer y = map-Ty Child Ty (λ c. c.0) y

  level : (y : Ty-F Child) → IsTrue (promise_step ns (map-Ty Ty Promise (promised ns) (layer y))).kept → Q (roll-Ty (layer y))
  level Ty-F.Void h = absurd cc
  level Ty-F.Int h = scalar Ty-F.Int refl
  level Ty-F.Uint h = scalar Ty-F.Uint refl
  level (Ty-F.Ptr c) h = scalar (Ty-F.Ptr c.0) refl
  level (Ty-F.Array n c) h = array n c.0 (c.1 (and_left (promised ns c.0).kept _ h))
  level (Ty-F.Struct s) h = struct s h
  level (Ty-F.Sync c) h = scalar (Ty-F.Sync c.0) refl
  level (Ty-F.Future c) h = scalar (Ty-F.Future c.0) refl

  -- by its structs
  pub by_kept : (t : Ty) → IsTrue (will_be_object ns t) → Q t
  by_kept = ind-Ty (λ t. IsTrue (will_be_object ns t) → Q t) (λ x y is. subst (λ z. IsTrue (will_be_object ns (roll-Ty z)) → Q (roll-Ty z)) is (λ h.
      level y (subst (λ (p : Promise). IsTrue p.kept) (fold-roll-Ty Promise (promise_step ns) (layer y)) h)))

-- it has a size -------------------------------------------------------------------------

module _ (ns : List ℕ) where
  size_level : (l : Ty-F Ty) → IsTrue (promise_step ns (map-Ty Ty Promise (promised ns) l)).kept → IsTrue (is_size (promise_step ns (map-Ty Ty Promise (promised ns) l)).size)
  size_level Ty-F.Void h = absurd cc
  size_level Ty-F.Int h = refl
  size_level Ty-F.Uint h = refl
  size_level (Ty-F.Ptr t) h = refl
  size_level (Ty-F.Array n t) h = and_right (promised ns t).kept _ h
  size_level (Ty-F.Struct s) h = h
  size_level (Ty-F.Sync t) h = refl
  size_level (Ty-F.Future t) h = refl

  pub kept_sized : (t : Ty) → IsTrue (will_be_object ns t) → IsTrue (is_size (promised ns t).size)
  kept_sized = at_layer (λ t. IsTrue (will_be_object ns t) → IsTrue (is_size (promised ns t).size))
      (λ l. subst (λ (p : Promise). IsTrue p.kept → IsTrue (is_size p.size)) (sym (fold-roll-Ty Promise (promise_step ns) l)) (size_level l))

-- heights ---------------------------------------------------------------------------------

module _ (ranks : List ℕ) where
  scalar_height : (l : Ty-F Ty) → IsTrue (scalar_at l) → height_step ranks (map-Ty Ty ℕ (height ranks) l) ≡ 0
  scalar_height Ty-F.Int h = refl
  scalar_height Ty-F.Uint h = refl
  scalar_height (Ty-F.Ptr t) h = refl
  scalar_height (Ty-F.Sync t) h = refl
  scalar_height (Ty-F.Future t) h = refl
  scalar_height Ty-F.Void h = absurd cc
  scalar_height (Ty-F.Array n t) h = absurd cc
  scalar_height (Ty-F.Struct s) h = absurd cc

  pub height_scalar : (l : Ty-F Ty) → IsTrue (scalar_at l) → height ranks (roll-Ty l) ≡ 0
  height_scalar l h = fold-roll-Ty ℕ (height_step ranks) l ∙ scalar_height l h

  pub height_array : (n : ℕ) (of : Ty) → height ranks (roll-Ty (Ty-F.Array n of)) ≡ height ranks of
  height_array n of = fold-roll-Ty ℕ (height_step ranks) (Ty-F.Array n of)

  pub height_struct : (s : ℕ) → height ranks (roll-Ty (Ty-F.Struct s)) ≡ rank_of ranks s
  height_struct s = fold-roll-Ty ℕ (height_step ranks) (Ty-F.Struct s)

-- other ranks of the other structs
pub height_same : (ns ranks others : List ℕ) → ((s : ℕ) → IsTrue (is_size (listed ns s)) → rank_of ranks s ≡ rank_of others s) →
    (t : Ty) → IsTrue (will_be_object ns t) → height ranks t ≡ height others t
height_same ns ranks others same = by_kept ns (λ t. height ranks t ≡ height others t)
    (λ l h. height_scalar ranks l h ∙ sym (height_scalar others l h))
    (λ n of e. height_array ranks n of ∙ e ∙ sym (height_array others n of))
    (λ s w. height_struct ranks s ∙ same s w ∙ sym (height_struct others s))

pub height_most : (ns ranks : List ℕ) (k : ℕ) → ((s : ℕ) → IsTrue (is_size (listed ns s)) → rank_of ranks s ≤ k) →
    (t : Ty) → IsTrue (will_be_object ns t) → height ranks t ≤ k
height_most ns ranks k most = by_kept ns (λ t. height ranks t ≤ k)
    (λ l h. let none = height_scalar ranks l h in omega (arith, none))
    (λ n of le. subst (λ m. m ≤ k) (sym (height_array ranks n of)) le)
    (λ s w. subst (λ m. m ≤ k) (sym (height_struct ranks s)) (most s w))

-- cells -------------------------------------------------------------------------------------

scalar_cells : (ns : List ℕ) (l : Ty-F Ty) → IsTrue (scalar_at l) → cells_step ns (map-Ty Ty ℕ (cells ns) l) ≡ 1
scalar_cells ns Ty-F.Int h = refl
scalar_cells ns Ty-F.Uint h = refl
scalar_cells ns (Ty-F.Ptr t) h = refl
scalar_cells ns (Ty-F.Sync t) h = refl
scalar_cells ns (Ty-F.Future t) h = refl
scalar_cells ns Ty-F.Void h = absurd cc
scalar_cells ns (Ty-F.Array n t) h = absurd cc
scalar_cells ns (Ty-F.Struct s) h = absurd cc

pub cells_same : (few more : List ℕ) → ((s : ℕ) → IsTrue (is_size (listed few s)) → listed few s ≡ listed more s) →
    (t : Ty) → IsTrue (will_be_object few t) → cells few t ≡ cells more t
cells_same few more same = by_kept few (λ t. cells few t ≡ cells more t)
    (λ l h. fold-roll-Ty ℕ (cells_step few) l ∙ scalar_cells few l h ∙ sym (scalar_cells more l h) ∙ sym (fold-roll-Ty ℕ (cells_step more) l))
    (λ n of e. fold-roll-Ty ℕ (cells_step few) (Ty-F.Array n of) ∙ ap (λ k. min (n * k) (2 ^ 32 - 1)) e ∙ sym (fold-roll-Ty ℕ (cells_step more) (Ty-F.Array n of)))
    (λ s w. fold-roll-Ty ℕ (cells_step few) (Ty-F.Struct s) ∙ same s w ∙ sym (fold-roll-Ty ℕ (cells_step more) (Ty-F.Struct s)))

-- shapes ------------------------------------------------------------------------------------

module _ (S T : List Shape) where
  abbrev at : List Shape → Ty-F Ty → Formed
  at shapes l = form_step shapes (map-Ty Ty Formed (formed shapes) l)

  cell : (t : Ty) (f : Ty → Ty) → one_cell (f (formed S t).ty) ≡ one_cell (f (formed T t).ty)
  cell t f = ap (λ u. one_cell (f u)) (formed_same S t ∙ sym (formed_same T t))

  scalar_shape : (l : Ty-F Ty) → IsTrue (scalar_at l) → (at S l).shape ≡ (at T l).shape
  scalar_shape Ty-F.Int h = refl
  scalar_shape Ty-F.Uint h = refl
  scalar_shape (Ty-F.Ptr t) h = cell t Ptr
  scalar_shape (Ty-F.Sync t) h = cell t Sync
  scalar_shape (Ty-F.Future t) h = cell t Future
  scalar_shape Ty-F.Void h = absurd cc
  scalar_shape (Ty-F.Array n t) h = absurd cc
  scalar_shape (Ty-F.Struct s) h = absurd cc

  both : (l : Ty-F Ty) → (at S l).shape ≡ (at T l).shape → shape_of S (roll-Ty l) ≡ shape_of T (roll-Ty l)
  both l e = ap (λ (f : Formed). f.shape) (fold-roll-Ty Formed (form_step S) l) ∙ e ∙ sym (ap (λ (f : Formed). f.shape) (fold-roll-Ty Formed (form_step T) l))

  -- the same cells, where the structs of lower ranks have
  pub shape_below : (ns ranks : List ℕ) (r : ℕ) → ((s : ℕ) → IsTrue (is_size (listed ns s)) → rank_of ranks s < r → slice_get S s ≡ slice_get T s) →
      (t : Ty) → IsTrue (will_be_object ns t) → height ranks t < r → shape_of S t ≡ shape_of T t
  shape_below ns ranks r agree = by_kept ns (λ t. height ranks t < r → shape_of S t ≡ shape_of T t)
      (λ l h lt. both l (scalar_shape l h))
      (λ n of f lt. both (Ty-F.Array n of) (ap (repeated n) (f (subst (λ k. k < r) (height_array ranks n of) lt))))
      (λ s w lt. both (Ty-F.Struct s) (ap (λ o. (struct_formed s o).shape) (agree s w (subst (λ k. k < r) (height_struct ranks s) lt))))

  pub shape_same : (ns : List ℕ) → ((s : ℕ) → IsTrue (is_size (listed ns s)) → slice_get S s ≡ slice_get T s) →
      (t : Ty) → IsTrue (will_be_object ns t) → shape_of S t ≡ shape_of T t
  shape_same ns agree = by_kept ns (λ t. shape_of S t ≡ shape_of T t)
      (λ l h. both l (scalar_shape l h))
      (λ n of e. both (Ty-F.Array n of) (ap (repeated n) e))
      (λ s w. both (Ty-F.Struct s) (ap (λ o. (struct_formed s o).shape) (agree s w)))
