-- Types that are the same are one, and what stands at the place of a plain object.
use Rattle.std.proofs.Common.{◌≡◌, ℕ, zero, suc, ◌<◌, List, [], ◌∷◌, length, map, Bool, true, false, refl, sym, ap, ◌∙◌, subst}
use Rattle.std.specs.Prelude.{IsTrue, ◌&&◌, ◌==◌, not, Option, Some, None, slice_get, option_and_then}
use Rattle.std.proofs.lemmas.Bool.{eqb-true}
use Rattle.xc_tree.specs.declared.ty.Ty.{Ty, out-Ty, roll-Ty}
use Rattle.xc_tree.specs.declared.ty.Ty.TheOpen.{Ty-F}
use Rattle.xc_tree.specs.declared.ty.Ty.TheViews.{roll-out-Ty}
use Rattle.xc_tree.specs.declared.ty.Ty.TheFolds.{fold-Ty, fold-roll-Ty, fold_out-Ty, ind-Ty, map-Ty}
use Rattle.xc_tree.specs.Lists.{passes}
use Rattle.xc_tree.specs.Types.{same_at, same_ty, is_plain, plain_at, base_at, base, pointee, content}
use Rattle.xc_tree.specs.Typed.{leads_to}
use Rattle.xc_tree.proofs.Lists.{and_left, and_right}

abbrev Sound : Ty → Type 0
Sound a = (b : Ty) → IsTrue (same_ty a b) → a ≡ b

abbrev Child : Type 0
Child = (t : Ty) × Sound t

abbrev layer : Ty-F Child → Ty-F Ty
layer y = map-Ty Child Ty (λ t. t.0) y

same_layer : (y : Ty-F Child) (b : Ty-F Ty) → IsTrue (same_at (map-Ty Ty (Ty → Bool) same_ty (layer y)) b) → layer y ≡ b
same_layer Ty-F.Void Ty-F.Void h = refl
same_layer Ty-F.Int Ty-F.Int h = refl
same_layer Ty-F.Uint Ty-F.Uint h = refl
same_layer (Ty-F.Ptr x) (Ty-F.Ptr b) h = ap Ty-F.Ptr (x.1 b h)
same_layer (Ty-F.Array n x) (Ty-F.Array m b) h = ap (λ k. Ty-F.Array k x.0) (eqb-true n m (and_left _ _ h)) ∙ ap (Ty-F.Array m) (x.1 b (and_right (n == m) _ h))
same_layer (Ty-F.Struct n) (Ty-F.Struct m) h = ap Ty-F.Struct (eqb-true n m h)
same_layer (Ty-F.Sync x) (Ty-F.Sync b) h = ap Ty-F.Sync (x.1 b h)
same_layer (Ty-F.Future x) (Ty-F.Future b) h = ap Ty-F.Future (x.1 b h)
same_layer _ _ h = absurd cc

-- equal types are one
pub same_is : (a b : Ty) → IsTrue (same_ty a b) → a ≡ b
same_is = ind-Ty Sound
    (λ x y is. subst (λ z. Sound (roll-Ty z)) is (λ b h.
    ap roll-Ty (same_layer y (out-Ty b) (subst (λ f. IsTrue (f b)) (fold-roll-Ty (Ty → Bool) (λ l t. same_at l (out-Ty t)) (layer y)) h)) ∙ roll-out-Ty b))

-- what has no qualifier is its own base
plain_base : (t : Ty) → IsTrue (is_plain t) → base t ≡ Some t
plain_base t h = at (out-Ty t) h
  where
    at : (l : Ty-F Ty) → IsTrue (plain_at l) → base_at t l ≡ Some t
    at Ty-F.Int h = refl
    at Ty-F.Uint h = refl
    at (Ty-F.Ptr to) h = refl
    at Ty-F.Void h = absurd cc
    at (Ty-F.Array n of) h = absurd cc
    at (Ty-F.Struct n) h = absurd cc
    at (Ty-F.Sync of) h = absurd cc
    at (Ty-F.Future of) h = absurd cc

-- a pointer to an object of this type
pub pointee_is : (t ty : Ty) → IsTrue (leads_to (Some t) ty) → pointee ty ≡ Some t
pointee_is t ty h = at (pointee ty) h
  where
    at : (o : Option Ty) → IsTrue (passes (same_ty t) o) → o ≡ Some t
    at None h = absurd cc
    at (Some u) h = ap Some (sym (same_is t u h))

pub content_is : (t ty : Ty) → IsTrue (is_plain t) → IsTrue (leads_to (Some t) ty) → content ty ≡ Some t
content_is t ty plain h = ap (option_and_then base) (pointee_is t ty h) ∙ plain_base t plain
