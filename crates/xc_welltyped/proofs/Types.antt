-- Types: each is the same as itself; what a pointer points to.
use Rattle.std.proofs.Common.{rules, ◌≡◌, ℕ, Bool, true, false, refl, sym, ap, ◌∙◌, subst, arith}
use Rattle.std.specs.Prelude.{IsTrue, ◌||◌, ◌==◌, Some}
use Rattle.std.proofs.lemmas.Grind.{common_steps}
use Rattle.xc_tree.specs.declared.ty.Ty.{Ty, out-Ty, roll-Ty, roll-out-Ty, Ptr}
use Rattle.xc_tree.specs.declared.ty.Ty.TheOpen.{Ty-F}
use Rattle.xc_tree.specs.declared.ty.Ty.TheFolds.{ind-Ty, map-Ty, fold_out-Ty, fold-roll-Ty}
use Rattle.xc_tree.specs.declared.ty.Ty.TheFolds as ty_folds
use Rattle.xc_tree.specs.declared.ty.Ty.TheViews as ty_views
use Rattle.xc_tree.proofs.Lists.{and_both}
use Rattle.xc_tree.specs.Types.{same_ty, same_at, pointee, pointee_at}

pub ruleset ty_opened = (ty_folds.the_lemmas, ty_views.the_lemmas)

pub or_left : (a b : Bool) → IsTrue a → IsTrue (a || b)
or_left true b h = refl
or_left false b h = absurd cc

pub or_right : (a b : Bool) → IsTrue b → IsTrue (a || b)
or_right true b h = refl
or_right false b h = h

-- equality ------------------------------------------------------------------

pub eqb_refl : (n : ℕ) → IsTrue (n == n)
eqb_refl n = grind (arith, common_steps)

abbrev Same : Ty → Type 0
Same t = IsTrue (same_ty t t)

abbrev Child : Type 0
Child = (t : Ty) × Same t

abbrev layer : Ty-F Child → Ty-F Ty
layer y = map-Ty Child Ty (λ c. c.0) y

same_level : (y : Ty-F Child) → IsTrue (same_at (map-Ty Ty (Ty → Bool) same_ty (layer y)) (layer y))
same_level Ty-F.Void = refl
same_level Ty-F.Int = refl
same_level Ty-F.Uint = refl
same_level (Ty-F.Ptr c) = c.1
same_level (Ty-F.Array n c) = and_both (n == n) _ (eqb_refl n) c.1
same_level (Ty-F.Struct n) = eqb_refl n
same_level (Ty-F.Sync c) = c.1
same_level (Ty-F.Future c) = c.1

rolled : (y : Ty-F Child) → IsTrue (same_at (map-Ty Ty (Ty → Bool) same_ty (layer y)) (layer y)) → Same (roll-Ty (layer y))
rolled y h = search (rules, ty_opened, h)

pub same_ty_refl : (t : Ty) → IsTrue (same_ty t t)
same_ty_refl = ind-Ty Same (λ x y is. subst (λ z. Same (roll-Ty z)) is (rolled y (same_level y)))

-- pointers ------------------------------------------------------------------

pub pointee_of : (t : Ty) → pointee (Ptr t) ≡ Some t
pointee_of t = search (rules, ty_opened)

pub is_pointer_to : (ty t : Ty) (y : Ty-F Ty) → out-Ty ty ≡ y → pointee_at y ≡ Some t → ty ≡ Ptr t
unfolding roll-Ty denote.Hole.Carrier.roll
is_pointer_to ty t (Ty-F.Ptr u) o e = let same : u ≡ t = cc in sym (roll-out-Ty ty) ∙ ap roll-Ty o ∙ ap Ptr same
is_pointer_to ty t Ty-F.Void o e = absurd cc
is_pointer_to ty t Ty-F.Int o e = absurd cc
is_pointer_to ty t Ty-F.Uint o e = absurd cc
is_pointer_to ty t (Ty-F.Array n u) o e = absurd cc
is_pointer_to ty t (Ty-F.Struct n) o e = absurd cc
is_pointer_to ty t (Ty-F.Sync u) o e = absurd cc
is_pointer_to ty t (Ty-F.Future u) o e = absurd cc
