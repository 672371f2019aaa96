-- Equality of types.
use Rattle.std.proofs.Common.{◌≡◌, ℕ, Bool, refl, sym, ap, ◌∙◌, subst, arith}
use Rattle.std.specs.Prelude.{IsTrue, ◌==◌}
use Rattle.std.proofs.lemmas.Bool.{eqb-true}
use Rattle.std.proofs.lemmas.Grind.{common_steps}
use Rattle.xc_tree.specs.declared.ty.Ty.{Ty, out-Ty, roll-Ty, roll-out-Ty, out-roll-Ty}
use Rattle.xc_tree.specs.declared.ty.Ty.TheOpen.{Ty-F}
use Rattle.xc_tree.specs.declared.ty.Ty.TheFolds.{ind-Ty, map-Ty, fold-roll-Ty}
use Rattle.xc_tree.proofs.Lists.{and_left, and_right, and_both}
use Rattle.xc_tree.specs.Types.{same_ty, same_at}

abbrev step : Ty-F (Ty → Bool) → Ty → Bool
step l t = same_at l (out-Ty t)

-- types that are the same are equal -----------------------------------------

abbrev Sound : Ty → Type 0
Sound t = (u : Ty) → IsTrue (same_ty t u) → t ≡ u

abbrev Child : Type 0
Child = (t : Ty) × Sound t

abbrev layer : Ty-F Child → Ty-F Ty
layer y = map-Ty Child Ty (λ c. c.0) y

sound_level : (y : Ty-F Child) (z : Ty-F Ty) → IsTrue (same_at (map-Ty Ty (Ty → Bool) same_ty (layer y)) z) → layer y ≡ z
sound_level Ty-F.Void Ty-F.Void h = refl
sound_level Ty-F.Int Ty-F.Int h = refl
sound_level Ty-F.Uint Ty-F.Uint h = refl
sound_level (Ty-F.Ptr c) (Ty-F.Ptr u) h = ap Ty-F.Ptr (c.1 u h)
sound_level (Ty-F.Array n c) (Ty-F.Array m u) h =
    let k = eqb-true n m (and_left (n == m) _ h) in
    let e = c.1 u (and_right (n == m) _ h) in
    (λ i. Ty-F.Array (k i) (e i))
sound_level (Ty-F.Struct n) (Ty-F.Struct m) h = ap Ty-F.Struct (eqb-true n m h)
sound_level (Ty-F.Sync c) (Ty-F.Sync u) h = ap Ty-F.Sync (c.1 u h)
sound_level (Ty-F.Future c) (Ty-F.Future u) h = ap Ty-F.Future (c.1 u h)
sound_level _ _ h = absurd cc

pub same_is : (t u : Ty) → IsTrue (same_ty t u) → t ≡ u
same_is = ind-Ty Sound (λ x y is. subst (λ z. Sound (roll-Ty z)) is (λ u h.
    let opened = ap (λ f. f u) (fold-roll-Ty (Ty → Bool) step (layer y)) in
    ap roll-Ty (sound_level y (out-Ty u) (subst IsTrue opened h)) ∙ roll-out-Ty u))

-- a type is the same as itself ----------------------------------------------

abbrev Same : Ty → Type 0
Same t = IsTrue (same_ty t t)

abbrev Self : Type 0
Self = (t : Ty) × Same t

abbrev selves : Ty-F Self → Ty-F Ty
selves y = map-Ty Self Ty (λ c. c.0) y

eqb_self : (n : ℕ) → IsTrue (n == n)
eqb_self n = grind (arith, common_steps)

same_level : (y : Ty-F Self) → IsTrue (same_at (map-Ty Ty (Ty → Bool) same_ty (selves y)) (selves y))
same_level Ty-F.Void = refl
same_level Ty-F.Int = refl
same_level Ty-F.Uint = refl
same_level (Ty-F.Ptr c) = c.1
same_level (Ty-F.Array n c) = and_both (n == n) _ (eqb_self n) c.1
same_level (Ty-F.Struct n) = eqb_self n
same_level (Ty-F.Sync c) = c.1
same_level (Ty-F.Future c) = c.1

pub same_self : (t : Ty) → IsTrue (same_ty t t)
same_self = ind-Ty Same (λ x y is. subst (λ z. Same (roll-Ty z)) is
    (let opened = ap (λ f. f (roll-Ty (selves y))) (fold-roll-Ty (Ty → Bool) step (selves y)) in
    let here = ap (same_at (map-Ty Ty (Ty → Bool) same_ty (selves y))) (out-roll-Ty (selves y)) in
    subst IsTrue (sym (opened ∙ here)) (same_level y)))
