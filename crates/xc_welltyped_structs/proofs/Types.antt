-- Types by the sizes of the structs alone, as structs are added and completed.
use Rattle.std.proofs.Common.{◌≡◌, ℕ, ◌*◌, List, [], ◌∷◌, ◌++◌, map, refl, sym, ap, ◌∙◌, subst}
use Rattle.std.specs.Prelude.{IsTrue, ◌&&◌, Option, Some, None, slice_get, option_map}
use Rattle.std.proofs.lemmas.List.{map-append}
use Rattle.std.proofs.lemmas.Option.{slice_get-map}
use Rattle.xc_tree.specs.declared.ty.Ty.{Ty, roll-Ty}
use Rattle.xc_tree.specs.declared.ty.Ty.TheOpen.{Ty-F}
use Rattle.xc_tree.specs.declared.ty.Ty.TheFolds.{ind-Ty, map-Ty, fold-roll-Ty}
use Rattle.xc_tree.specs.Types.{Shape, Formed, formed, form_step, struct_formed, is_object, is_plain, is_size, size_of, sizes}
use Rattle.xc_welltyped_claims.proofs.RankLevels.{formed_same}
use Rattle.xc_welltyped.proofs.Points as points
use Rattle.xc_welltyped_claims.specs.Types.{counted, is_object_by}
use Rattle.xc_welltyped_claims.proofs.Lists.{get_left}

-- two lists of structs of the same sizes ------------------------------------------

module _ (S T : List Shape) (same : sizes S ≡ sizes T) where
  abbrev Told : Ty → Type 0
  Told t = (is_object S t ≡ is_object T t) × (size_of S t ≡ size_of T t)

  abbrev Child : Type 0
  Child = (t : Ty) × Told t

  abbrev layer : Ty-F Child → Ty-F Ty
  layer y = map-Ty Child Ty (λ c. c.0) y

  abbrev at : List Shape → Ty-F Child → Formed
  at shapes y = form_step shapes (map-Ty Ty Formed (formed shapes) (layer y))

  abbrev Level : Formed → Formed → Type 0
  Level f g = (f.ok ≡ g.ok) × (f.shape.size ≡ g.shape.size)

  struct_by : (s : ℕ) (o p : Option Shape) → option_map (λ h. h.size) o ≡ option_map (λ h. h.size) p → Level (struct_formed s o) (struct_formed s p)
  struct_by s None None e = (refl, refl)
  struct_by s None (Some x) e = absurd cc
  struct_by s (Some x) None e = absurd cc
  struct_by s (Some x) (Some y) e = let one : x.size ≡ y.size = cc in (ap is_size one, one)

  struct_level : (s : ℕ) → Level (struct_formed s (slice_get S s)) (struct_formed s (slice_get T s))
  struct_level s = struct_by s (slice_get S s) (slice_get T s)
      (sym (slice_get-map (λ h. h.size) S s) ∙ ap (λ l. slice_get l s) same ∙ slice_get-map (λ h. h.size) T s)

  plain : (t : Ty) → is_plain (formed S t).ty ≡ is_plain (formed T t).ty
  plain t = ap is_plain (formed_same S t ∙ sym (formed_same T t))

  level : (y : Ty-F Child) → Level (at S y) (at T y)
  level Ty-F.Void = (refl, refl)
  level Ty-F.Int = (refl, refl)
  level Ty-F.Uint = (refl, refl)
  level (Ty-F.Ptr c) = (c.1.0, refl)
  level (Ty-F.Array n c) = let ok = c.1.0 in let size = c.1.1 in ((λ i. ok i && is_size (n * size i)), ap (λ k. n * k) size)
  level (Ty-F.Struct s) = struct_level s
  level (Ty-F.Sync c) = let ok = c.1.0 in let p = plain c.0 in ((λ i. ok i && p i), refl)
  level (Ty-F.Future c) = let ok = c.1.0 in let p = plain c.0 in ((λ i. ok i && p i), refl)

  pub told_same : (t : Ty) → Told t
  told_same = ind-Ty Told (λ x y is. subst (λ z. Told (roll-Ty z)) is
      (let f = fold-roll-Ty Formed (form_step S) (layer y) in
      let g = fold-roll-Ty Formed (form_step T) (layer y) in
      let l = level y in (
        ap (λ (f : Formed). f.ok) f ∙ l.0 ∙ sym (ap (λ (f : Formed). f.ok) g),
        ap (λ (f : Formed). f.shape.size) f ∙ l.1 ∙ sym (ap (λ (f : Formed). f.shape.size) g),
      )))

pub sizes_counted : (ns : List ℕ) → sizes (map counted ns) ≡ ns
sizes_counted [] = refl
sizes_counted (n ∷ ns) = ap (λ l. n ∷ l) (sizes_counted ns)

-- a type is an object's by the sizes of the structs alone
pub object_same : (shapes : List Shape) (ns : List ℕ) → sizes shapes ≡ ns → (ty : Ty) → is_object_by ns ty ≡ is_object shapes ty
object_same shapes ns e ty = (told_same (map counted ns) shapes (sizes_counted ns ∙ sym e) ty).0

-- more structs --------------------------------------------------------------------

pub object_grows : (few added : List ℕ) (ty : Ty) → IsTrue (is_object_by few ty) → IsTrue (is_object_by (few ++ added) ty)
object_grows few added ty h = points.object_grows (map counted few) (map counted (few ++ added))
    (λ s x e w. subst (λ l. slice_get l s ≡ Some x) (sym (map-append counted few added)) (get_left (map counted few) (map counted added) s x e)) ty h
