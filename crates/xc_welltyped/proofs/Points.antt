-- The types of objects where some structs are complete are types of objects of the program, with the same cells.
use Rattle.std.proofs.Common.{◌≡◌, ℕ, List, refl, sym, ap, ◌∙◌, subst}
use Rattle.std.specs.Prelude.{IsTrue, Bool, true, false, ◌||◌, Option, Some, None, slice_get}
use Rattle.xc_tree.specs.declared.ty.Ty.{Ty, roll-Ty}
use Rattle.xc_tree.specs.declared.ty.Ty.TheOpen.{Ty-F}
use Rattle.xc_tree.specs.declared.ty.Ty.TheFolds.{ind-Ty, map-Ty, fold-roll-Ty}
use Rattle.xc_tree.proofs.Lists.{and_left}
use Rattle.xc_tree.specs.Types.{Shape, Formed, formed, form_step, struct_formed, is_void, is_object, size_of, sizes}
use Rattle.xc_tree.specs.Typed.{Context}
use Rattle.xc_type_rule.specs.declared.found.Found.{Found}
use Rattle.xc_type_rule.specs.declared.found.Known.{Known}
use Rattle.xc_type_rule.specs.declared.found.Known.TheVariants as known
use Rattle.xc_type_rule.specs.Cells.{cells}
use Rattle.xc_welltyped.specs.Sound.{Grows, Point, known_ok, IsSound}
use Rattle.xc_welltyped.proofs.Objects.{Whole, cells_are}

module _ (few all : List Shape) (grows : Grows few all) where
  abbrev Same : Ty → Type 0
  Same t = IsTrue (is_object few t) → formed few t ≡ formed all t

  abbrev Child : Type 0
  Child = (t : Ty) × Same t

  abbrev layer : Ty-F Child → Ty-F Ty
  layer y = map-Ty Child Ty (λ c. c.0) y

  abbrev at : List Shape → Ty-F Child → Formed
  at shapes y = form_step shapes (map-Ty Ty Formed (formed shapes) (layer y))

  struct_same : (s : ℕ) (o : Option Shape) → slice_get few s ≡ o → IsTrue (struct_formed s o).ok → struct_formed s o ≡ struct_formed s (slice_get all s)
  struct_same s None is w = absurd cc
  struct_same s (Some x) is w = sym (ap (struct_formed s) (grows s x is w))

  same_level : (y : Ty-F Child) → Whole few (layer y) → at few y ≡ at all y
  same_level Ty-F.Void w = refl
  same_level Ty-F.Int w = refl
  same_level Ty-F.Uint w = refl
  same_level (Ty-F.Ptr c) w = ap (λ f. form_step few (Ty-F.Ptr f)) (c.1 w)
  same_level (Ty-F.Array n c) w = ap (λ f. form_step few (Ty-F.Array n f)) (c.1 (and_left (is_object few c.0) _ w))
  same_level (Ty-F.Struct s) w = struct_same s (slice_get few s) refl w
  same_level (Ty-F.Sync c) w = ap (λ f. form_step few (Ty-F.Sync f)) (c.1 (and_left (is_object few c.0) _ w))
  same_level (Ty-F.Future c) w = ap (λ f. form_step few (Ty-F.Future f)) (c.1 (and_left (is_object few c.0) _ w))

  same_rolled : (y : Ty-F Child) → Same (roll-Ty (layer y))
  same_rolled y h =
      let made = fold-roll-Ty Formed (form_step few) (layer y) in
      made ∙ (same_level y (sym (ap (λ (f : Formed). f.ok) made) ∙ h) ∙ sym (fold-roll-Ty Formed (form_step all) (layer y)))

  pub formed_grows : (t : Ty) → IsTrue (is_object few t) → formed few t ≡ formed all t
  formed_grows = ind-Ty Same (λ x y is. subst (λ z. Same (roll-Ty z)) is (same_rolled y))

  pub object_grows : (t : Ty) → IsTrue (is_object few t) → IsTrue (is_object all t)
  object_grows t h = subst (λ (f : Formed). IsTrue f.ok) (formed_grows t h) h

-- cells are counted by the structs that are complete
pub cells_at : (so : Point) (t : Ty) → IsTrue (is_object so.shapes t) → cells (sizes so.shapes) t ≡ size_of so.cx.shapes t
cells_at so t h = cells_are so.shapes t h ∙ ap (λ (f : Formed). f.shape.size) (formed_grows so.shapes so.cx.shapes so.grows t h)

pub object_at : (so : Point) (t : Ty) → IsTrue (is_object so.shapes t) → IsTrue (is_object so.cx.shapes t)
object_at so t h = object_grows so.shapes so.cx.shapes so.grows t h

-- what is well typed stays so when more structs are complete
module _ (cx : Context) (few more : List Shape) (before : Grows few cx.shapes) (behind : Grows more cx.shapes) (grows : Grows few more) where
  abbrev first : Point
  first = record { cx = cx; shapes = few; grows = before }

  abbrev later : Point
  later = record { cx = cx; shapes = more; grows = behind }

  value_later : (void : Bool) (ty : Ty) → IsTrue (void || is_object few ty) → IsTrue (void || is_object more ty)
  value_later true ty h = refl
  value_later false ty h = object_grows few more grows ty h

  known_later : (k : Known) → IsTrue (known_ok first k) → IsTrue (known_ok later k)
  known_later (known.Unknown place) h = refl
  known_later (known.Value ty) h = value_later (is_void ty) ty h
  known_later (known.Place ty within) h = object_grows few more grows ty h

  pub sound_later : (f : Found) → IsSound first f → IsSound later f
  sound_later f s = record { known = known_later f.known s.known; made = s.made }
