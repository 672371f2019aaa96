-- Types of objects, and their cells, as structs are added.
use Rattle.std.proofs.Common.{◌≡◌, ℕ, ◌^◌, ◌≤◌, List, ◌++◌, map, refl, sym, ap, ◌∙◌, subst}
use Rattle.std.specs.Prelude.{IsTrue, nat_le, Option, Some, None, slice_get}
use Rattle.std.proofs.lemmas.Bool.{leb-true}
use Rattle.std.proofs.lemmas.List.{map-append}
use Rattle.xc_tree.specs.declared.ty.Ty.{Ty, out-Ty}
use Rattle.xc_tree.specs.declared.ty.Ty.TheOpen.{Ty-F}
use Rattle.xc_tree.specs.declared.ty.Ty.TheFolds.{map-Ty, fold_out-Ty}
use Rattle.xc_tree.specs.Types.{Shape, Formed, formed, form_step, struct_formed, is_size, is_object, size_of}
use Rattle.xc_tree.proofs.Lists.{and_left, and_right}
use Rattle.xc_type_rule.specs.Cells.{cells}
use Rattle.xc_type_structs.specs.declared.structs.Structs.{Structs}
use Rattle.xc_welltyped.specs.Sound as sound
use Rattle.xc_welltyped.proofs.Objects.{Whole, whole_of, cells_are}
use Rattle.xc_welltyped.proofs.Points.{formed_grows}
use Rattle.xc_welltyped_claims.specs.Types.{counted, is_object_by}
use Rattle.xc_welltyped_claims.specs.Table.{Grows}
use Rattle.xc_welltyped_claims.proofs.Lists.{get_left}
use Rattle.xc_welltyped_structs.proofs.Types.{object_grows, sizes_counted}

-- an object has a cell, and no more than 2^22 ------------------------------------

struct_sized : (s : ℕ) (o : Option Shape) → IsTrue (struct_formed s o).ok → IsTrue (is_size (struct_formed s o).shape.size)
struct_sized s None h = absurd cc
struct_sized s (Some x) h = h

sized_level : (shapes : List Shape) (l : Ty-F Ty) → Whole shapes l → IsTrue (is_size (form_step shapes (map-Ty Ty Formed (formed shapes) l)).shape.size)
sized_level shapes Ty-F.Void h = absurd cc
sized_level shapes Ty-F.Int h = refl
sized_level shapes Ty-F.Uint h = refl
sized_level shapes (Ty-F.Ptr to) h = refl
sized_level shapes (Ty-F.Array n of) h = and_right (is_object shapes of) _ h
sized_level shapes (Ty-F.Struct s) h = struct_sized s (slice_get shapes s) h
sized_level shapes (Ty-F.Sync of) h = refl
sized_level shapes (Ty-F.Future of) h = refl

pub object_sized : (shapes : List Shape) (ty : Ty) → IsTrue (is_object shapes ty) → IsTrue (is_size (size_of shapes ty))
object_sized shapes ty h = subst (λ (f : Formed). IsTrue (is_size f.shape.size)) (sym (fold_out-Ty Formed (form_step shapes) ty)) (sized_level shapes (out-Ty ty) (whole_of shapes ty h))

module _ (ns : List ℕ) (ty : Ty) (h : IsTrue (is_object_by ns ty)) where
  pub cells_formed : cells ns ty ≡ size_of (map counted ns) ty
  cells_formed = ap (λ l. cells l ty) (sym (sizes_counted ns)) ∙ cells_are (map counted ns) ty h

  pub sized : IsTrue (is_size (cells ns ty))
  sized = subst (λ n. IsTrue (is_size n)) (sym cells_formed) (object_sized (map counted ns) ty h)

  pub cells_least : 1 ≤ cells ns ty
  cells_least = leb-true 1 (cells ns ty) (and_left (nat_le 1 (cells ns ty)) _ sized)

  pub cells_most : cells ns ty ≤ 2 ^ 22
  cells_most = leb-true (cells ns ty) (2 ^ 22) (and_right (nat_le 1 (cells ns ty)) _ sized)

-- more structs -----------------------------------------------------------------

module _ (few more : Structs) (g : Grows few more) where
  abbrev all : List Shape
  all = map counted (few.sizes ++ g.added)

  grown : sound.Grows (map counted few.sizes) all
  grown s x e w = subst (λ l. slice_get l s ≡ Some x) (sym (map-append counted few.sizes g.added)) (get_left (map counted few.sizes) (map counted g.added) s x e)

  added_object : (ty : Ty) → IsTrue (is_object_by few.sizes ty) → IsTrue (is_object_by (few.sizes ++ g.added) ty)
  added_object ty h = object_grows few.sizes g.added ty h

  pub cells_stay : (ty : Ty) → IsTrue (is_object_by few.sizes ty) → cells few.sizes ty ≡ cells more.sizes ty
  cells_stay ty h = cells_formed few.sizes ty h
      ∙ ap (λ (f : Formed). f.shape.size) (formed_grows (map counted few.sizes) all grown ty h)
      ∙ sym (cells_formed (few.sizes ++ g.added) ty (added_object ty h))
      ∙ ap (λ l. cells l ty) (sym g.sizes)

  pub object_stays : (ty : Ty) → IsTrue (is_object_by few.sizes ty) → IsTrue (is_object_by more.sizes ty)
  object_stays ty h = subst (λ l. IsTrue (is_object_by l ty)) (sym g.sizes) (added_object ty h)
