-- The types of objects: the cells that are counted are those that they take, and parts of them are types of objects.
use Rattle.std.proofs.Common.{rules, ◌≡◌, ℕ, ◌*◌, ◌-◌, ◌^◌, ◌≤◌, List, refl, sym, ap, ◌∙◌, subst, arith}
use Rattle.std.specs.Prelude.{IsTrue, nat_le, min, Option, Some, None, slice_get, unwrap_or, option_map}
use Rattle.std.proofs.lemmas.Option.{slice_get-map}
use Rattle.std.proofs.lemmas.Bool.{leb-true}
use Rattle.xc_tree.specs.declared.ty.Ty.{Ty, out-Ty, roll-Ty, Ptr}
use Rattle.xc_tree.specs.declared.ty.Ty.TheOpen.{Ty-F}
use Rattle.xc_tree.specs.declared.ty.Ty.TheFolds.{ind-Ty, map-Ty, fold_out-Ty, fold-roll-Ty}
use Rattle.xc_tree.proofs.Lists.{and_left, and_right}
use Rattle.xc_tree.specs.Types.{Shape, Formed, formed, form_step, struct_formed, is_size, is_object, is_void, number_at, is_number, size_of, sizes, base, base_at}
use Rattle.xc_type_rule.specs.declared.found.Known.TheVariants as known
use Rattle.xc_type_rule.specs.Cells.{cells, cells_step}
use Rattle.xc_welltyped.specs.Sound.{Point, known_ok}
use Rattle.xc_welltyped.proofs.Types.{ty_opened, or_right}

-- an object's type, by its outermost part
abbrev pub Whole : List Shape → Ty-F Ty → Type 0
Whole shapes y = IsTrue (form_step shapes (map-Ty Ty Formed (formed shapes) y)).ok

pub whole_of : (shapes : List Shape) (t : Ty) → IsTrue (is_object shapes t) → Whole shapes (out-Ty t)
whole_of shapes t h = sym (ap (λ (f : Formed). f.ok) (fold_out-Ty Formed (form_step shapes) t)) ∙ h

is_some_of : (shapes : List Shape) (t u : Ty) → Some t ≡ Some u → IsTrue (is_object shapes t) → IsTrue (is_object shapes u)
is_some_of shapes t u is h = let same : t ≡ u = cc in subst (λ s. IsTrue (is_object shapes s)) same h

base_level : (shapes : List Shape) (t u : Ty) (y : Ty-F Ty) → base_at t y ≡ Some u → Whole shapes y → IsTrue (is_object shapes t) → IsTrue (is_object shapes u)
base_level shapes t u Ty-F.Int is w h = is_some_of shapes t u is h
base_level shapes t u Ty-F.Uint is w h = is_some_of shapes t u is h
base_level shapes t u (Ty-F.Ptr s) is w h = is_some_of shapes t u is h
base_level shapes t u (Ty-F.Sync s) is w h = is_some_of shapes s u is (and_left (is_object shapes s) _ w)
base_level shapes t u (Ty-F.Future s) is w h = is_some_of shapes s u is (and_left (is_object shapes s) _ w)
base_level shapes t u Ty-F.Void is w h = absurd cc
base_level shapes t u (Ty-F.Array n s) is w h = absurd cc
base_level shapes t u (Ty-F.Struct n) is w h = absurd cc

-- a scalar's type without its qualifier is an object's
pub base_ok : (so : Point) (t u : Ty) → base t ≡ Some u → IsTrue (is_object so.shapes t) → IsTrue (known_ok so (known.Value u))
base_ok so t u is h = or_right (is_void u) _ (base_level so.shapes t u (out-Ty t) is (whole_of so.shapes t h) h)

-- a number is an object's type
number_at_ok : (shapes : List Shape) (y : Ty-F Ty) → IsTrue (number_at y) → Whole shapes y
number_at_ok shapes Ty-F.Int h = refl
number_at_ok shapes Ty-F.Uint h = refl
number_at_ok shapes Ty-F.Void h = absurd cc
number_at_ok shapes (Ty-F.Ptr t) h = absurd cc
number_at_ok shapes (Ty-F.Array n t) h = absurd cc
number_at_ok shapes (Ty-F.Struct n) h = absurd cc
number_at_ok shapes (Ty-F.Sync t) h = absurd cc
number_at_ok shapes (Ty-F.Future t) h = absurd cc

pub number_ok : (so : Point) (ty : Ty) → IsTrue (is_number ty) → IsTrue (known_ok so (known.Value ty))
number_ok so ty h = or_right (is_void ty) _ (ap (λ (f : Formed). f.ok) (fold_out-Ty Formed (form_step so.shapes) ty) ∙ number_at_ok so.shapes (out-Ty ty) h)

-- a pointer is an object's type where what it points to is
pub pointer_ok : (so : Point) (of : Ty) → IsTrue (is_object so.shapes of) → IsTrue (known_ok so (known.Value (Ptr of)))
pointer_ok so of h = or_right (is_void (Ptr of)) _ (let same : is_object so.shapes (Ptr of) ≡ is_object so.shapes of = search (rules, ty_opened) in same ∙ h)

pub pointee_ok : (so : Point) (of : Ty) → IsTrue (known_ok so (known.Value (Ptr of))) → IsTrue (is_object so.shapes of)
pointee_ok so of h = search (rules, ty_opened, h)

-- cells -----------------------------------------------------------------------

abbrev Counted : List Shape → Ty → Type 0
Counted shapes t = IsTrue (is_object shapes t) → cells (sizes shapes) t ≡ size_of shapes t

abbrev Child : List Shape → Type 0
Child shapes = (t : Ty) × Counted shapes t

abbrev layer : (shapes : List Shape) → Ty-F (Child shapes) → Ty-F Ty
layer shapes y = map-Ty (Child shapes) Ty (λ c. c.0) y

uncut : (n : ℕ) → IsTrue (nat_le n (2 ^ 22)) → min n (2 ^ 32 - 1) ≡ n
uncut n h = let small : n ≤ 2 ^ 22 = leb-true n (2 ^ 22) h in omega arith

listed_size : (o : Option Shape) (s : ℕ) → unwrap_or (option_map (λ (s : Shape). s.size) o) 0 ≡ (struct_formed s o).shape.size
listed_size None s = refl
listed_size (Some shape) s = refl

counted_level : (shapes : List Shape) (y : Ty-F (Child shapes)) → Whole shapes (layer shapes y) → cells_step (sizes shapes) (map-Ty Ty ℕ (cells (sizes shapes)) (layer shapes y)) ≡ (form_step shapes (map-Ty Ty Formed (formed shapes) (layer shapes y))).shape.size
counted_level shapes Ty-F.Void w = refl
counted_level shapes Ty-F.Int w = refl
counted_level shapes Ty-F.Uint w = refl
counted_level shapes (Ty-F.Ptr c) w = refl
counted_level shapes (Ty-F.Array n c) w =
    let few : IsTrue (is_size (n * size_of shapes c.0)) = and_right (is_object shapes c.0) _ w in
    ap (λ m. min (n * m) (2 ^ 32 - 1)) (c.1 (and_left (is_object shapes c.0) _ w)) ∙ uncut (n * size_of shapes c.0) (and_right (nat_le 1 (n * size_of shapes c.0)) _ few)
counted_level shapes (Ty-F.Struct s) w = ap (λ o. unwrap_or o 0) (slice_get-map (λ (s : Shape). s.size) shapes s) ∙ listed_size (slice_get shapes s) s
counted_level shapes (Ty-F.Sync c) w = refl
counted_level shapes (Ty-F.Future c) w = refl

counted_rolled : (shapes : List Shape) (y : Ty-F (Child shapes)) → Counted shapes (roll-Ty (layer shapes y))
counted_rolled shapes y h =
    let made = fold-roll-Ty Formed (form_step shapes) (layer shapes y) in
    fold-roll-Ty ℕ (cells_step (sizes shapes)) (layer shapes y)
    ∙ (counted_level shapes y (sym (ap (λ (f : Formed). f.ok) made) ∙ h)
    ∙ sym (ap (λ (f : Formed). f.shape.size) made))

-- an object's cells are those that are counted
pub cells_are : (shapes : List Shape) (t : Ty) → IsTrue (is_object shapes t) → cells (sizes shapes) t ≡ size_of shapes t
cells_are shapes = ind-Ty (Counted shapes) (λ x y is. subst (λ z. Counted shapes (roll-Ty z)) is (counted_rolled shapes y))
