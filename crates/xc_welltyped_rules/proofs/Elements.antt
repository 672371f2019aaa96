-- What is made of an index, or of `*` before a pointer, is well typed, as it is known.
use Rattle.std.proofs.Common.{rules, ◌≡◌, ℕ, ◌+◌, ◌*◌, ◌^◌, ◌≤◌, List, zero, suc, Bool, true, false, refl, sym, ap, ◌∙◌, subst, cond, arith}
use Rattle.std.specs.Prelude.{IsTrue, nat_le, ◌&&◌, ◌||◌, ◌==◌, Option, Some, None, option_map}
use Rattle.std.proofs.Math.Nat.{le-mul_of_pos_right}
use Rattle.std.proofs.lemmas.Bool.{leb-true, le-leb}
use Rattle.xc_text_place.specs.declared.Span.{Span}
use Rattle.xc_tree.specs.declared.ty.Ty.{Ty, out-Ty, roll-Ty, roll-out-Ty, Int, Ptr, Array}
use Rattle.xc_tree.specs.declared.ty.Ty.TheOpen.{Ty-F}
use Rattle.xc_tree.specs.declared.expr.Expr.{Expr}
use Rattle.xc_tree.specs.declared.expr.ExprKind.{out-ExprKind, Index}
use Rattle.xc_tree.specs.declared.expr.ExprKind.TheOpen.{ExprKind-F}
use Rattle.xc_tree.proofs.Lists.{and_left, and_right, and_both}
use Rattle.xc_tree.specs.Lists.{passes}
use Rattle.xc_tree.specs.Types.{Shape, is_object, is_size, is_number, same_ty, size_of, sizes, pointee, array_under}
use Rattle.xc_tree.specs.Typed.{Context, Part, part_of, rule, are_values, is_value, element_ok}
use Rattle.xc_type_rule.specs.declared.found.Found.{Found}
use Rattle.xc_type_rule.specs.declared.found.Known.{Known}
use Rattle.xc_type_rule.specs.declared.found.Known.TheVariants as known
use Rattle.xc_type_rule.specs.Making.{Ruling, typed, both}
use Rattle.xc_type_rule.specs.Values.{rvalue, is_array_at}
use Rattle.xc_type_rule.specs.Tests.{may_be}
use Rattle.xc_welltyped.specs.Sound.{Point, IsMade, IsPlace, IsSound, Stands, known_ok, unraised_at}
use Rattle.xc_welltyped.proofs.Forms.{opened, Layer, made_at, made_within, const_made}
use Rattle.xc_welltyped.proofs.Types.{ty_opened, same_ty_refl, eqb_refl, or_left, pointee_of, is_pointer_to}
use Rattle.xc_welltyped.proofs.Points.{cells_at}
use Rattle.xc_welltyped.proofs.Founds.{KeepsPlace, PlaceMade, place_by_sound}
use Rattle.xc_welltyped.proofs.Held.{rvalue_sound}
use Rattle.xc_welltyped.proofs.Objects.{pointee_ok}
use Rattle.xc_type_rule_places.specs.Rulings.{pointer_base, pointed, pointed_size, object_size, object_at, array_base, array_of, array_at, is_array, index_ruling}
use Rattle.xc_type_rule_places.specs.Places.{element_of, element_part, index_part, star_part, zero as nought}

under_array : (n : ℕ) (t : Ty) → array_under (Ptr (Array n t)) ≡ Some (n, t)
under_array n t = search (rules, ty_opened)

-- arrays ------------------------------------------------------------------------

array_object : (shapes : List Shape) (n : ℕ) (of : Ty) → IsTrue (is_object shapes (Array n of)) → IsTrue (is_object shapes of && is_size (n * size_of shapes of))
array_object shapes n of h =
    let e : is_object shapes (Array n of) ≡ (is_object shapes of && is_size (n * size_of shapes of)) = search (rules, ty_opened) in
    subst IsTrue e h

element_object : (shapes : List Shape) (n : ℕ) (of : Ty) → IsTrue (is_object shapes (Array n of)) → IsTrue (is_object shapes of)
element_object shapes n of h = and_left (is_object shapes of) _ (array_object shapes n of h)

at_most : (n s : ℕ) → 1 ≤ n * s → n * s ≤ 2 ^ 22 → n ≤ 2 ^ 22
at_most n zero some most = omega arith
at_most n (suc s) some most = let more : n ≤ n * suc s = le-mul_of_pos_right n (omega arith) in omega arith

-- an array has no more elements than cells
few : (shapes : List Shape) (n : ℕ) (of : Ty) → IsTrue (is_object shapes (Array n of)) → IsTrue (nat_le n (2 ^ 22))
few shapes n of h =
    let m = n * size_of shapes of in
    let sized : IsTrue (is_size m) = and_right (is_object shapes of) _ (array_object shapes n of h) in
    le-leb n (2 ^ 22) (at_most n (size_of shapes of) (leb-true 1 m (and_left (nat_le 1 m) _ sized)) (leb-true m (2 ^ 22) (and_right (nat_le 1 m) _ sized)))

-- an element of an array has its bound
unraised_index : (n size : ℕ) (of : Ty) (b i : Expr) → b.ty ≡ Ptr (Array n of) → IsTrue (nat_le n (2 ^ 22)) → IsTrue (unraised_at (out-ExprKind (Index b i size (Some n))))
unraised_index n size of b i own h =
    let here : IsTrue (passes (λ a. n == a.0 && nat_le n (2 ^ 22)) (array_under b.ty)) =
    subst (λ t. IsTrue (passes (λ a. n == a.0 && nat_le n (2 ^ 22)) (array_under t))) (sym own)
    (subst (λ o. IsTrue (passes (λ a. n == a.0 && nat_le n (2 ^ 22)) o)) (sym (under_array n of)) (and_both (n == n) _ (eqb_refl n) h)) in
    let same : unraised_at (out-ExprKind (Index b i size (Some n))) ≡ passes (λ a. n == a.0 && nat_le n (2 ^ 22)) (array_under b.ty) = search (rules, opened) in
    subst IsTrue (sym same) here

-- forms -------------------------------------------------------------------------

module _ (cx : Context) (span : Span) (ty : Ty) where
  pointed_row : (size : ℕ) (pb pi : Part) (s : Ty) → pb.ok ≡ true → pb.within ≡ false → pi.ty ≡ s → pi.ok ≡ true → pi.within ≡ false → IsTrue (is_number s) →
      IsTrue (element_ok cx.shapes pb None size (Ptr ty)) → Layer cx (Ptr ty) (ExprKind-F.Index pb pi size None)
  unfolding rule are_values
  pointed_row size pb pi s ok_b in_b is_i ok_i in_i n r = simp (ok_b, in_b, is_i, ok_i, in_i, n) r

  -- an element behind a pointer
  pointed_made : (size : ℕ) (b i : Expr) (from s : Ty) → IsMade cx from false b → IsMade cx s false i → IsTrue (is_number s) →
      IsTrue (element_ok cx.shapes (part_of cx b) None size (Ptr ty)) → IsPlace cx ty false (typed span (Ptr ty) (Index b i size None))
  pointed_made size b i from s mb mi n r = record {
    made = made_at cx span (Ptr ty) false (Index b i size None) (ExprKind-F.Index (part_of cx b) (part_of cx i) size None) (search (rules, opened))
        (pointed_row size (part_of cx b) (part_of cx i) s mb.ok mb.within mi.typed mi.ok mi.within n r);
    unraised = search (rules, opened);
  }

  element_row : (size n : ℕ) (pb pi : Part) (s : Ty) → pb.ok ≡ true → pi.ty ≡ s → pi.ok ≡ true → pi.within ≡ false → IsTrue (is_number s) →
      IsTrue (element_ok cx.shapes pb (Some n) size (Ptr ty)) → Layer cx (Ptr ty) (ExprKind-F.Index pb pi size (Some n))
  unfolding rule are_values
  element_row size n pb pi s ok_b is_i ok_i in_i num r = simp (ok_b, is_i, ok_i, in_i, num) r

  -- an element of an array
  element_made : (size n : ℕ) (b i : Expr) (from s : Ty) (inside : Bool) → IsMade cx from inside b → IsMade cx s false i → IsTrue (is_number s) →
      IsTrue (element_ok cx.shapes (part_of cx b) (Some n) size (Ptr ty)) → IsMade cx (Ptr ty) inside (typed span (Ptr ty) (Index b i size (Some n)))
  element_made size n b i from s inside mb mi num r =
      made_within cx span (Ptr ty) (part_of cx b).within inside (Index b i size (Some n)) (ExprKind-F.Index (part_of cx b) (part_of cx i) size (Some n)) (search (rules, opened)) mb.within
      (element_row size n (part_of cx b) (part_of cx i) s mb.ok mi.typed mi.ok mi.within num r)

module _ (cx : Context) where
  sized : (size : ℕ) (t : Ty) → size ≡ size_of cx.shapes t → IsTrue (size == size_of cx.shapes t)
  sized size t e = subst (λ n. IsTrue (size == n)) e (eqb_refl size)

  behind_pointer : (size : ℕ) (t : Ty) (b : Expr) → IsMade cx (Ptr t) false b → size ≡ size_of cx.shapes t →
      IsTrue (element_ok cx.shapes (part_of cx b) None size (Ptr t))
  behind_pointer size t b mb e =
      let here = subst (λ o. IsTrue (passes (λ u. size == size_of cx.shapes u) o)) (sym (pointee_of t)) (sized size t e) in
      subst (λ f. IsTrue (same_ty f (Ptr t) && passes (λ u. size == size_of cx.shapes u) (pointee (Ptr t)))) (sym mb.typed)
      (and_both (same_ty (Ptr t) (Ptr t)) _ (same_ty_refl (Ptr t)) here)

  in_array : (size n : ℕ) (t : Ty) (w : Bool) (b : Expr) → IsMade cx (Ptr (Array n t)) w b → size ≡ size_of cx.shapes t →
      IsTrue (element_ok cx.shapes (part_of cx b) (Some n) size (Ptr t))
  in_array size n t w b mb e =
      let P : Option (ℕ × Ty) → Type 0 = λ o. IsTrue (passes (λ a. passes (same_ty a.1) (pointee (Ptr t))
      && ((n == a.0 || (is_value (part_of cx b) && n == a.0 + 1)) && size == size_of cx.shapes a.1)) o) in
      let same = subst (λ o. IsTrue (passes (same_ty t) o)) (sym (pointee_of t)) (same_ty_refl t) in
      let bound = and_both (n == n || (is_value (part_of cx b) && n == n + 1)) _ (or_left (n == n) _ (eqb_refl n)) (sized size t e) in
      subst (λ f. P (array_under f)) (sym mb.typed) (subst P (sym (under_array n t)) (and_both (passes (same_ty t) (pointee (Ptr t))) _ same bound))

-- elements ----------------------------------------------------------------------

module _ (so : Point) where
  -- the place of the array, or the pointer
  abbrev Leads : Option ℕ → Ty → Bool → Option Expr → Type 0
  Leads bound t w None = Unit {0}
  Leads None t w (Some e) = (w ≡ false) × IsMade so.cx (Ptr t) false e
  Leads (Some n) t w (Some e) = IsTrue (nat_le n (2 ^ 22)) × IsMade so.cx (Ptr (Array n t)) w e

  -- what the element is, how many cells it takes, and what leads there
  abbrev Based : ℕ → Option ℕ → Option Expr → Ruling → Type 0
  Based size bound made None = Unit {0}
  Based size bound made (Some (known.Unknown place)) = Unit {0}
  Based size bound made (Some (known.Value ty)) = ⊥
  Based size bound made (Some (known.Place t w)) = IsTrue (is_object so.shapes t) × (size ≡ size_of so.cx.shapes t) × Leads bound t w made

  pointer_place : (span : Span) (size : ℕ) (t s : Ty) (w : Bool) (b i : Expr) → w ≡ false → IsMade so.cx (Ptr t) false b → IsMade so.cx s false i → IsTrue (is_number s) → size ≡ size_of so.cx.shapes t →
      IsPlace so.cx t w (typed span (Ptr t) (Index b i size None))
  pointer_place span size t s w b i is mb mi n e =
      subst (λ v. IsPlace so.cx t v (typed span (Ptr t) (Index b i size None))) (sym is)
      (pointed_made so.cx span t size b i (Ptr t) s mb mi n (behind_pointer so.cx size t b mb e))

  array_place : (span : Span) (size n : ℕ) (t s : Ty) (w : Bool) (b i : Expr) → IsTrue (nat_le n (2 ^ 22)) → IsMade so.cx (Ptr (Array n t)) w b → IsMade so.cx s false i → IsTrue (is_number s) → size ≡ size_of so.cx.shapes t →
      IsPlace so.cx t w (typed span (Ptr t) (Index b i size (Some n)))
  array_place span size n t s w b i h mb mi num e = record {
    made = element_made so.cx span t size n b i (Ptr (Array n t)) s w mb mi num (in_array so.cx size n t w b mb e);
    unraised = unraised_index n size t b i mb.own h;
  }

  by_parts : (span : Span) (size : ℕ) (bound : Option ℕ) (t : Ty) (w : Bool) (made : Option Expr) (ik : Known) (im : Option Expr) →
      size ≡ size_of so.cx.shapes t → Leads bound t w made → Stands so.cx ik im → IsTrue (may_be is_number ik) →
      PlaceMade so span t w (both (element_of size bound) made im)
  unfolding both may_be
  by_parts span size bound t w None ik im e l st n = tt
  by_parts span size bound t w (Some b) ik None e l st n = tt
  by_parts span size bound t w (Some b) (known.Unknown place) (Some i) e l st n = absurd st
  by_parts span size None t w (Some b) (known.Value s) (Some i) e l st n = pointer_place span size t s w b i l.0 l.1 st n e
  by_parts span size (Some k) t w (Some b) (known.Value s) (Some i) e l st n = array_place span size k t s w b i l.0 l.1 st n e
  by_parts span size bound t w (Some b) (known.Place u v) (Some i) e l st n = absurd cc

  element_keeps : (span : Span) (size : ℕ) (bound : Option ℕ) (made : Option Expr) (r : Ruling) (ik : Known) (im : Option Expr) →
      Based size bound made r → Stands so.cx ik im → IsTrue (may_be is_number ik) → KeepsPlace so span r (both (element_of size bound) made im)
  element_keeps span size bound made None ik im h st n = tt
  element_keeps span size bound made (Some (known.Unknown place)) ik im h st n = tt
  element_keeps span size bound made (Some (known.Value ty)) ik im h st n = absurd h
  element_keeps span size bound made (Some (known.Place t w)) ik im h st n = (h.0, by_parts span size bound t w made ik im h.1 h.2 st n)

  pub element_sound : (span : Span) (r : Ruling) (size : ℕ) (bound : Option ℕ) (made : Option Expr) (i : Found) → Based size bound made r → IsSound so i →
      IsSound so (element_part span (record { element = r; size = size; bound = bound; made = made }) i)
  unfolding element_part
  element_sound span r size bound made i h hi = place_by_sound so span (index_ruling r i.known) (both (element_of size bound) made i.made) (at (may_be is_number i.known) refl)
    where
      at : (d : Bool) → may_be is_number i.known ≡ d → KeepsPlace so span (cond d r None) (both (element_of size bound) made i.made)
      at false e = tt
      at true e = element_keeps span size bound made r i.known i.made h hi.made e

-- what a pointer leads to, and an array's elements -----------------------------

array_is : (ty : Ty) (n : ℕ) (of : Ty) → out-Ty ty ≡ Ty-F.Array n of → ty ≡ Array n of
unfolding roll-Ty denote.Hole.Carrier.roll
array_is ty n of o = sym (roll-out-Ty ty) ∙ ap roll-Ty o

module _ (so : Point) where
  value_leads : (t : Ty) (m : Option Expr) → Stands so.cx (known.Value (Ptr t)) m → Leads so None t false m
  value_leads t None s = tt
  value_leads t (Some e) s = (refl, s)

  by_pointee : (ty : Ty) (m : Option Expr) (o : Option Ty) → pointee ty ≡ o → IsTrue (known_ok so (known.Value ty)) → Stands so.cx (known.Value ty) m →
      Based so (object_size (sizes so.shapes) o) None m (option_map object_at o)
  by_pointee ty m None e h s = tt
  by_pointee ty m (Some t) e h s =
      let is = is_pointer_to ty t (out-Ty ty) refl e in
      let object = pointee_ok so t (subst (λ u. IsTrue (known_ok so (known.Value u))) is h) in
      (object, cells_at so t object, value_leads t m (subst (λ u. Stands so.cx (known.Value u) m) is s))

  by_known : (k : Known) (m : Option Expr) → IsTrue (known_ok so k) → Stands so.cx k m → Based so (pointed_size (sizes so.shapes) k) None m (pointed k)
  by_known (known.Unknown place) m h s = tt
  by_known (known.Value ty) m h s = by_pointee ty m (pointee ty) refl h s
  by_known (known.Place ty w) m h s = tt

  pointer_based : (v : Found) → IsSound so v → let b = pointer_base (sizes so.shapes) v in Based so b.size b.bound b.made b.element
  unfolding pointer_base
  pointer_based v hv = by_known v.known v.made hv.known hv.made

  zero_sound : (span : Span) → IsSound so (nought span)
  zero_sound span = record { known = search (rules, ty_opened); made = const_made so.cx span Int 0 (search (rules, ty_opened)) }

  -- `*`
  pub star_sound : (span : Span) (p : Found) → IsSound so p → IsSound so (star_part (sizes so.shapes) span p)
  unfolding star_part
  star_sound span p hp =
      let b = pointer_base (sizes so.shapes) p in
      element_sound so span b.element b.size b.bound b.made (nought span) (pointer_based p hp) (zero_sound span)

  array_leads : (n : ℕ) (of : Ty) (w : Bool) (m : Option Expr) → IsTrue (nat_le n (2 ^ 22)) → Stands so.cx (known.Place (Array n of) w) m → Leads so (Some n) of w m
  array_leads n of w None h s = tt
  array_leads n of w (Some e) h s = (h, s.made)

  by_array : (ty : Ty) (w : Bool) (m : Option Expr) (y : Ty-F Ty) → out-Ty ty ≡ y → is_array_at y ≡ true → IsTrue (is_object so.shapes ty) →
      Stands so.cx (known.Place ty w) m → let b = array_at (sizes so.shapes) w y m in Based so b.size b.bound b.made b.element
  by_array ty w m (Ty-F.Array n of) o t h s =
      let is = array_is ty n of o in
      let array = subst (λ u. IsTrue (is_object so.shapes u)) is h in
      let object = element_object so.shapes n of array in
      (object, cells_at so of object, array_leads n of w m (few so.shapes n of array) (subst (λ u. Stands so.cx (known.Place u w) m) is s))
  by_array ty w m Ty-F.Void o t h s = absurd cc
  by_array ty w m Ty-F.Int o t h s = absurd cc
  by_array ty w m Ty-F.Uint o t h s = absurd cc
  by_array ty w m (Ty-F.Ptr u) o t h s = absurd cc
  by_array ty w m (Ty-F.Struct n) o t h s = absurd cc
  by_array ty w m (Ty-F.Sync u) o t h s = absurd cc
  by_array ty w m (Ty-F.Future u) o t h s = absurd cc

  by_kind : (k : Known) (m : Option Expr) → is_array k ≡ true → IsTrue (known_ok so k) → Stands so.cx k m →
      let b = array_of (sizes so.shapes) k m in Based so b.size b.bound b.made b.element
  by_kind (known.Place ty w) m t h s = by_array ty w m (out-Ty ty) refl t h s
  by_kind (known.Unknown place) m t h s = absurd cc
  by_kind (known.Value ty) m t h s = absurd cc

  array_based : (a : Found) → is_array a.known ≡ true → IsSound so a → let b = array_base (sizes so.shapes) a in Based so b.size b.bound b.made b.element
  unfolding array_base
  array_based a e ha = by_kind a.known a.made e ha.known ha.made

  -- `[]`
  pub index_sound : (span at : Span) (a i : Found) → IsSound so a → IsSound so i → IsSound so (index_part (sizes so.shapes) span at a i)
  unfolding index_part
  index_sound span at a i ha hi = by (is_array a.known) refl
    where
      by : (d : Bool) → is_array a.known ≡ d →
          IsSound so (element_part span (cond d (array_base (sizes so.shapes) a) (pointer_base (sizes so.shapes) (rvalue (sizes so.shapes) at a))) i)
      by true e =
          let b = array_base (sizes so.shapes) a in
          element_sound so span b.element b.size b.bound b.made i (array_based a e ha) hi
      by false e =
          let b = pointer_base (sizes so.shapes) (rvalue (sizes so.shapes) at a) in
          element_sound so span b.element b.size b.bound b.made i (pointer_based (rvalue (sizes so.shapes) at a) (rvalue_sound so at a ha)) hi
