-- What a place holds is well typed where the place is.
use Rattle.std.proofs.Common.{rules, ◌≡◌, ℕ, Bool, true, false, refl, sym, ap, ◌∙◌, subst}
use Rattle.std.specs.Prelude.{IsTrue, ◌&&◌, ◌||◌, ◌==◌, ◌+◌, Option, Some, None}
use Rattle.xc_text_place.specs.declared.Span.{Span}
use Rattle.xc_tree.specs.declared.ty.Ty.{Ty, out-Ty, Int, Ptr}
use Rattle.xc_tree.specs.declared.ty.Ty.TheOpen.{Ty-F}
use Rattle.xc_tree.specs.declared.expr.Expr.{Expr}
use Rattle.xc_tree.specs.declared.expr.ExprKind.{Index, Const}
use Rattle.xc_tree.specs.declared.expr.ExprKind.TheOpen.{ExprKind-F}
use Rattle.xc_tree.specs.Lists.{passes}
use Rattle.xc_tree.proofs.Lists.{and_left, and_both}
use Rattle.xc_tree.specs.Types.{is_number, is_object, size_of, sizes, same_ty, base, base_at, pointee, array_of, array_at, array_under}
use Rattle.xc_tree.specs.Typed.{Context, Part, part_of, rule, are_values}
use Rattle.xc_type_rule.specs.declared.found.Found.{Found}
use Rattle.xc_type_rule.specs.declared.found.Known.{Known}
use Rattle.xc_type_rule.specs.declared.found.Known.TheVariants as known
use Rattle.xc_type_rule.specs.Cells.{cells}
use Rattle.xc_type_rule.specs.Making.{typed, value_from}
use Rattle.xc_type_rule.specs.Values.{read, first_element, decayed, held, rvalue_at, rvalue}
use Rattle.xc_welltyped.specs.Sound.{Point, IsMade, known_ok, Stands, IsSound}
use Rattle.xc_welltyped.proofs.Types.{ty_opened, pointee_of, eqb_refl, or_left, same_ty_refl}
use Rattle.xc_welltyped.proofs.Objects.{Whole, whole_of, base_ok, pointer_ok}
use Rattle.xc_welltyped.proofs.Points.{cells_at}
use Rattle.xc_welltyped.proofs.Forms.{opened, Layer, made_within, const_made}
use Rattle.xc_welltyped.proofs.Accesses.{part, part_is, read_made}

array_under_of : (t : Ty) → array_under (Ptr t) ≡ array_of t
array_under_of t = search (rules, ty_opened)

module _ (cx : Context) (span : Span) where
  index_row : (t of : Ty) (n size : ℕ) → array_of t ≡ Some (n, of) → size ≡ size_of cx.shapes of → Layer cx (Ptr of) (ExprKind-F.Index (part (Ptr t) false) (part Int false) size (Some n))
  unfolding rule are_values
  index_row t of n size is is_size = and_both (is_number Int) _ (search (rules, ty_opened))
      (subst (λ a. IsTrue (passes (λ a. passes (same_ty a.1) (pointee (Ptr of)) && ((n == a.0 || n == a.0 + 1) && size == size_of cx.shapes a.1)) a)) (sym (array_under_of t ∙ is))
      (and_both (passes (same_ty of) (pointee (Ptr of))) _
      (subst (λ p. IsTrue (passes (same_ty of) p)) (sym (pointee_of of)) (same_ty_refl of))
      (and_both (n == n || n == n + 1) _ (or_left _ _ (eqb_refl n)) (subst (λ s. IsTrue (s == size_of cx.shapes of)) (sym is_size) (eqb_refl (size_of cx.shapes of))))))

  first_made : (t of : Ty) (n size : ℕ) (x : Expr) → IsMade cx (Ptr t) false x → array_of t ≡ Some (n, of) → size ≡ size_of cx.shapes of → IsMade cx (Ptr of) false (typed span (Ptr of) (first_element span size n x))
  first_made t of n size x mx is is_size =
      let zero = typed span Int (Const 0) in
      let mz : IsMade cx Int false zero = const_made cx span Int 0 (search (rules, ty_opened)) in
      made_within cx span (Ptr of) (part_of cx x).within false (Index x zero size (Some n)) (ExprKind-F.Index (part_of cx x) (part_of cx zero) size (Some n)) (search (rules, opened)) mx.within
      (subst (λ (p : Part). Layer cx (Ptr of) (ExprKind-F.Index p (part_of cx zero) size (Some n))) (sym (part_is cx (Ptr t) false x mx))
      (subst (λ (p : Part). Layer cx (Ptr of) (ExprKind-F.Index (part (Ptr t) false) p size (Some n))) (sym (part_is cx Int false zero mz)) (index_row t of n size is is_size)))

module _ (so : Point) (span : Span) where
  read_sound : (t b : Ty) (w : Bool) (made : Option Expr) → base t ≡ Some b → IsTrue (is_object so.shapes t) → Stands so.cx (known.Place t w) made → IsSound so (read span b made)
  unfolding value_from
  read_sound t b w None is h m = record { known = base_ok so t b is h; made = tt }
  read_sound t b w (Some x) is h m = record { known = base_ok so t b is h; made = read_made so.cx span t b w x m.made is }

  decayed_sound : (t of : Ty) (n : ℕ) (made : Option Expr) → array_of t ≡ Some (n, of) → IsTrue (is_object so.shapes of) → Stands so.cx (known.Place t false) made → IsSound so (decayed (sizes so.shapes) span n of made)
  unfolding value_from
  decayed_sound t of n None is h m = record { known = pointer_ok so of h; made = tt }
  decayed_sound t of n (Some x) is h m = record { known = pointer_ok so of h; made = first_made so.cx span t of n (cells (sizes so.shapes) of) x m.made is (cells_at so of h) }

  element_ok : (t of : Ty) (n : ℕ) → out-Ty t ≡ Ty-F.Array n of → IsTrue (is_object so.shapes t) → IsTrue (is_object so.shapes of)
  element_ok t of n e h = and_left (is_object so.shapes of) _ (subst (Whole so.shapes) e (whole_of so.shapes t h))

  held_sound : (t : Ty) (w : Bool) (made : Option Expr) (y : Ty-F Ty) → out-Ty t ≡ y → IsTrue (is_object so.shapes t) → Stands so.cx (known.Place t w) made → IsSound so (held (sizes so.shapes) span t w made y)
  held_sound t true made (Ty-F.Array n of) e h m = record { known = refl; made = tt }
  held_sound t false made (Ty-F.Array n of) e h m = decayed_sound t of n made (ap array_at e) (element_ok t of n e h) m
  held_sound t w made (Ty-F.Sync of) e h m = read_sound t of w made (ap (base_at t) e) h m
  held_sound t w made (Ty-F.Future of) e h m = read_sound t of w made (ap (base_at t) e) h m
  held_sound t w made (Ty-F.Struct s) e h m = record { known = h; made = m }
  held_sound t w made Ty-F.Void e h m = record { known = h; made = m }
  held_sound t w made Ty-F.Int e h m = read_sound t t w made (ap (base_at t) e) h m
  held_sound t w made Ty-F.Uint e h m = read_sound t t w made (ap (base_at t) e) h m
  held_sound t w made (Ty-F.Ptr of) e h m = read_sound t t w made (ap (base_at t) e) h m

  valued : (k : Known) (made : Option Expr) → IsTrue (known_ok so k) → Stands so.cx k made → IsSound so (rvalue_at (sizes so.shapes) span k made)
  valued (known.Unknown place) made h m = record { known = refl; made = tt }
  valued (known.Value t) made h m = record { known = h; made = m }
  valued (known.Place t w) made h m = held_sound t w made (out-Ty t) refl h m

  -- by the sizes of the structs that are complete
  pub rvalue_sound : (f : Found) → IsSound so f → IsSound so (rvalue (sizes so.shapes) span f)
  unfolding rvalue
  rvalue_sound f h = valued f.known f.made h.known h.made
