-- What is made of `&` is well typed, as it is known.
use Rattle.std.proofs.Common.{rules, ◌≡◌, ℕ, ◌+◌, ◌-◌, ◌^◌, ◌≤◌, true, false, refl, sym, ap, ◌∙◌, subst, arith}
use Rattle.std.specs.Prelude.{IsTrue, List, [], ◌∷◌, not, nat_le, min, ◌&&◌, ◌||◌, ◌==◌, Option, Some, None, option_map}
use Rattle.std.proofs.lemmas.Bool.{leb-true, eqb-true}
use Rattle.xc_text_place.specs.declared.Span.{Span}
use Rattle.xc_tree.specs.declared.ty.Ty.{Ty, Ptr}
use Rattle.xc_tree.specs.declared.expr.Expr.{Expr}
use Rattle.xc_tree.specs.declared.expr.ExprKind.{ExprKind, out-ExprKind, roll-ExprKind, roll-out-ExprKind, Index}
use Rattle.xc_tree.specs.declared.expr.ExprKind.TheOpen.{ExprKind-F}
use Rattle.xc_tree.proofs.Lists.{and_left, and_right, and_both}
use Rattle.xc_tree.specs.Lists.{every, passes}
use Rattle.xc_tree.specs.Types.{Shape, is_number, same_ty, size_of, pointee, array_under}
use Rattle.xc_tree.specs.Typed.{Context, Part, kind_step, part_of, part_ok, rule, are_values, is_value, element_ok}
use Rattle.xc_type_rule.specs.declared.found.Found.{Found}
use Rattle.xc_type_rule.specs.declared.found.Known.{Known}
use Rattle.xc_type_rule.specs.declared.found.Known.TheVariants as known
use Rattle.xc_type_rule.specs.Making.{typed}
use Rattle.xc_welltyped.specs.Sound.{Point, IsMade, IsPlace, IsSound, Stands, known_ok, unraised_at}
use Rattle.xc_welltyped.proofs.Types.{eqb_refl, or_right}
use Rattle.xc_welltyped.proofs.Forms.{opened, Layer, made_within}
use Rattle.xc_welltyped.proofs.Accesses.{spanned_made}
use Rattle.xc_welltyped.proofs.Founds.{KindMade, Keeps, found_sound}
use Rattle.xc_welltyped.proofs.Objects.{pointer_ok}
use Rattle.xc_type_rule_places.specs.Rulings.{address_ruling, raised_at, raised}
use Rattle.xc_type_rule_places.specs.Places.{address_part}

-- one more than a bound
abbrev more : ℕ → ℕ
more n = min (n + 1) (2 ^ 32 - 1)

more_is : (n m : ℕ) → IsTrue (n == m && nat_le n (2 ^ 22)) → IsTrue (more n == m + 1)
more_is n m h =
    let same : n ≡ m = eqb-true n m (and_left (n == m) _ h) in
    let small : n ≤ 2 ^ 22 = leb-true n (2 ^ 22) (and_right (n == m) _ h) in
    let is : more n ≡ m + 1 = omega arith in
    subst (λ k. IsTrue (k == m + 1)) (sym is) (eqb_refl (m + 1))

-- an element of an array that is no place in a mixed struct may be one past the last
element_raised : (shapes : List Shape) (from : Part) (n size : ℕ) (ty : Ty) → from.within ≡ false →
    IsTrue (passes (λ a. n == a.0 && nat_le n (2 ^ 22)) (array_under from.ty)) → IsTrue (element_ok shapes from (Some n) size ty) →
    IsTrue (element_ok shapes from (Some (more n)) size ty)
element_raised shapes from n size ty out = by (array_under from.ty)
  where
    by : (o : Option (ℕ × Ty)) → IsTrue (passes (λ a. n == a.0 && nat_le n (2 ^ 22)) o) →
        IsTrue (passes (λ a. passes (same_ty a.1) (pointee ty) && ((n == a.0 || (is_value from && n == a.0 + 1)) && size == size_of shapes a.1)) o) →
        IsTrue (passes (λ a. passes (same_ty a.1) (pointee ty) && ((more n == a.0 || (is_value from && more n == a.0 + 1)) && size == size_of shapes a.1)) o)
    by None h r = absurd cc
    by (Some a) h r =
        let inner = and_right (passes (same_ty a.1) (pointee ty)) _ r in
        let value : IsTrue (is_value from) = ap (λ w. not w) out in
        and_both (passes (same_ty a.1) (pointee ty)) _ (and_left (passes (same_ty a.1) (pointee ty)) _ r)
        (and_both (more n == a.0 || (is_value from && more n == a.0 + 1)) _
        (or_right (more n == a.0) _ (and_both (is_value from) _ value (more_is n a.0 h)))
        (and_right (n == a.0 || (is_value from && n == a.0 + 1)) _ inner))

module _ (cx : Context) where
  raised_row : (ty : Ty) (pb pi : Part) (n size : ℕ) → pb.within ≡ false → IsTrue (passes (λ a. n == a.0 && nat_le n (2 ^ 22)) (array_under pb.ty)) →
      Layer cx ty (ExprKind-F.Index pb pi size (Some n)) → Layer cx ty (ExprKind-F.Index pb pi size (Some (more n)))
  unfolding rule are_values
  raised_row ty pb pi n size out h r =
      let ok = every (part_ok pb ∷ part_ok pi ∷ []) in
      let values = every (is_value pi ∷ []) in
      let rest = and_right ok _ r in
      let kept = and_right values _ rest in
      and_both ok _ (and_left ok _ r) (and_both values _ (and_left values _ rest)
      (and_both (is_number pi.ty) _ (and_left (is_number pi.ty) _ kept) (element_raised cx.shapes pb n size ty out h (and_right (is_number pi.ty) _ kept))))

  index_raised : (span : Span) (ty : Ty) (b i : Expr) (size n : ℕ) → IsTrue (passes (λ a. n == a.0 && nat_le n (2 ^ 22)) (array_under b.ty)) →
      IsMade cx ty false (typed span ty (Index b i size (Some n))) → IsMade cx ty false (typed span ty (Index b i size (Some (more n))))
  index_raised span ty b i size n h m =
      let pb = part_of cx b in
      let pi = part_of cx i in
      let same : part_of cx (typed span ty (Index b i size (Some n))) ≡ record { ty = ty; variable = false; within = pb.within; ok = (kind_step cx (ExprKind-F.Index pb pi size (Some n))).ok ty } = search (rules, opened) in
      let own : pb.ty ≡ b.ty = search (rules, opened) in
      let out : pb.within ≡ false = sym (ap (λ (p : Part). p.within) same) ∙ m.within in
      let row : Layer cx ty (ExprKind-F.Index pb pi size (Some n)) = sym (ap (λ (p : Part). p.ok) same) ∙ m.ok in
      made_within cx span ty pb.within false (Index b i size (Some (more n))) (ExprKind-F.Index pb pi size (Some (more n))) (search (rules, opened)) out
      (raised_row ty pb pi n size out (subst (λ t. IsTrue (passes (λ a. n == a.0 && nat_le n (2 ^ 22)) (array_under t))) (sym own) h) row)

  by_form : (span : Span) (ty : Ty) (k : ExprKind) (y : ExprKind-F ExprKind Expr) → out-ExprKind k ≡ y → IsTrue (unraised_at y) →
      IsMade cx ty false (typed span ty k) → IsMade cx ty false (typed span ty (raised_at k y))
  unfolding roll-ExprKind denote.Hole.Carrier.roll
  by_form span ty k (ExprKind-F.Index b i size (Some n)) e h m =
      index_raised span ty b i size n h (subst (λ x. IsMade cx ty false (typed span ty x)) (sym (roll-out-ExprKind k) ∙ ap roll-ExprKind e) m)
  by_form span ty k y e h m = m

  -- the pointer to an object is a value
  raised_made : (span : Span) (ty : Ty) (e : Expr) → IsPlace cx ty false e → IsMade cx (Ptr ty) false (typed span (Ptr ty) (raised e.kind))
  raised_made span ty e m = by_form span (Ptr ty) e.kind (out-ExprKind e.kind) refl m.unraised
      (subst (λ t. IsMade cx (Ptr ty) false (typed span t e.kind)) m.made.own (spanned_made cx span (Ptr ty) false e m.made))

module _ (so : Point) (span : Span) where
  address_kind : (ty : Ty) (made : Option Expr) → Stands so.cx (known.Place ty false) made → KindMade so span (Ptr ty) (option_map (λ e. raised e.kind) made)
  address_kind ty None m = tt
  address_kind ty (Some e) m = raised_made so.cx span ty e m

  address_keeps : (k : Known) (made : Option Expr) → IsTrue (known_ok so k) → Stands so.cx k made → Keeps so span (address_ruling k) (option_map (λ e. raised e.kind) made)
  address_keeps (known.Unknown true) made h m = tt
  address_keeps (known.Unknown false) made h m = tt
  address_keeps (known.Value ty) made h m = tt
  address_keeps (known.Place ty true) made h m = tt
  address_keeps (known.Place ty false) made h m = (pointer_ok so ty h, address_kind ty made m)

  -- `&`
  pub address_sound : (a : Found) → IsSound so a → IsSound so (address_part span a)
  unfolding address_part
  address_sound a h = found_sound so span (address_ruling a.known) (option_map (λ e. raised e.kind) a.made) (address_keeps a.known a.made h.known h.made)
