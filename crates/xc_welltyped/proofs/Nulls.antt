-- A null pointer is well typed where its type may be an object's.
use Rattle.std.proofs.Common.{rules, ◌≡◌, Bool, true, false, refl, cond}
use Rattle.std.specs.Prelude.{IsTrue, ◌&&◌, ◌||◌, Option, Some, None}
use Rattle.xc_text_place.specs.declared.Span.{Span}
use Rattle.xc_tree.specs.declared.ty.Ty.{Ty, out-Ty}
use Rattle.xc_tree.specs.declared.ty.Ty.TheOpen.{Ty-F}
use Rattle.xc_tree.specs.declared.expr.Expr.{Expr}
use Rattle.xc_tree.specs.declared.expr.ExprKind.{Const}
use Rattle.xc_tree.specs.declared.expr.ExprKind.TheOpen.{ExprKind-F}
use Rattle.xc_tree.specs.Lists.{passes}
use Rattle.xc_tree.proofs.Lists.{and_left, and_both}
use Rattle.xc_tree.specs.Types.{void_at, is_number, is_pointer, pointee_at, is_object}
use Rattle.xc_tree.specs.Typed.{rule, are_values}
use Rattle.xc_type_rule.specs.declared.found.Found.{Found}
use Rattle.xc_type_rule.specs.declared.found.Known.{Known}
use Rattle.xc_type_rule.specs.declared.found.Known.TheVariants as known
use Rattle.xc_type_rule.specs.Making.{typed}
use Rattle.xc_type_rule.specs.Nulls.{is_null, null, given, against}
use Rattle.xc_welltyped.specs.Sound.{Point, IsMade, known_ok, IsSound}
use Rattle.xc_welltyped.proofs.Types.{or_right}
use Rattle.xc_welltyped.proofs.Points.{object_at}
use Rattle.xc_welltyped.proofs.Forms.{opened, Layer, made_at}

-- a pointer is not void
not_void : (y : Ty-F Ty) (b : Bool) → IsTrue (passes (λ to. true) (pointee_at y)) → IsTrue (void_at y || b) → IsTrue b
not_void Ty-F.Void b p h = absurd cc
not_void Ty-F.Int b p h = h
not_void Ty-F.Uint b p h = h
not_void (Ty-F.Ptr t) b p h = h
not_void (Ty-F.Array n t) b p h = h
not_void (Ty-F.Struct n) b p h = h
not_void (Ty-F.Sync t) b p h = h
not_void (Ty-F.Future t) b p h = h

module _ (so : Point) (to : Ty) where
  null_row : IsTrue (is_pointer to) → IsTrue (is_object so.cx.shapes to) → Layer so.cx to (ExprKind-F.Const 0)
  unfolding rule are_values
  null_row p h = or_right (is_number to) _ (and_both (is_pointer to) _ p (and_both (is_object so.cx.shapes to) true h refl))

  null_made : (span : Span) → IsTrue (is_pointer to) → IsTrue (known_ok so (known.Value to)) → IsMade so.cx to false (typed span to (Const 0))
  null_made span p h = made_at so.cx span to false (Const 0) (ExprKind-F.Const 0) (search (rules, opened))
      (null_row p (object_at so to (not_void (out-Ty to) (is_object so.shapes to) p h)))

  null_sound : (made : Option Expr) → IsTrue (is_pointer to) → IsTrue (known_ok so (known.Value to)) → IsSound so (null to made)
  null_sound None p h = record { known = h; made = tt }
  null_sound (Some e) p h = record { known = h; made = null_made e.span p h }

  pub given_sound : (f : Found) → IsTrue (known_ok so (known.Value to)) → IsSound so f → IsSound so (given to f)
  unfolding given
  given_sound f h s = at (is_pointer to && is_null f) refl
    where
      at : (b : Bool) → (is_pointer to && is_null f) ≡ b → IsSound so (cond b (null to f.made) f)
      at true e = null_sound f.made (and_left (is_pointer to) _ e) h
      at false e = s

pub against_sound : (so : Point) (k : Known) (f : Found) → IsTrue (known_ok so k) → IsSound so f → IsSound so (against k f)
unfolding against
against_sound so (known.Unknown place) f h s = s
against_sound so (known.Value ty) f h s = given_sound so ty f h s
against_sound so (known.Place ty within) f h s = s
