-- Each form of expression is well typed where its parts are and its rule is kept.
use Rattle.std.proofs.Common.{rules, ◌≡◌, ℕ, Bool, true, false, refl, ap, ◌∙◌}
use Rattle.std.specs.Prelude.{IsTrue}
use Rattle.xc_text_place.specs.declared.Span.{Span}
use Rattle.xc_tree.specs.declared.operator.BinOp.{BinOp}
use Rattle.xc_tree.specs.declared.operator.UnOp.{UnOp}
use Rattle.xc_tree.specs.declared.ty.Ty.{Ty, Int}
use Rattle.xc_tree.specs.declared.expr.Expr.{Expr}
use Rattle.xc_tree.specs.declared.expr.ExprKind.{ExprKind, Const, Index, Read, Write, Update, Unary, Binary, And, Or, Cond, Comma}
use Rattle.xc_tree.specs.declared.expr.ExprKind.TheOpen.{ExprKind-F}
use Rattle.xc_tree.specs.declared.expr.ExprKind.TheFolds as folds
use Rattle.xc_tree.specs.declared.expr.ExprKind.TheViews as views
use Rattle.xc_tree.specs.Types.{is_number, is_plain}
use Rattle.xc_tree.specs.Typed.{Context, Row, Part, kind_step, part_of, rule, are_values, binary_ok, unary_ok, sort_of}
use Rattle.xc_type_rule.specs.Making.{typed}
use Rattle.xc_welltyped.specs.Sound.{IsMade}
use Rattle.xc_welltyped.proofs.Types.{same_ty_refl}

pub ruleset opened = (folds.the_lemmas, views.the_lemmas)

-- the layer of a form is well typed, and what is made of it is
abbrev pub Layer : Context → Ty → ExprKind-F Row Part → Type 0
Layer cx ty k = (kind_step cx k).ok ty ≡ true

-- a form is made where its layer is well typed
pub made_within : (cx : Context) (span : Span) (ty : Ty) (v w : Bool) (kind : ExprKind) (k : ExprKind-F Row Part) →
    part_of cx (typed span ty kind) ≡ record { ty = ty; variable = false; within = v; ok = (kind_step cx k).ok ty } → v ≡ w → Layer cx ty k →
    IsMade cx ty w (typed span ty kind)
made_within cx span ty v w kind k same is row = record {
  own = refl;
  typed = ap (λ (p : Part). p.ty) same;
  ok = ap (λ (p : Part). p.ok) same ∙ row;
  within = ap (λ (p : Part). p.within) same ∙ is;
  variable = ap (λ (p : Part). p.variable) same;
}

pub made_at : (cx : Context) (span : Span) (ty : Ty) (w : Bool) (kind : ExprKind) (k : ExprKind-F Row Part) →
    part_of cx (typed span ty kind) ≡ record { ty = ty; variable = false; within = w; ok = (kind_step cx k).ok ty } → Layer cx ty k →
    IsMade cx ty w (typed span ty kind)
made_at cx span ty w kind k same row = made_within cx span ty w w kind k same refl row

module _ (cx : Context) (span : Span) where
  const_row : (ty : Ty) (n : ℕ) → IsTrue (is_number ty) → Layer cx ty (ExprKind-F.Const n)
  unfolding rule are_values
  const_row ty n r = simp r refl

  pub const_made : (ty : Ty) (n : ℕ) → IsTrue (is_number ty) → IsMade cx ty false (typed span ty (Const n))
  const_made ty n r = made_at cx span ty false (Const n) (ExprKind-F.Const n) (search (rules, opened))
      (const_row ty n r)

  unary_row : (ty : Ty) (o : UnOp) (s : Ty) (px : Part) → px.ty ≡ s → px.ok ≡ true → px.within ≡ false → IsTrue (unary_ok o s ty) → Layer cx ty (ExprKind-F.Unary o px)
  unfolding rule are_values
  unary_row ty o s px is_x ok_x in_x r = simp (is_x, ok_x, in_x) r

  pub unary_made : (ty : Ty) (o : UnOp) (x : Expr) (s : Ty) → IsMade cx s false x → IsTrue (unary_ok o s ty) → IsMade cx ty false (typed span ty (Unary o x))
  unary_made ty o x s mx r = made_at cx span ty false (Unary o x) (ExprKind-F.Unary o (part_of cx x)) (search (rules, opened))
      (unary_row ty o s (part_of cx x) mx.typed mx.ok mx.within r)

  binary_row : (ty : Ty) (o : BinOp) (s t : Ty) (px : Part) (py : Part) → px.ty ≡ s → px.ok ≡ true → px.within ≡ false → py.ty ≡ t → py.ok ≡ true → py.within ≡ false → IsTrue (binary_ok (sort_of o) s t ty) → Layer cx ty (ExprKind-F.Binary o px py)
  unfolding rule are_values
  binary_row ty o s t px py is_x ok_x in_x is_y ok_y in_y r = simp (is_x, ok_x, in_x, is_y, ok_y, in_y) r

  pub binary_made : (ty : Ty) (o : BinOp) (x y : Expr) (s t : Ty) → IsMade cx s false x → IsMade cx t false y → IsTrue (binary_ok (sort_of o) s t ty) → IsMade cx ty false (typed span ty (Binary o x y))
  binary_made ty o x y s t mx my r = made_at cx span ty false (Binary o x y) (ExprKind-F.Binary o (part_of cx x) (part_of cx y)) (search (rules, opened))
      (binary_row ty o s t (part_of cx x) (part_of cx y) mx.typed mx.ok mx.within my.typed my.ok my.within r)

  and_row : (s t : Ty) (px : Part) (py : Part) → px.ty ≡ s → px.ok ≡ true → px.within ≡ false → py.ty ≡ t → py.ok ≡ true → py.within ≡ false → IsTrue (is_plain s) → IsTrue (is_plain t) → Layer cx Int (ExprKind-F.And px py)
  unfolding rule are_values
  and_row s t px py is_x ok_x in_x is_y ok_y in_y hs ht = simp (is_x, ok_x, in_x, is_y, ok_y, in_y, hs, ht) (same_ty_refl Int)

  pub and_made : (x y : Expr) (s t : Ty) → IsMade cx s false x → IsMade cx t false y → IsTrue (is_plain s) → IsTrue (is_plain t) → IsMade cx Int false (typed span Int (And x y))
  and_made x y s t mx my hs ht = made_at cx span Int false (And x y) (ExprKind-F.And (part_of cx x) (part_of cx y)) (search (rules, opened))
      (and_row s t (part_of cx x) (part_of cx y) mx.typed mx.ok mx.within my.typed my.ok my.within hs ht)

  or_row : (s t : Ty) (px : Part) (py : Part) → px.ty ≡ s → px.ok ≡ true → px.within ≡ false → py.ty ≡ t → py.ok ≡ true → py.within ≡ false → IsTrue (is_plain s) → IsTrue (is_plain t) → Layer cx Int (ExprKind-F.Or px py)
  unfolding rule are_values
  or_row s t px py is_x ok_x in_x is_y ok_y in_y hs ht = simp (is_x, ok_x, in_x, is_y, ok_y, in_y, hs, ht) (same_ty_refl Int)

  pub or_made : (x y : Expr) (s t : Ty) → IsMade cx s false x → IsMade cx t false y → IsTrue (is_plain s) → IsTrue (is_plain t) → IsMade cx Int false (typed span Int (Or x y))
  or_made x y s t mx my hs ht = made_at cx span Int false (Or x y) (ExprKind-F.Or (part_of cx x) (part_of cx y)) (search (rules, opened))
      (or_row s t (part_of cx x) (part_of cx y) mx.typed mx.ok mx.within my.typed my.ok my.within hs ht)

  comma_row : (t : Ty) (px : Part) (py : Part) → px.ok ≡ true → px.within ≡ false → py.ty ≡ t → py.ok ≡ true → py.within ≡ false → Layer cx t (ExprKind-F.Comma px py)
  unfolding rule are_values
  comma_row t px py ok_x in_x is_y ok_y in_y = simp (ok_x, in_x, is_y, ok_y, in_y) (same_ty_refl t)

  pub comma_made : (x y : Expr) (s t : Ty) → IsMade cx s false x → IsMade cx t false y → IsMade cx t false (typed span t (Comma x y))
  comma_made x y s t mx my = made_at cx span t false (Comma x y) (ExprKind-F.Comma (part_of cx x) (part_of cx y)) (search (rules, opened))
      (comma_row t (part_of cx x) (part_of cx y) mx.ok mx.within my.typed my.ok my.within)
