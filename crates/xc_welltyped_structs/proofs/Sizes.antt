-- Types of objects in a program that has what is declared.
use Rattle.std.proofs.Common.{◌≡◌, subst}
use Rattle.std.specs.Prelude.{IsTrue}
use Rattle.xc_tree.specs.declared.ty.Ty.{Ty}
use Rattle.xc_tree.specs.Types.{is_object, size_of}
use Rattle.xc_tree.specs.Typed.{Context}
use Rattle.xc_type_rule.specs.Cells.{cells}
use Rattle.xc_type_scopes.specs.declared.env.Env.{Env}
use Rattle.xc_type_expressions.specs.declared.text.Text.{Text}
use Rattle.xc_welltyped.proofs.Points.{object_at}
use Rattle.xc_welltyped_claims.specs.Types.{is_object_by}
use Rattle.xc_welltyped_claims.specs.Env.{Good, Into}
use Rattle.xc_welltyped_claims.proofs.Env.{point, at_point}
use Rattle.xc_welltyped_structs.proofs.Programs as programs

module _ (t : Text) (cx : Context) (e : Env) (g : Good e) (i : Into t cx e) (ty : Ty) (h : IsTrue (is_object_by e.structs.sizes ty)) where
  pub object_in : IsTrue (is_object cx.shapes ty)
  object_in = object_at (point cx e) ty (subst IsTrue (programs.object_told t (point cx e) e g (at_point t cx e i) ty) h)

  -- its cells
  pub cells_told : cells e.structs.sizes ty ≡ size_of cx.shapes ty
  cells_told = programs.cells_told t (point cx e) e g (at_point t cx e i) ty h
