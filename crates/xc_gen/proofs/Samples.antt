-- A small program that is well typed.
use Rattle.std.proofs.Common.{rules, ◌≡◌, List, [], ◌∷◌, true, false}
use Rattle.xc_tree.specs.declared.operator.BinOp.TheVariants as op
use Rattle.xc_tree.specs.declared.ty.Ty.{Int, Uint, Ptr}
use Rattle.xc_tree.specs.declared.expr.Expr.{Expr}
use Rattle.xc_tree.specs.declared.expr.ExprKind.{Const, Global, Update}
use Rattle.xc_tree.specs.declared.stmt.Stmt.{Stmt}
use Rattle.xc_tree.specs.declared.stmt.StmtKind.{Eval, Block}
use Rattle.xc_tree.specs.declared.tree.Object.{Object}
use Rattle.xc_tree.specs.declared.tree.Func.{Func}
use Rattle.xc_tree.specs.declared.expr.ExprKind.TheFolds as folds
use Rattle.xc_tree.specs.declared.expr.ExprKind.TheViews as views
use Rattle.xc_tree.specs.declared.stmt.Item.TheFolds as stmt_folds
use Rattle.xc_tree.specs.declared.stmt.Item.TheViews as stmt_views
use Rattle.xc_tree.specs.declared.ty.Ty.TheFolds as ty_folds
use Rattle.xc_tree.specs.declared.ty.Ty.TheViews as ty_views
use Rattle.xc_tree.specs.Lists.{distinct, ascending, same_numbers}
use Rattle.xc_tree.specs.Types.{structs_ok, shapes_within, is_mixed}
use Rattle.xc_tree.specs.Formats.{taken_from}
use Rattle.xc_tree.specs.Typed.{rule, are_values}
use Rattle.xc_tree.specs.Valid.{func_ok, global_ok, globals_fit, tree_ok}

ruleset opened = (folds.the_lemmas, views.the_lemmas, stmt_folds.the_lemmas, stmt_views.the_lemmas, ty_folds.the_lemmas, ty_views.the_lemmas)

-- `unsigned x = 9; int main() { x /= 2; }`
abbrev pub globals : List Object
globals = record { name = record { start = 0; end = 0 }; ty = Uint; init = (9, true) ∷ [] } ∷ []

abbrev pub halving : Expr
halving = record {
  ty = Uint;
  span = record { start = 0; end = 0 };
  kind = Update op.Div false (record { ty = Ptr Uint; span = record { start = 0; end = 0 }; kind = Global 0 }) (record { ty = Int; span = record { start = 0; end = 0 }; kind = Const 2 });
}

abbrev pub body : Stmt
body = record { span = record { start = 0; end = 0 }; kind = Block (record { span = record { start = 0; end = 0 }; kind = Eval halving } ∷ []) }

abbrev pub funcs : List Func
funcs = record { name = record { start = 0; end = 0 }; params = 0; locals = []; ret = Int; body = body } ∷ []

pub valid : tree_ok [] globals funcs [] 0 0 ≡ true
unfolding rule are_values shapes_within is_mixed taken_from tree_ok func_ok global_ok globals_fit structs_ok distinct same_numbers ascending
valid = search (rules, opened)
