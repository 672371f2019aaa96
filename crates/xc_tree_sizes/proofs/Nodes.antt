-- The nodes of an expression, by its form.
use Rattle.std.proofs.Common.{◌≡◌, ℕ, ◌+◌, ◌≤◌, arith}
use Rattle.xc_tree.specs.declared.expr.Expr.{Expr}
use Rattle.xc_tree.specs.declared.expr.ExprKind.{ExprKind, roll-ExprKind}
use Rattle.xc_tree.specs.declared.expr.ExprKind.TheOpen.{ExprKind-F}
use Rattle.xc_tree.specs.declared.expr.ExprKind.TheFolds.{fold_out-Expr, fold_out-ExprKind, fold-roll-ExprKind, map-ExprKind}
use Rattle.xc_tree_sizes.specs.Nodes.{nodes_in, kind_nodes, expr_nodes}

-- the nodes of the parts
abbrev pub counted : ExprKind-F ExprKind Expr → ℕ
counted l = nodes_in (map-ExprKind ExprKind Expr ℕ ℕ kind_nodes expr_nodes l)

pub form_is : (l : ExprKind-F ExprKind Expr) → kind_nodes (roll-ExprKind l) ≡ counted l + 1
form_is l = fold-roll-ExprKind ℕ ℕ (λ k. nodes_in k + 1) (λ e. e.kind) l

pub nodes_are : (e : Expr) → expr_nodes e ≡ kind_nodes e.kind
nodes_are e = fold_out-Expr ℕ ℕ (λ k. nodes_in k + 1) (λ e. e.kind) e

pub one_node : (e : Expr) → 1 ≤ expr_nodes e
one_node e = omega (arith, nodes_are e, fold_out-ExprKind ℕ ℕ (λ k. nodes_in k + 1) (λ e. e.kind) e.kind)
