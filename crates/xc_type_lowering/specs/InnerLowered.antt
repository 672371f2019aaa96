-- What only private functions and proofs speak of, beside `Lowered`.
use Rattle.std.specs.Prelude.{Bool, List, map}
use Rattle.xc_tree.specs.declared.expr.Expr.{Expr}
use Rattle.xc_tree.specs.declared.expr.ExprKind.{ExprKind}
use Rattle.xc_tree.specs.declared.expr.ExprKind.TheFolds.{fold-ExprKind}
use Rattle.xc_tree.specs.declared.stmt.Stmt.{Stmt}
use Rattle.xc_tree.specs.declared.stmt.StmtKind.{StmtKind}
use Rattle.xc_tree.specs.declared.stmt.Item.{Item}
use Rattle.xc_tree.specs.declared.stmt.Item.TheViews.{roll-Stmt, roll-Item}
use Rattle.xc_tree.specs.declared.stmt.Item.TheFolds.{fold-StmtKind, fold-Item}
use Rattle.xc_type_lowering.specs.Lowered.{Lowered, LoweredKind, lower_step, with_kind, lowering, lower_stmt_step}

abbrev pub lowering_kind : List Bool → ExprKind → LoweredKind
lowering_kind addressed = fold-ExprKind LoweredKind Lowered (lower_step addressed) with_kind

abbrev pub all_lowered : List Bool → List Expr → List Expr
all_lowered addressed es = map (λ l. l.expr) (map (lowering addressed) es)

abbrev pub lowered_stmt_kind : List Bool → StmtKind → StmtKind
lowered_stmt_kind addressed = fold-StmtKind Item StmtKind Stmt roll-Item (lower_stmt_step addressed) roll-Stmt

abbrev pub lowered_item : List Bool → Item → Item
lowered_item addressed = fold-Item Item StmtKind Stmt roll-Item (lower_stmt_step addressed) roll-Stmt
