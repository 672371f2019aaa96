-- How many nodes expressions, statements and functions have, and which trees are small.
use Rattle.std.specs.Prelude.{ℕ, ◌+◌, ◌*◌, ◌^◌, ◌≤◌, List, [], ◌∷◌, length, map, Option, Some, None}
use Rattle.xc_tree.specs.declared.expr.Expr.{Expr}
use Rattle.xc_tree.specs.declared.expr.ExprKind.{ExprKind}
use Rattle.xc_tree.specs.declared.expr.ExprKind.TheOpen.{ExprKind-F}
use Rattle.xc_tree.specs.declared.expr.ExprKind.TheFolds.{fold-ExprKind, fold-Expr}
use Rattle.xc_tree.specs.declared.stmt.Stmt.{Stmt}
use Rattle.xc_tree.specs.declared.stmt.Item.TheOpen.{StmtKind-F, Item-F}
use Rattle.xc_tree.specs.declared.stmt.Item.TheFolds.{fold-Stmt}
use Rattle.xc_tree.specs.declared.tree.Func.{Func}
use Rattle.xc_tree.specs.declared.tree.Tree.{Tree}

abbrev pub total : List ℕ → ℕ
total [] = 0
total (n ∷ ns) = n + total ns

-- nothing has none
abbrev pub if_there : {A : Type 0} → (A → ℕ) → Option A → ℕ
if_there count None = 0
if_there count (Some x) = count x

-- expressions --------------------------------------------------------------

-- the nodes of the parts of a form
abbrev pub nodes_in : ExprKind-F ℕ ℕ → ℕ
nodes_in (ExprKind-F.Const n) = 0
nodes_in (ExprKind-F.Local x) = 0
nodes_in (ExprKind-F.Set x value) = value
nodes_in (ExprKind-F.Global g) = 0
nodes_in (ExprKind-F.Auto x) = 0
nodes_in (ExprKind-F.Index base index size bound) = base + index
nodes_in (ExprKind-F.Member base off) = base
nodes_in (ExprKind-F.Read k place) = place
nodes_in (ExprKind-F.Write k place value) = place + value
nodes_in (ExprKind-F.FetchAdd place value) = place + value
nodes_in (ExprKind-F.Purge place) = place
nodes_in (ExprKind-F.Update o post place value) = place + value
nodes_in (ExprKind-F.Unary o of) = of
nodes_in (ExprKind-F.Binary o a b) = a + b
nodes_in (ExprKind-F.And a b) = a + b
nodes_in (ExprKind-F.Or a b) = a + b
nodes_in (ExprKind-F.Cond test then other) = test + (then + other)
nodes_in (ExprKind-F.Comma a b) = a + b
nodes_in (ExprKind-F.Call f args) = total args
nodes_in (ExprKind-F.Print format args) = total args

abbrev pub kind_nodes : ExprKind → ℕ
kind_nodes = fold-ExprKind ℕ ℕ (λ k. nodes_in k + 1) (λ e. e.kind)

abbrev pub expr_nodes : Expr → ℕ
expr_nodes = fold-Expr ℕ ℕ (λ k. nodes_in k + 1) (λ e. e.kind)

abbrev pub inits_nodes : List (ℕ × Expr) → ℕ
inits_nodes is = total (map (λ i. expr_nodes i.1) is)

-- statements ---------------------------------------------------------------

-- a label of a `switch` is one node
abbrev pub item_step : Item-F ℕ ℕ ℕ → ℕ
item_step (Item-F.At n) = 1
item_step Item-F.Other = 1
item_step (Item-F.Do s) = s

-- the nodes of the parts of a form
abbrev pub parts_nodes : StmtKind-F ℕ ℕ ℕ → ℕ
parts_nodes StmtKind-F.Empty = 0
parts_nodes (StmtKind-F.Declare x init) = inits_nodes init
parts_nodes (StmtKind-F.Eval e) = expr_nodes e
parts_nodes (StmtKind-F.Block all) = total all
parts_nodes (StmtKind-F.If test then other) = expr_nodes test + (then + if_there (λ n. n) other)
parts_nodes (StmtKind-F.Loop id _ init test step body pragmas) = total init + (if_there expr_nodes test + (if_there expr_nodes step + body))
parts_nodes (StmtKind-F.Switch value items) = expr_nodes value + total items
parts_nodes (StmtKind-F.Return e) = if_there expr_nodes e
parts_nodes StmtKind-F.Break = 0
parts_nodes StmtKind-F.Continue = 0
parts_nodes (StmtKind-F.Future place captures body) = expr_nodes place + (total (map (λ c. expr_nodes c.from) captures) + body)

abbrev pub stmt_nodes : Stmt → ℕ
stmt_nodes = fold-Stmt ℕ ℕ ℕ item_step (λ k. parts_nodes k + 1) (λ s. s.kind)

abbrev pub stmts_nodes : List Stmt → ℕ
stmts_nodes ss = total (map stmt_nodes ss)

-- trees --------------------------------------------------------------------

-- those of the bodies
abbrev pub funcs_nodes : List Func → ℕ
funcs_nodes fs = total (map (λ f. stmt_nodes f.body) fs)

-- the nodes of its functions, its globals and its formats are at most 41 * 2^20 together
abbrev pub IsSmall : Tree → Type 0
IsSmall tree = funcs_nodes tree.funcs + length tree.globals + length tree.formats ≤ 41 * 2 ^ 20
