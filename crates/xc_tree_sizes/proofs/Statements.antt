-- The nodes of a statement, by its form.
use Rattle.std.proofs.Common.{◌≡◌, ℕ, ◌+◌, List, map, ◌∙◌, arith}
use Rattle.std.specs.Prelude.{Option, Some, None}
use Rattle.xc_text_place.specs.declared.Span.{Span}
use Rattle.xc_tree.specs.declared.expr.Expr.{Expr}
use Rattle.xc_tree.specs.declared.pragmas.Pragmas.{Pragmas}
use Rattle.xc_tree.specs.declared.stmt.Stmt.{Stmt}
use Rattle.xc_tree.specs.declared.stmt.Capture.{Capture}
use Rattle.xc_tree.specs.declared.stmt.LoopForm.{LoopForm}
use Rattle.xc_tree.specs.declared.stmt.StmtKind.{StmtKind, roll-StmtKind, Empty, Declare, Eval, Block, If, Loop, Return, Break, Continue, Future}
use Rattle.xc_tree.specs.declared.stmt.Item.{Item}
use Rattle.xc_tree.specs.declared.stmt.Item.TheOpen.{StmtKind-F}
use Rattle.xc_tree.specs.declared.stmt.Item.TheFolds.{fold-StmtKind, fold-Item, fold_out-Stmt, fold-roll-StmtKind, map-StmtKind}
use Rattle.xc_tree_sizes.specs.Nodes.{total, expr_nodes, if_there, inits_nodes, item_step, parts_nodes, stmt_nodes, stmts_nodes}

abbrev form_nodes : StmtKind → ℕ
form_nodes = fold-StmtKind ℕ ℕ ℕ item_step (λ k. parts_nodes k + 1) (λ s. s.kind)

abbrev item_nodes : Item → ℕ
item_nodes = fold-Item ℕ ℕ ℕ item_step (λ k. parts_nodes k + 1) (λ s. s.kind)

abbrev counted : StmtKind-F Item StmtKind Stmt → ℕ
counted l = parts_nodes (map-StmtKind Item StmtKind Stmt ℕ ℕ ℕ item_nodes form_nodes stmt_nodes l)

abbrev stmt : Span → StmtKind → Stmt
stmt span k = record { span = span; kind = k }

form_is : (span : Span) (l : StmtKind-F Item StmtKind Stmt) → stmt_nodes (stmt span (roll-StmtKind l)) ≡ counted l + 1
form_is span l = fold_out-Stmt ℕ ℕ ℕ item_step (λ k. parts_nodes k + 1) (λ s. s.kind) (stmt span (roll-StmtKind l))
    ∙ fold-roll-StmtKind ℕ ℕ ℕ item_step (λ k. parts_nodes k + 1) (λ s. s.kind) l

module _ (span : Span) where
  pub empty_is : stmt_nodes (stmt span Empty) ≡ 1
  unfolding roll-StmtKind denote.Hole.Carrier.roll
  empty_is = form_is span StmtKind-F.Empty

  pub declare_is : (x : ℕ) (init : List (ℕ × Expr)) → stmt_nodes (stmt span (Declare x init)) ≡ inits_nodes init + 1
  unfolding roll-StmtKind denote.Hole.Carrier.roll
  declare_is x init = form_is span (StmtKind-F.Declare x init)

  pub eval_is : (e : Expr) → stmt_nodes (stmt span (Eval e)) ≡ expr_nodes e + 1
  unfolding roll-StmtKind denote.Hole.Carrier.roll
  eval_is e = form_is span (StmtKind-F.Eval e)

  pub block_is : (ss : List Stmt) → stmt_nodes (stmt span (Block ss)) ≡ stmts_nodes ss + 1
  unfolding roll-StmtKind denote.Hole.Carrier.roll
  block_is ss = form_is span (StmtKind-F.Block ss)

  pub if_is : (test : Expr) (then other : Stmt) → stmt_nodes (stmt span (If test then (Some other))) ≡ expr_nodes test + (stmt_nodes then + stmt_nodes other) + 1
  unfolding roll-StmtKind denote.Hole.Carrier.roll
  if_is test then other = form_is span (StmtKind-F.If test then (Some other))

  pub if_alone_is : (test : Expr) (then : Stmt) → stmt_nodes (stmt span (If test then None)) ≡ expr_nodes test + stmt_nodes then + 1
  unfolding roll-StmtKind denote.Hole.Carrier.roll
  if_alone_is test then = omega (arith, form_is span (StmtKind-F.If test then None))

  pub loop_is : (id : ℕ) (f : LoopForm) (init : List Stmt) (test step : Option Expr) (body : Stmt) (pragmas : Pragmas) →
      stmt_nodes (stmt span (Loop id f init test step body pragmas)) ≡ stmts_nodes init + (if_there expr_nodes test + (if_there expr_nodes step + stmt_nodes body)) + 1
  unfolding roll-StmtKind denote.Hole.Carrier.roll
  loop_is id f init test step body pragmas = form_is span (StmtKind-F.Loop id f init test step body pragmas)

  pub return_is : (e : Option Expr) → stmt_nodes (stmt span (Return e)) ≡ if_there expr_nodes e + 1
  unfolding roll-StmtKind denote.Hole.Carrier.roll
  return_is e = form_is span (StmtKind-F.Return e)

  pub break_is : stmt_nodes (stmt span Break) ≡ 1
  unfolding roll-StmtKind denote.Hole.Carrier.roll
  break_is = form_is span StmtKind-F.Break

  pub continue_is : stmt_nodes (stmt span Continue) ≡ 1
  unfolding roll-StmtKind denote.Hole.Carrier.roll
  continue_is = form_is span StmtKind-F.Continue

  pub future_is : (place : Expr) (captures : List Capture) (body : Stmt) →
      stmt_nodes (stmt span (Future place captures body)) ≡ expr_nodes place + (total (map (λ c. expr_nodes c.from) captures) + stmt_nodes body) + 1
  unfolding roll-StmtKind denote.Hole.Carrier.roll
  future_is place captures body = form_is span (StmtKind-F.Future place captures body)
