-- A lowered tree has no more nodes.
use Rattle.std.proofs.Common.{◌≡◌, ℕ, ◌+◌, ◌≤◌, List, [], ◌∷◌, map, Bool, sym, subst, ap, arith}
use Rattle.std.specs.Prelude.{Option, Some, None, option_map}
use Rattle.xc_word.specs.declared.memory.Kind.{Kind}
use Rattle.xc_word.specs.declared.memory.Kind.TheVariants as kind
use Rattle.xc_tree.specs.declared.operator.BinOp.{BinOp}
use Rattle.xc_tree.specs.declared.expr.Expr.{Expr, roll-Expr}
use Rattle.xc_tree.specs.declared.expr.ExprKind.{ExprKind, roll-ExprKind}
use Rattle.xc_tree.specs.declared.expr.ExprKind.TheOpen.{ExprKind-F, Expr-F}
use Rattle.xc_tree.specs.declared.expr.ExprKind.TheFolds.{fold-roll-ExprKind, fold-roll-Expr, ind-Expr, map-ExprKind}
use Rattle.xc_tree.specs.declared.stmt.Stmt.{Stmt, roll-Stmt}
use Rattle.xc_tree.specs.declared.stmt.Capture.{Capture}
use Rattle.xc_tree.specs.declared.stmt.StmtKind.{StmtKind, roll-StmtKind}
use Rattle.xc_tree.specs.declared.stmt.Item.{Item, roll-Item}
use Rattle.xc_tree.specs.declared.stmt.Item.TheOpen.{StmtKind-F, Item-F}
use Rattle.xc_tree.specs.declared.stmt.Item.TheFolds.{fold-StmtKind, fold-Item, fold-roll-StmtKind, fold-roll-Stmt, fold-roll-Item, ind-Stmt, map-StmtKind, map-Item}
use Rattle.xc_type_lowering.specs.Lowered.{Lowered, LoweredKind, with_kind, lower_step, lowering, lowered, read_of, written_of, updated_of, init_with, capture_with, with_exprs, lower_stmt_step, lowered_stmt}
use Rattle.xc_type_lowering.specs.InnerLowered.{lowering_kind, lowered_stmt_kind, lowered_item}
use Rattle.xc_tree_sizes.specs.Nodes.{total, nodes_in, kind_nodes, expr_nodes, item_step, inits_nodes, parts_nodes, stmt_nodes}
use Rattle.xc_tree_sizes.proofs.Nodes.{one_node}
use Rattle.xc_welltyped_sizes.specs.Made.{captures_nodes}
use Rattle.xc_welltyped_sizes.proofs.Forms.{made_nodes}

module _ (flags : List Bool) where
  -- expressions ------------------------------------------------------------------

  abbrev KeptKind : ExprKind → Type 0
  KeptKind k = kind_nodes (lowering_kind flags k).kind ≤ kind_nodes k

  abbrev Kept : Expr → Type 0
  Kept e = expr_nodes (lowering flags e).expr ≤ expr_nodes e

  abbrev Child : Type 0
  Child = (e : Expr) × Kept e

  abbrev KindChild : Type 0
  KindChild = (k : ExprKind) × KeptKind k

  abbrev layer : ExprKind-F KindChild Child → ExprKind-F ExprKind Expr
  layer y = map-ExprKind KindChild Child ExprKind Expr (λ k. k.0) (λ e. e.0) y

  abbrev nodes_layer : ExprKind-F ExprKind Expr → ExprKind-F ℕ ℕ
  nodes_layer l = map-ExprKind ExprKind Expr ℕ ℕ kind_nodes expr_nodes l

  abbrev lowered_layer : ExprKind-F KindChild Child → ExprKind-F LoweredKind Lowered
  lowered_layer y = map-ExprKind ExprKind Expr LoweredKind Lowered (lowering_kind flags) (lowering flags) (layer y)

  abbrev low : Child → Expr
  low c = (lowering flags c.0).expr

  -- the form is no larger
  abbrev Less : ExprKind-F KindChild Child → Type 0
  Less y = kind_nodes (lower_step flags (lowered_layer y)).kind ≤ nodes_in (nodes_layer (layer y)) + 1

  ordinary : (l : ExprKind-F ExprKind Expr) (n : ℕ) → nodes_in (nodes_layer l) ≤ n → kind_nodes (roll-ExprKind l) ≤ n + 1
  ordinary l n h = omega (arith, fold-roll-ExprKind ℕ ℕ (λ k. nodes_in k + 1) (λ e. e.kind) l, h)

  args_less : (es : List Child) → total (map expr_nodes (map (λ (e : Lowered). e.expr) (map (lowering flags) (map (λ e. e.0) es)))) ≤ total (map expr_nodes (map (λ e. e.0) es))
  args_less [] = omega arith
  args_less (e ∷ es) = omega (arith, e.1, args_less es)

  read_less : (place : Child) (o : Option ℕ) → kind_nodes (read_of kind.ReadXx o (low place)) ≤ expr_nodes place.0 + 1
  unfolding roll-ExprKind denote.Hole.Carrier.roll
  read_less place None = ordinary (ExprKind-F.Read kind.ReadXx (low place)) _ place.1
  read_less place (Some x) = ordinary (ExprKind-F.Local x) (expr_nodes place.0) (omega arith)

  write_less : (place value : Child) (o : Option ℕ) → kind_nodes (written_of kind.WriteXf o (low place) (low value)) ≤ expr_nodes place.0 + expr_nodes value.0 + 1
  unfolding roll-ExprKind denote.Hole.Carrier.roll
  write_less place value None = ordinary (ExprKind-F.Write kind.WriteXf (low place) (low value)) (expr_nodes place.0 + expr_nodes value.0) (omega (arith, place.1, value.1))
  write_less place value (Some x) = ordinary (ExprKind-F.Set x (low value)) (expr_nodes place.0 + expr_nodes value.0) (omega (arith, value.1))

  place_less : (place : Child) (o : Option ℕ) → expr_nodes (updated_of o (low place)) ≤ expr_nodes place.0
  unfolding roll-ExprKind denote.Hole.Carrier.roll
  place_less place None = place.1
  place_less place (Some x) = omega (arith, one_node place.0, fold-roll-Expr ℕ ℕ (λ k. nodes_in k + 1) (λ e. e.kind) (at (roll-ExprKind (ExprKind-F.Local x))), ordinary (ExprKind-F.Local x) 0 (omega arith))
    where
      at : ExprKind → Expr-F ExprKind Expr
      at k = record { ty = (updated_of (Some x) (low place)).ty; span = (low place).span; kind = k }

  reads_less : (k : Kind) (place : Child) → Less (ExprKind-F.Read k place)
  unfolding roll-ExprKind denote.Hole.Carrier.roll
  reads_less kind.ReadXx place = read_less place (lowering flags place.0).value
  reads_less k place = ordinary (ExprKind-F.Read k (low place)) _ place.1

  writes_less : (k : Kind) (place value : Child) → Less (ExprKind-F.Write k place value)
  unfolding roll-ExprKind denote.Hole.Carrier.roll
  writes_less kind.WriteXf place value = write_less place value (lowering flags place.0).value
  writes_less k place value = ordinary (ExprKind-F.Write k (low place) (low value)) (expr_nodes place.0 + expr_nodes value.0) (omega (arith, place.1, value.1))

  update_less : (o : BinOp) (post : Bool) (place value : Child) → Less (ExprKind-F.Update o post place value)
  unfolding roll-ExprKind denote.Hole.Carrier.roll
  update_less o post place value = ordinary (ExprKind-F.Update o post (updated_of (lowering flags place.0).value (low place)) (low value)) (expr_nodes place.0 + expr_nodes value.0)
      (omega (arith, place_less place (lowering flags place.0).value, value.1))

  auto_less : (x : ℕ) → Less (ExprKind-F.Auto x)
  unfolding roll-ExprKind denote.Hole.Carrier.roll
  auto_less x = ordinary (ExprKind-F.Auto x) 0 (omega arith)

  level : (y : ExprKind-F KindChild Child) → Less y
  level (ExprKind-F.Const v) = ordinary (ExprKind-F.Const v) 0 (omega arith)
  level (ExprKind-F.Local x) = ordinary (ExprKind-F.Local x) 0 (omega arith)
  level (ExprKind-F.Set x v) = ordinary (ExprKind-F.Set x (low v)) _ v.1
  level (ExprKind-F.Global g) = ordinary (ExprKind-F.Global g) 0 (omega arith)
  level (ExprKind-F.Auto x) = auto_less x
  level (ExprKind-F.Index base index size bound) = ordinary (ExprKind-F.Index (low base) (low index) size bound) (expr_nodes base.0 + expr_nodes index.0) (omega (arith, base.1, index.1))
  level (ExprKind-F.Member base off) = ordinary (ExprKind-F.Member (low base) off) _ base.1
  level (ExprKind-F.Read k place) = reads_less k place
  level (ExprKind-F.Write k place value) = writes_less k place value
  level (ExprKind-F.FetchAdd place value) = ordinary (ExprKind-F.FetchAdd (low place) (low value)) (expr_nodes place.0 + expr_nodes value.0) (omega (arith, place.1, value.1))
  level (ExprKind-F.Purge place) = ordinary (ExprKind-F.Purge (low place)) _ place.1
  level (ExprKind-F.Update o post place value) = update_less o post place value
  level (ExprKind-F.Unary o of) = ordinary (ExprKind-F.Unary o (low of)) _ of.1
  level (ExprKind-F.Binary o a b) = ordinary (ExprKind-F.Binary o (low a) (low b)) (expr_nodes a.0 + expr_nodes b.0) (omega (arith, a.1, b.1))
  level (ExprKind-F.And a b) = ordinary (ExprKind-F.And (low a) (low b)) (expr_nodes a.0 + expr_nodes b.0) (omega (arith, a.1, b.1))
  level (ExprKind-F.Or a b) = ordinary (ExprKind-F.Or (low a) (low b)) (expr_nodes a.0 + expr_nodes b.0) (omega (arith, a.1, b.1))
  level (ExprKind-F.Cond test a b) = ordinary (ExprKind-F.Cond (low test) (low a) (low b)) (expr_nodes test.0 + (expr_nodes a.0 + expr_nodes b.0)) (omega (arith, test.1, a.1, b.1))
  level (ExprKind-F.Comma a b) = ordinary (ExprKind-F.Comma (low a) (low b)) (expr_nodes a.0 + expr_nodes b.0) (omega (arith, a.1, b.1))
  level (ExprKind-F.Call f args) = ordinary (ExprKind-F.Call f (map (λ e. e.expr) (map (lowering flags) (map (λ e. e.0) args)))) _ (args_less args)
  level (ExprKind-F.Print f args) = ordinary (ExprKind-F.Print f (map (λ e. e.expr) (map (lowering flags) (map (λ e. e.0) args)))) _ (args_less args)

  expr_less : (e : Expr) → Kept e
  expr_less = ind-Expr KeptKind Kept
      (λ x y is. subst (λ z. KeptKind (roll-ExprKind z)) is
      (subst (λ (l : LoweredKind). kind_nodes l.kind ≤ kind_nodes (roll-ExprKind (layer y))) (sym (fold-roll-ExprKind LoweredKind Lowered (lower_step flags) with_kind (layer y)))
      (omega (arith, level y, fold-roll-ExprKind ℕ ℕ (λ k. nodes_in k + 1) (λ e. e.kind) (layer y)))))
      (λ x y is. subst (λ z. Kept (roll-Expr z)) is
      (let z : Expr-F ExprKind Expr = record { ty = y.ty; span = y.span; kind = y.kind.0 } in
      subst (λ (l : Lowered). expr_nodes l.expr ≤ expr_nodes (roll-Expr z)) (sym (fold-roll-Expr LoweredKind Lowered (lower_step flags) with_kind z))
      (omega (
        arith,
        y.kind.1,
        fold-roll-Expr ℕ ℕ (λ k. nodes_in k + 1) (λ e. e.kind) z,
        fold-roll-Expr ℕ ℕ (λ k. nodes_in k + 1) (λ e. e.kind) (record { ty = y.ty; span = y.span; kind = (lowering_kind flags y.kind.0).kind }),
      ))))

  abbrev f : Expr → Expr
  f = lowered flags

  lowered_less : (e : Expr) → expr_nodes (f e) ≤ expr_nodes e
  lowered_less e = expr_less e

  -- statements --------------------------------------------------------------------

  inits_less : (init : List (ℕ × Expr)) → inits_nodes (map (init_with f) init) ≤ inits_nodes init
  inits_less [] = omega arith
  inits_less (i ∷ is) = omega (arith, lowered_less i.1, inits_less is)

  captures_less : (cs : List Capture) → captures_nodes (map (capture_with f) cs) ≤ captures_nodes cs
  captures_less [] = omega arith
  captures_less (c ∷ cs) = omega (arith, lowered_less c.from, captures_less cs)

  maybe_less : (o : Option Expr) → made_nodes (option_map f o) ≤ made_nodes o
  maybe_less None = omega arith
  maybe_less (Some e) = lowered_less e

  exprs_less : (l : StmtKind-F ℕ ℕ ℕ) → parts_nodes (with_exprs f l) ≤ parts_nodes l
  exprs_less StmtKind-F.Empty = omega arith
  exprs_less (StmtKind-F.Declare x init) = inits_less init
  exprs_less (StmtKind-F.Eval e) = lowered_less e
  exprs_less (StmtKind-F.Block all) = omega arith
  exprs_less (StmtKind-F.If test then other) = omega (arith, lowered_less test)
  exprs_less (StmtKind-F.Loop id _ init test step body pragmas) = omega (arith, maybe_less test, maybe_less step)
  exprs_less (StmtKind-F.Switch value items) = omega (arith, lowered_less value)
  exprs_less (StmtKind-F.Return e) = maybe_less e
  exprs_less StmtKind-F.Break = omega arith
  exprs_less StmtKind-F.Continue = omega arith
  exprs_less (StmtKind-F.Future place captures body) = omega (arith, lowered_less place, captures_less captures)

  abbrev form_nodes : StmtKind → ℕ
  form_nodes = fold-StmtKind ℕ ℕ ℕ item_step (λ k. parts_nodes k + 1) (λ s. s.kind)

  abbrev item_nodes : Item → ℕ
  item_nodes = fold-Item ℕ ℕ ℕ item_step (λ k. parts_nodes k + 1) (λ s. s.kind)

  abbrev LessItem : Item → Type 0
  LessItem i = item_nodes (lowered_item flags i) ≤ item_nodes i

  abbrev LessKind : StmtKind → Type 0
  LessKind k = form_nodes (lowered_stmt_kind flags k) ≤ form_nodes k

  abbrev LessStmt : Stmt → Type 0
  LessStmt s = stmt_nodes (lowered_stmt flags s) ≤ stmt_nodes s

  abbrev StmtChild : Type 0
  StmtChild = (s : Stmt) × LessStmt s

  abbrev FormChild : Type 0
  FormChild = (k : StmtKind) × LessKind k

  abbrev ItemChild : Type 0
  ItemChild = (i : Item) × LessItem i

  abbrev form_layer : StmtKind-F ItemChild FormChild StmtChild → StmtKind-F Item StmtKind Stmt
  form_layer y = map-StmtKind ItemChild FormChild StmtChild Item StmtKind Stmt (λ i. i.0) (λ k. k.0) (λ s. s.0) y

  abbrev counted : StmtKind-F Item StmtKind Stmt → StmtKind-F ℕ ℕ ℕ
  counted l = map-StmtKind Item StmtKind Stmt ℕ ℕ ℕ item_nodes form_nodes stmt_nodes l

  abbrev low_layer : StmtKind-F ItemChild FormChild StmtChild → StmtKind-F Item StmtKind Stmt
  low_layer y = map-StmtKind Item StmtKind Stmt Item StmtKind Stmt (lowered_item flags) (lowered_stmt_kind flags) (lowered_stmt flags) (form_layer y)

  abbrev item_layer : Item-F ItemChild FormChild StmtChild → Item-F Item StmtKind Stmt
  item_layer y = map-Item ItemChild FormChild StmtChild Item StmtKind Stmt (λ i. i.0) (λ k. k.0) (λ s. s.0) y

  abbrev item_counted : Item-F Item StmtKind Stmt → Item-F ℕ ℕ ℕ
  item_counted l = map-Item Item StmtKind Stmt ℕ ℕ ℕ item_nodes form_nodes stmt_nodes l

  abbrev item_low_layer : Item-F ItemChild FormChild StmtChild → Item-F Item StmtKind Stmt
  item_low_layer y = map-Item Item StmtKind Stmt Item StmtKind Stmt (lowered_item flags) (lowered_stmt_kind flags) (lowered_stmt flags) (item_layer y)

  rows : (ss : List StmtChild) → total (map stmt_nodes (map (lowered_stmt flags) (map (λ s. s.0) ss))) ≤ total (map stmt_nodes (map (λ s. s.0) ss))
  rows [] = omega arith
  rows (s ∷ ss) = omega (arith, s.1, rows ss)

  item_rows : (is : List ItemChild) → total (map item_nodes (map (lowered_item flags) (map (λ i. i.0) is))) ≤ total (map item_nodes (map (λ i. i.0) is))
  item_rows [] = omega arith
  item_rows (i ∷ is) = omega (arith, i.1, item_rows is)

  item_level : (y : Item-F ItemChild FormChild StmtChild) → item_step (item_counted (item_low_layer y)) ≤ item_step (item_counted (item_layer y))
  item_level (Item-F.At n) = omega arith
  item_level Item-F.Other = omega arith
  item_level (Item-F.Do s) = s.1

  form_level : (y : StmtKind-F ItemChild FormChild StmtChild) → parts_nodes (counted (low_layer y)) ≤ parts_nodes (counted (form_layer y))
  form_level StmtKind-F.Empty = omega arith
  form_level (StmtKind-F.Declare x init) = omega arith
  form_level (StmtKind-F.Eval e) = omega arith
  form_level (StmtKind-F.Block all) = rows all
  form_level (StmtKind-F.If test then None) = omega (arith, then.1)
  form_level (StmtKind-F.If test then (Some other)) = omega (arith, then.1, other.1)
  form_level (StmtKind-F.Loop id _ init test step body pragmas) = omega (arith, rows init, body.1)
  form_level (StmtKind-F.Switch value items) = omega (arith, item_rows items)
  form_level (StmtKind-F.Return e) = omega arith
  form_level StmtKind-F.Break = omega arith
  form_level StmtKind-F.Continue = omega arith
  form_level (StmtKind-F.Future place captures body) = omega (arith, body.1)

  -- counting is the same before and behind new expressions
  counted_with : (l : StmtKind-F Item StmtKind Stmt) → parts_nodes (counted (with_exprs f l)) ≡ parts_nodes (with_exprs f (counted l))
  counted_with StmtKind-F.Empty = omega arith
  counted_with l = omega arith

  pub stmt_less : (s : Stmt) → LessStmt s
  stmt_less = ind-Stmt LessItem LessKind LessStmt
      (λ x y is. subst (λ z. LessItem (roll-Item z)) is
      (omega (
        arith,
        ap item_nodes (fold-roll-Item Item StmtKind Stmt roll-Item (lower_stmt_step flags) roll-Stmt (item_layer y)),
        fold-roll-Item ℕ ℕ ℕ item_step (λ k. parts_nodes k + 1) (λ s. s.kind) (item_low_layer y),
        item_level y,
        fold-roll-Item ℕ ℕ ℕ item_step (λ k. parts_nodes k + 1) (λ s. s.kind) (item_layer y),
      )))
      (λ x y is. subst (λ z. LessKind (roll-StmtKind z)) is
      (omega (
        arith,
        ap form_nodes (fold-roll-StmtKind Item StmtKind Stmt roll-Item (lower_stmt_step flags) roll-Stmt (form_layer y)),
        fold-roll-StmtKind ℕ ℕ ℕ item_step (λ k. parts_nodes k + 1) (λ s. s.kind) (with_exprs f (low_layer y)),
        counted_with (low_layer y),
        exprs_less (counted (low_layer y)),
        form_level y,
        fold-roll-StmtKind ℕ ℕ ℕ item_step (λ k. parts_nodes k + 1) (λ s. s.kind) (form_layer y),
      )))
      (λ x y is. subst (λ z. LessStmt (roll-Stmt z)) is
      (omega (
        arith,
        ap stmt_nodes (fold-roll-Stmt Item StmtKind Stmt roll-Item (lower_stmt_step flags) roll-Stmt (record { span = y.span; kind = y.kind.0 })),
        fold-roll-Stmt ℕ ℕ ℕ item_step (λ k. parts_nodes k + 1) (λ s. s.kind) (record { span = y.span; kind = lowered_stmt_kind flags y.kind.0 }),
        y.kind.1,
        fold-roll-Stmt ℕ ℕ ℕ item_step (λ k. parts_nodes k + 1) (λ s. s.kind) (record { span = y.span; kind = y.kind.0 }),
      )))
