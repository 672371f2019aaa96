-- What is told of a part beside it stands in the tree.
use Rattle.std.proofs.Common.{◌≡◌, List, [], ◌∷◌, map, refl, sym, ap, ◌∙◌, subst}
use Rattle.std.proofs.Common.{rules, ℕ, Bool, ◌++◌}
use Rattle.std.specs.Prelude.{◌||◌, Option, not, false}
use Rattle.xc_tree.specs.declared.stmt.Capture.{Capture}
use Rattle.xc_tree.specs.declared.stmt.LoopForm.{LoopForm}
use Rattle.xc_tree.specs.declared.pragmas.Pragmas.{Pragmas}
use Rattle.xc_tree.specs.declared.stmt.StmtKind.{out-StmtKind, Switch, Future, Loop}
use Rattle.xc_tree.specs.declared.stmt.Item.TheFolds as stmt_folds
use Rattle.xc_tree.specs.declared.stmt.Item.TheViews as stmt_views
use Rattle.xc_form.specs.Normal.{normal_form}
use Rattle.xc_form.specs.declared.effect.Effect.TheVariants as effect
use Rattle.xc_form.specs.Changes.{unsettles, leads_to_plain}
use Rattle.xc_form_stable.specs.declared.breach.Breach.{Breach}
use Rattle.xc_form_stable.specs.declared.breach.Rule.TheVariants as rule
use Rattle.xc_form_stable.specs.InnerStable.{address_of, exprs_breaches, stmts_breaches, items_breaches, entry_of}
use Rattle.xc_word.specs.declared.memory.Kind.{Kind}
use Rattle.xc_tree.specs.declared.operator.BinOp.{BinOp}
use Rattle.xc_tree.specs.declared.ty.Ty.{Int}
use Rattle.xc_tree.specs.declared.expr.ExprKind.{out-ExprKind, Index, Read, Write, FetchAdd, Purge, Update, Binary, And, Or, Comma, Cond, Call, Print}
use Rattle.xc_tree.specs.declared.expr.ExprKind.TheFolds as folds
use Rattle.xc_tree.specs.declared.expr.ExprKind.TheViews as views
use Rattle.xc_tree.specs.declared.expr.Expr.{Expr, roll-Expr}
use Rattle.xc_tree.specs.declared.expr.ExprKind.{ExprKind, roll-ExprKind}
use Rattle.xc_tree.specs.declared.expr.ExprKind.TheOpen.{ExprKind-F}
use Rattle.xc_tree.specs.declared.expr.ExprKind.TheFolds.{fold-Expr, fold-ExprKind, fold-roll-ExprKind, fold-roll-Expr, ind-Expr, map-ExprKind}
use Rattle.std.specs.Prelude.{Some, None}
use Rattle.xc_tree.specs.declared.stmt.Stmt.{Stmt, roll-Stmt}
use Rattle.xc_tree.specs.declared.stmt.StmtKind.{StmtKind, roll-StmtKind}
use Rattle.xc_tree.specs.declared.stmt.Item.{Item, roll-Item}
use Rattle.xc_tree.specs.declared.stmt.Item.TheOpen.{StmtKind-F, Item-F}
use Rattle.xc_tree.specs.declared.stmt.Item.TheFolds.{fold-Stmt, fold-StmtKind, fold-Item, fold-roll-StmtKind, fold-roll-Stmt, fold-roll-Item, ind-Stmt, map-StmtKind, map-Item}
use Rattle.xc_form_stable.specs.Stable.{Entry, Shape, Piece, entry_at, shape_step, piece_at, piece_of, clause_of, captures_breaches, stmt_breaches, looped, has_threads, is_late, breach_of, loop_rule, bound_breach, lower_of, in_order, test_breaches, maybe_breaches, with_index}
use Rattle.xc_form_stable.specs.Addresses.{Frame, breach, breach_if, is_plain_read, is_plain_write, expr_breaches, is_kept_at, is_variable, update_breaches, Form, Part, form_step, part_at, part_of}

module _ (fr : Frame) where
  abbrev form_of : ExprKind → Form
  form_of = fold-ExprKind Form Part (form_step fr) part_at

  abbrev KeptKind : ExprKind → Type 0
  KeptKind k = (form_of k).kind ≡ k

  abbrev Kept : Expr → Type 0
  Kept e = (part_of fr e).expr ≡ e

  abbrev Child : Type 0
  Child = (e : Expr) × Kept e

  abbrev KindChild : Type 0
  KindChild = (k : ExprKind) × KeptKind k

  abbrev layer : ExprKind-F KindChild Child → ExprKind-F ExprKind Expr
  layer y = map-ExprKind KindChild Child ExprKind Expr (λ k. k.0) (λ e. e.0) y

  abbrev anew : ExprKind-F ExprKind Expr → ExprKind-F ExprKind Expr
  anew l = map-ExprKind Form Part ExprKind Expr (λ k. k.kind) (λ e. e.expr) (map-ExprKind ExprKind Expr Form Part form_of (part_of fr) l)

  args_same : (args : List Child) → map (λ e. e.expr) (map (part_of fr) (map (λ e. e.0) args)) ≡ map (λ e. e.0) args
  args_same [] = refl
  args_same (e ∷ args) = ap (λ a. a ∷ map (λ e. e.expr) (map (part_of fr) (map (λ e. e.0) args))) e.1 ∙ ap (λ rest. e.0 ∷ rest) (args_same args)

  two : {A B C : Type 0} (f : A → B → C) {a c : A} {b d : B} → a ≡ c → b ≡ d → f a b ≡ f c d
  two f {a} {c} {b} {d} p q = ap (λ x. f x b) p ∙ ap (f c) q

  level : (y : ExprKind-F KindChild Child) → anew (layer y) ≡ layer y
  level (ExprKind-F.Const n) = refl
  level (ExprKind-F.Local x) = refl
  level (ExprKind-F.Set x value) = ap (ExprKind-F.Set x) value.1
  level (ExprKind-F.Global g) = refl
  level (ExprKind-F.Auto x) = refl
  level (ExprKind-F.Index base index size bound) = two (λ a b. ExprKind-F.Index a b size bound) base.1 index.1
  level (ExprKind-F.Member base off) = ap (λ a. ExprKind-F.Member a off) base.1
  level (ExprKind-F.Read k place) = ap (ExprKind-F.Read k) place.1
  level (ExprKind-F.Write k place value) = two (ExprKind-F.Write k) place.1 value.1
  level (ExprKind-F.FetchAdd place value) = two ExprKind-F.FetchAdd place.1 value.1
  level (ExprKind-F.Purge place) = ap ExprKind-F.Purge place.1
  level (ExprKind-F.Update o post place value) = two (ExprKind-F.Update o post) place.1 value.1
  level (ExprKind-F.Unary o of) = ap (ExprKind-F.Unary o) of.1
  level (ExprKind-F.Binary o a b) = two (ExprKind-F.Binary o) a.1 b.1
  level (ExprKind-F.And a b) = two ExprKind-F.And a.1 b.1
  level (ExprKind-F.Or a b) = two ExprKind-F.Or a.1 b.1
  level (ExprKind-F.Cond test a b) = ap (λ x. ExprKind-F.Cond x (part_of fr a.0).expr (part_of fr b.0).expr) test.1 ∙ two (ExprKind-F.Cond test.0) a.1 b.1
  level (ExprKind-F.Comma a b) = two ExprKind-F.Comma a.1 b.1
  level (ExprKind-F.Call f args) = ap (ExprKind-F.Call f) (args_same args)
  level (ExprKind-F.Print f args) = ap (ExprKind-F.Print f) (args_same args)

  -- a part is what it is told of
  pub expr_stands : (e : Expr) → (part_of fr e).expr ≡ e
  expr_stands = ind-Expr KeptKind Kept
      (λ x y is. subst (λ z. KeptKind (roll-ExprKind z)) is
      (ap (λ f. f.kind) (fold-roll-ExprKind Form Part (form_step fr) part_at (layer y)) ∙ ap roll-ExprKind (level y)))
      (λ x y is. subst (λ z. Kept (roll-Expr z)) is
      (ap (λ p. p.expr) (fold-roll-Expr Form Part (form_step fr) part_at (record { ty = y.ty; span = y.span; kind = y.kind.0 }))
      ∙ ap (λ k. record { ty = y.ty; span = y.span; kind = k }) y.kind.1))

  pub form_stands : (k : ExprKind) → (fold-ExprKind Form Part (form_step fr) part_at k).kind ≡ k
  form_stands k = sym (ap (λ p. p.expr.kind) (fold-roll-Expr Form Part (form_step fr) part_at (record { ty = Int; span = record { start = 0; end = 0 }; kind = k })))
      ∙ ap (λ e. e.kind) (expr_stands (record { ty = Int; span = record { start = 0; end = 0 }; kind = k }))

-- ---- statements

module _ (fr : Frame) where
  abbrev shape_of : StmtKind → Shape
  shape_of = fold-StmtKind Entry Shape Piece entry_at (shape_step fr) piece_at

  abbrev KeptItem : Item → Type 0
  KeptItem i = ((entry_of fr) i).item ≡ i

  abbrev KeptStmtKind : StmtKind → Type 0
  KeptStmtKind k = (shape_of k).kind ≡ k

  abbrev KeptStmt : Stmt → Type 0
  KeptStmt s = (piece_of fr s).stmt ≡ s

  abbrev StmtChild : Type 0
  StmtChild = (s : Stmt) × KeptStmt s

  abbrev StmtKindChild : Type 0
  StmtKindChild = (k : StmtKind) × KeptStmtKind k

  abbrev ItemChild : Type 0
  ItemChild = (i : Item) × KeptItem i

  abbrev stmt_layer : StmtKind-F ItemChild StmtKindChild StmtChild → StmtKind-F Item StmtKind Stmt
  stmt_layer y = map-StmtKind ItemChild StmtKindChild StmtChild Item StmtKind Stmt (λ i. i.0) (λ k. k.0) (λ s. s.0) y

  abbrev stmt_anew : StmtKind-F Item StmtKind Stmt → StmtKind-F Item StmtKind Stmt
  stmt_anew l = map-StmtKind Entry Shape Piece Item StmtKind Stmt (λ i. i.item) (λ k. k.kind) (λ p. p.stmt)
      (map-StmtKind Item StmtKind Stmt Entry Shape Piece (entry_of fr) shape_of (piece_of fr) l)

  stmts_same : (ss : List StmtChild) → map (λ p. p.stmt) (map (piece_of fr) (map (λ s. s.0) ss)) ≡ map (λ s. s.0) ss
  stmts_same [] = refl
  stmts_same (s ∷ ss) = ap (λ a. a ∷ map (λ p. p.stmt) (map (piece_of fr) (map (λ s. s.0) ss))) s.1 ∙ ap (λ rest. s.0 ∷ rest) (stmts_same ss)

  items_same : (is : List ItemChild) → map (λ i. i.item) (map (entry_of fr) (map (λ i. i.0) is)) ≡ map (λ i. i.0) is
  items_same [] = refl
  items_same (i ∷ is) = ap (λ a. a ∷ map (λ i. i.item) (map (entry_of fr) (map (λ i. i.0) is))) i.1 ∙ ap (λ rest. i.0 ∷ rest) (items_same is)

  stmt_level : (y : StmtKind-F ItemChild StmtKindChild StmtChild) → stmt_anew (stmt_layer y) ≡ stmt_layer y
  stmt_level StmtKind-F.Empty = refl
  stmt_level (StmtKind-F.Declare x init) = refl
  stmt_level (StmtKind-F.Eval e) = refl
  stmt_level (StmtKind-F.Block all) = ap StmtKind-F.Block (stmts_same all)
  stmt_level (StmtKind-F.If test then None) = ap (λ a. StmtKind-F.If test a None) then.1
  stmt_level (StmtKind-F.If test then (Some other)) = two fr (λ a b. StmtKind-F.If test a (Some b)) then.1 other.1
  stmt_level (StmtKind-F.Loop id f init test step body pragmas) = two fr (λ a b. StmtKind-F.Loop id f a test step b pragmas) (stmts_same init) body.1
  stmt_level (StmtKind-F.Switch value items) = ap (StmtKind-F.Switch value) (items_same items)
  stmt_level (StmtKind-F.Return e) = refl
  stmt_level StmtKind-F.Break = refl
  stmt_level StmtKind-F.Continue = refl
  stmt_level (StmtKind-F.Future place captures body) = ap (StmtKind-F.Future place captures) body.1

  abbrev item_layer : Item-F ItemChild StmtKindChild StmtChild → Item-F Item StmtKind Stmt
  item_layer y = map-Item ItemChild StmtKindChild StmtChild Item StmtKind Stmt (λ i. i.0) (λ k. k.0) (λ s. s.0) y

  item_level : (y : Item-F ItemChild StmtKindChild StmtChild) → map-Item Entry Shape Piece Item StmtKind Stmt (λ i. i.item) (λ k. k.kind) (λ p. p.stmt)
      (map-Item Item StmtKind Stmt Entry Shape Piece (entry_of fr) shape_of (piece_of fr) (item_layer y)) ≡ item_layer y
  item_level (Item-F.At w) = refl
  item_level Item-F.Other = refl
  item_level (Item-F.Do s) = ap Item-F.Do s.1

  -- a piece is what it is told of
  pub stmt_stands : (s : Stmt) → (piece_of fr s).stmt ≡ s
  stmt_stands = ind-Stmt KeptItem KeptStmtKind KeptStmt
      (λ x y is. subst (λ z. KeptItem (roll-Item z)) is
      (ap (λ e. e.item) (fold-roll-Item Entry Shape Piece entry_at (shape_step fr) piece_at (item_layer y)) ∙ ap roll-Item (item_level y)))
      (λ x y is. subst (λ z. KeptStmtKind (roll-StmtKind z)) is
      (ap (λ k. k.kind) (fold-roll-StmtKind Entry Shape Piece entry_at (shape_step fr) piece_at (stmt_layer y)) ∙ ap roll-StmtKind (stmt_level y)))
      (λ x y is. subst (λ z. KeptStmt (roll-Stmt z)) is
      (ap (λ p. p.stmt) (fold-roll-Stmt Entry Shape Piece entry_at (shape_step fr) piece_at (record { span = y.span; kind = y.kind.0 }))
      ∙ ap (λ k. record { span = y.span; kind = k }) y.kind.1))

  pub stmts_stand : (ss : List Stmt) → map (λ p. p.stmt) (map (piece_of fr) ss) ≡ ss
  stmts_stand [] = refl
  stmts_stand (s ∷ ss) = ap (λ a. a ∷ map (λ p. p.stmt) (map (piece_of fr) ss)) (stmt_stands s) ∙ ap (λ rest. s ∷ rest) (stmts_stand ss)

  pub shape_stands : (k : StmtKind) → (fold-StmtKind Entry Shape Piece entry_at (shape_step fr) piece_at k).kind ≡ k
  shape_stands k = sym (ap (λ p. p.stmt.kind) (fold-roll-Stmt Entry Shape Piece entry_at (shape_step fr) piece_at (record { span = record { start = 0; end = 0 }; kind = k })))
      ∙ ap (λ s. s.kind) (stmt_stands (record { span = record { start = 0; end = 0 }; kind = k }))

  pub clause_stands : (ss : List Stmt) → clause_of (map (piece_of fr) ss) ≡ ss
  unfolding clause_of
  clause_stands ss = stmts_stand ss

-- ---- the cases that ask what a part stands for

module _ (fr : Frame) where
  opened : (e : Expr) (l : ExprKind-F ExprKind Expr) → out-ExprKind e.kind ≡ l →
      part_of fr e ≡ part_at (record { ty = e.ty; span = e.span; kind = form_step fr (map-ExprKind ExprKind Expr Form Part (fold-ExprKind Form Part (form_step fr) part_at) (part_of fr) l) })
  opened e l is = search (rules, folds.the_lemmas, views.the_lemmas)

  pub read_steady : (e : Expr) (k : Kind) (place : Expr) (all : Bool) (over : List ℕ) → e.kind ≡ Read k place →
      (part_of fr e).steady all over ≡ all || is_kept_at fr.effects place
  read_steady e k place all over is = ap (λ p. p.steady all over) (opened e (ExprKind-F.Read k place) (ap out-ExprKind is ∙ search (rules, views.the_lemmas))) ∙ ap (λ p. all || is_kept_at fr.effects p) (expr_stands fr place)

-- ---- the rules that an expression breaks, by its form

module _ (fr : Frame) (over : List ℕ) where
  abbrev at : Expr → List Breach
  at e = expr_breaches fr over e

  pub in_index : (e : Expr) (base index : Expr) (size : ℕ) (bound : Option ℕ) → e.kind ≡ Index base index size bound →
      at e ≡ at base ++ at index
  in_index e base index size bound is = ap (λ p. p.breaches over) (opened fr e (ExprKind-F.Index base index size bound) (ap out-ExprKind is ∙ search (rules, views.the_lemmas)))

  pub in_read : (e : Expr) (k : Kind) (place : Expr) → e.kind ≡ Read k place →
      at e ≡ breach_if (not (is_plain_read k place.ty)) rule.Sync e.span ++ (at place ++ address_of fr over place e.span)
  in_read e k place is = ap (λ p. p.breaches over) (opened fr e (ExprKind-F.Read k place) (ap out-ExprKind is ∙ search (rules, views.the_lemmas)))
      ∙ ap (λ p. breach_if (not (is_plain_read k p.ty)) rule.Sync e.span ++ (at place ++ address_of fr over place e.span)) (expr_stands fr place)

  pub in_write : (e : Expr) (k : Kind) (place value : Expr) → e.kind ≡ Write k place value →
      at e ≡ breach_if (not (is_plain_write k place.ty e.ty)) rule.Sync e.span ++ (at place ++ (at value ++ address_of fr over place e.span))
  in_write e k place value is = ap (λ p. p.breaches over) (opened fr e (ExprKind-F.Write k place value) (ap out-ExprKind is ∙ search (rules, views.the_lemmas)))
      ∙ ap (λ p. breach_if (not (is_plain_write k p.ty e.ty)) rule.Sync e.span ++ (at place ++ (at value ++ address_of fr over place e.span))) (expr_stands fr place)

  pub in_fetchAdd : (e : Expr) (place value : Expr) → e.kind ≡ FetchAdd place value →
      at e ≡ breach rule.Sync e.span ∷ (at place ++ at value)
  in_fetchAdd e place value is = ap (λ p. p.breaches over) (opened fr e (ExprKind-F.FetchAdd place value) (ap out-ExprKind is ∙ search (rules, views.the_lemmas)))

  pub in_purge : (e : Expr) (place : Expr) → e.kind ≡ Purge place →
      at e ≡ breach rule.Sync e.span ∷ at place
  in_purge e place is = ap (λ p. p.breaches over) (opened fr e (ExprKind-F.Purge place) (ap out-ExprKind is ∙ search (rules, views.the_lemmas)))

  pub in_update : (e : Expr) (o : BinOp) (post : Bool) (place value : Expr) → e.kind ≡ Update o post place value →
      at e ≡ update_breaches fr (is_variable place) (part_of fr place) (part_of fr value) e.span over
  in_update e o post place value is = ap (λ p. p.breaches over) (opened fr e (ExprKind-F.Update o post place value) (ap out-ExprKind is ∙ search (rules, views.the_lemmas)))
      ∙ ap (λ p. update_breaches fr (is_variable p) (part_of fr place) (part_of fr value) e.span over) (expr_stands fr place)

  pub in_binary : (e : Expr) (o : BinOp) (a b : Expr) → e.kind ≡ Binary o a b →
      at e ≡ at a ++ at b
  in_binary e o a b is = ap (λ p. p.breaches over) (opened fr e (ExprKind-F.Binary o a b) (ap out-ExprKind is ∙ search (rules, views.the_lemmas)))

  pub in_and : (e : Expr) (a b : Expr) → e.kind ≡ And a b →
      at e ≡ at a ++ at b
  in_and e a b is = ap (λ p. p.breaches over) (opened fr e (ExprKind-F.And a b) (ap out-ExprKind is ∙ search (rules, views.the_lemmas)))

  pub in_or : (e : Expr) (a b : Expr) → e.kind ≡ Or a b →
      at e ≡ at a ++ at b
  in_or e a b is = ap (λ p. p.breaches over) (opened fr e (ExprKind-F.Or a b) (ap out-ExprKind is ∙ search (rules, views.the_lemmas)))

  pub in_comma : (e : Expr) (a b : Expr) → e.kind ≡ Comma a b →
      at e ≡ at a ++ at b
  in_comma e a b is = ap (λ p. p.breaches over) (opened fr e (ExprKind-F.Comma a b) (ap out-ExprKind is ∙ search (rules, views.the_lemmas)))

  pub in_cond : (e : Expr) (test then other : Expr) → e.kind ≡ Cond test then other →
      at e ≡ at test ++ (at then ++ at other)
  in_cond e test then other is = ap (λ p. p.breaches over) (opened fr e (ExprKind-F.Cond test then other) (ap out-ExprKind is ∙ search (rules, views.the_lemmas)))

  pub in_call : (e : Expr) (f : ℕ) (args : List Expr) → e.kind ≡ Call f args →
      at e ≡ breach_if (unsettles fr.pures (effect.Call f)) rule.Call e.span ++ exprs_breaches fr over args
  in_call e f args is = ap (λ p. p.breaches over) (opened fr e (ExprKind-F.Call f args) (ap out-ExprKind is ∙ search (rules, views.the_lemmas)))

  pub in_print : (e : Expr) (f : ℕ) (args : List Expr) → e.kind ≡ Print f args →
      at e ≡ breach rule.Call e.span ∷ exprs_breaches fr over args
  in_print e f args is = ap (λ p. p.breaches over) (opened fr e (ExprKind-F.Print f args) (ap out-ExprKind is ∙ search (rules, views.the_lemmas)))

  pub in_cell_update : (e : Expr) (o : BinOp) (post : Bool) (place value : Expr) → e.kind ≡ Update o post place value → is_variable place ≡ false →
      at e ≡ breach_if (not (leads_to_plain place.ty)) rule.Sync e.span ++ (at place ++ (address_of fr over place e.span ++ at value))
  in_cell_update e o post place value is cell = in_update e o post place value is
      ∙ (ap (λ b. update_breaches fr b (part_of fr place) (part_of fr value) e.span over) cell
      ∙ ap (λ p. breach_if (not (leads_to_plain p.ty)) rule.Sync e.span ++ (at place ++ (address_of fr over place e.span ++ at value))) (expr_stands fr place))

-- ---- the rules that a statement breaks, by its form

module _ (fr : Frame) (over : List ℕ) where
  opened_stmt : (s : Stmt) (l : StmtKind-F Item StmtKind Stmt) → out-StmtKind s.kind ≡ l →
      piece_of fr s ≡ piece_at (record { span = s.span; kind = shape_step fr (map-StmtKind Item StmtKind Stmt Entry Shape Piece (entry_of fr) (shape_of fr) (piece_of fr) l) })
  opened_stmt s l is = search (rules, stmt_folds.the_lemmas, stmt_views.the_lemmas)

  pub in_switch : (s : Stmt) (value : Expr) (items : List Item) → s.kind ≡ Switch value items →
      stmt_breaches fr over s ≡ expr_breaches fr over value ++ items_breaches fr over items
  in_switch s value items is = ap (λ p. p.breaches over) (opened_stmt s (StmtKind-F.Switch value items) (ap out-StmtKind is ∙ search (rules, stmt_views.the_lemmas)))

  pub in_future : (s : Stmt) (place : Expr) (captures : List Capture) (body : Stmt) → s.kind ≡ Future place captures body →
      stmt_breaches fr over s ≡ breach rule.Sync s.span ∷ (expr_breaches fr over place ++ (captures_breaches fr over captures ++ stmt_breaches fr over body))
  in_future s place captures body is = ap (λ p. p.breaches over) (opened_stmt s (StmtKind-F.Future place captures body) (ap out-StmtKind is ∙ search (rules, stmt_views.the_lemmas)))

  pub in_loop : (s : Stmt) (id : ℕ) (f : LoopForm) (init : List Stmt) (test step : Option Expr) (body : Stmt) (pragmas : Pragmas) → s.kind ≡ Loop id f init test step body pragmas →
      stmt_breaches fr over s ≡ looped fr f s.span (map (piece_of fr) init) test step (piece_of fr body) (normal_form fr.pures fr.locals s) (has_threads fr s) init over
  in_loop s id f init test step body pragmas is =
      let shown = opened_stmt s (StmtKind-F.Loop id f init test step body pragmas) (ap out-StmtKind is ∙ search (rules, stmt_views.the_lemmas)) in
      ap (λ p. p.breaches over) shown
      ∙ (ap (λ z. looped fr f s.span (map (piece_of fr) init) test step (piece_of fr body) (normal_form fr.pures fr.locals z) (has_threads fr z) (clause_of (map (piece_of fr) init)) over)
      (sym (ap (λ p. p.stmt) shown) ∙ stmt_stands fr s)
      ∙ ap (λ c. looped fr f s.span (map (piece_of fr) init) test step (piece_of fr body) (normal_form fr.pures fr.locals s) (has_threads fr s) c over) (clause_stands fr init))

  -- by whether the test stands behind the body
  pub in_loop_by : (late : Bool) (s : Stmt) (id : ℕ) (f : LoopForm) (init : List Stmt) (test step : Option Expr) (body : Stmt) (pragmas : Pragmas) → s.kind ≡ Loop id f init test step body pragmas → is_late f ≡ late →
      stmt_breaches fr over s ≡ breach_of (loop_rule fr (has_threads fr s) (normal_form fr.pures fr.locals s) init test) s.span
      ++ (stmts_breaches fr over init
      ++ (bound_breach fr over (lower_of init)
      ++ in_order late (test_breaches fr over test) (maybe_breaches fr over step) (stmt_breaches fr (with_index over (normal_form fr.pures fr.locals s)) body)))
  in_loop_by late s id f init test step body pragmas is at = in_loop s id f init test step body pragmas is
      ∙ ap (λ b. breach_of (loop_rule fr (has_threads fr s) (normal_form fr.pures fr.locals s) init test) s.span
      ++ (stmts_breaches fr over init
      ++ (bound_breach fr over (lower_of init)
      ++ in_order b (test_breaches fr over test) (maybe_breaches fr over step) (stmt_breaches fr (with_index over (normal_form fr.pures fr.locals s)) body)))) at
