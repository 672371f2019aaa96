-- A local whose address is never taken is a value of its thread: a read of the object is its value, an assignment sets
-- it, and a compound assignment updates the variable itself.
use Rattle.std.specs.Prelude.{ℕ, Bool, true, false, List, map, Option, Some, None, slice_get, option_map, unwrap_or}
use Rattle.xc_word.specs.declared.memory.Kind.{Kind}
use Rattle.xc_word.specs.declared.memory.Kind.TheVariants.{ReadXx, WriteXf}
use Rattle.xc_tree.specs.declared.expr.Expr.{Expr}
use Rattle.xc_tree.specs.declared.expr.ExprKind.{ExprKind, roll-ExprKind, Local, Set, Auto, Read, Write, Update}
use Rattle.xc_tree.specs.declared.expr.ExprKind.TheOpen.{ExprKind-F, Expr-F}
use Rattle.xc_tree.specs.declared.expr.ExprKind.TheFolds.{fold-Expr, map-ExprKind}
use Rattle.xc_tree.specs.declared.stmt.Stmt.{Stmt}
use Rattle.xc_tree.specs.declared.stmt.Capture.{Capture}
use Rattle.xc_tree.specs.declared.stmt.StmtKind.{StmtKind, roll-StmtKind}
use Rattle.xc_tree.specs.declared.stmt.Item.{Item}
use Rattle.xc_tree.specs.declared.stmt.Item.TheOpen.{StmtKind-F}
use Rattle.xc_tree.specs.declared.stmt.Item.TheViews.{roll-Stmt, roll-Item}
use Rattle.xc_tree.specs.declared.stmt.Item.TheFolds.{fold-Stmt}
use Rattle.xc_tree.specs.Types.{pointee}

-- expressions ------------------------------------------------------------

abbrev pub value_if : ℕ → Option Bool → Option ℕ
value_if x (Some false) = Some x
value_if x (Some true) = None
value_if x None = None

-- the local, where its address is never taken
abbrev pub value_of : List Bool → ℕ → Option ℕ
value_of addressed x = value_if x (slice_get addressed x)

-- a part made anew, and the local that it is the place of, where that local is a value
pub record Lowered : Type 0 where
  pub value : Option ℕ
  pub expr : Expr

-- the same of a form whose type is still to be given
pub record LoweredKind : Type 0 where
  pub value : Option ℕ
  pub kind : ExprKind

abbrev pub made : ExprKind → LoweredKind
made k = record { value = None; kind = k }

-- the form of the new parts
abbrev pub of_parts : ExprKind-F LoweredKind Lowered → ExprKind
of_parts l = roll-ExprKind (map-ExprKind LoweredKind Lowered ExprKind Expr (λ k. k.kind) (λ e. e.expr) l)

abbrev pub read_of : Kind → Option ℕ → Expr → ExprKind
read_of ReadXx (Some x) place = Local x
read_of k _ place = Read k place

abbrev pub written_of : Kind → Option ℕ → Expr → Expr → ExprKind
written_of WriteXf (Some x) place value = Set x value
written_of k _ place value = Write k place value

-- the variable itself, of the type of the object
abbrev pub updated_of : Option ℕ → Expr → Expr
updated_of None place = place
updated_of (Some x) place = record { ty = unwrap_or (pointee place.ty) place.ty; span = place.span; kind = Local x }

abbrev pub lower_step : List Bool → ExprKind-F LoweredKind Lowered → LoweredKind
lower_step addressed (ExprKind-F.Auto x) = record { value = value_of addressed x; kind = Auto x }
lower_step addressed (ExprKind-F.Read k place) = made (read_of k place.value place.expr)
lower_step addressed (ExprKind-F.Write k place value) = made (written_of k place.value place.expr value.expr)
lower_step addressed (ExprKind-F.Update op post place value) = made (Update op post (updated_of place.value place.expr) value.expr)
lower_step addressed l = made (of_parts l)

abbrev pub with_kind : Expr-F LoweredKind Lowered → Lowered
with_kind e = record { value = e.kind.value; expr = record { ty = e.ty; span = e.span; kind = e.kind.kind } }

abbrev pub lowering : List Bool → Expr → Lowered
lowering addressed = fold-Expr LoweredKind Lowered (lower_step addressed) with_kind

-- the expression, where `addressed` tells of each local whether its address is taken
abbrev pub lowered : List Bool → Expr → Expr
lowered addressed e = (lowering addressed e).expr

-- statements -------------------------------------------------------------

abbrev pub init_with : (Expr → Expr) → ℕ × Expr → ℕ × Expr
init_with f i = (i.0, f i.1)

abbrev pub capture_with : (Expr → Expr) → Capture → Capture
capture_with f c = record { from = f c.from; local = c.local }

-- a statement with other expressions
abbrev pub with_exprs : {A B C : Type 0} → (Expr → Expr) → StmtKind-F A B C → StmtKind-F A B C
with_exprs f (StmtKind-F.Declare x init) = StmtKind-F.Declare x (map (init_with f) init)
with_exprs f (StmtKind-F.Eval e) = StmtKind-F.Eval (f e)
with_exprs f (StmtKind-F.If test then other) = StmtKind-F.If (f test) then other
with_exprs f (StmtKind-F.Loop id keyword init test step body pragmas) = StmtKind-F.Loop id keyword init (option_map f test) (option_map f step) body pragmas
with_exprs f (StmtKind-F.Switch value items) = StmtKind-F.Switch (f value) items
with_exprs f (StmtKind-F.Return e) = StmtKind-F.Return (option_map f e)
with_exprs f (StmtKind-F.Future place captures body) = StmtKind-F.Future (f place) (map (capture_with f) captures) body
with_exprs f l = l

abbrev pub lower_stmt_step : List Bool → StmtKind-F Item StmtKind Stmt → StmtKind
lower_stmt_step addressed l = roll-StmtKind (with_exprs (lowered addressed) l)

-- the statement, where `addressed` tells of each local whether its address is taken
abbrev pub lowered_stmt : List Bool → Stmt → Stmt
lowered_stmt addressed = fold-Stmt Item StmtKind Stmt roll-Item (lower_stmt_step addressed) roll-Stmt
