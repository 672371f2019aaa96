-- Loops in normal form: one index, set before, tested against an unchanging bound, and stepped by a constant.
use Rattle.std.specs.Prelude.{ℕ, ◌-◌, ◌^◌, Bool, true, false, ◌&&◌, ◌||◌, ◌==◌, not, nat_le, cond, List, [], ◌∷◌, map, Option, Some, None, Ok, Err, Result, slice_get, option_map, option_and_then}
use Rattle.xc_tree.specs.declared.operator.BinOp.{BinOp}
use Rattle.xc_tree.specs.declared.operator.BinOp.TheVariants as op
use Rattle.xc_tree.specs.declared.expr.Expr.{Expr}
use Rattle.xc_tree.specs.declared.expr.ExprKind.{ExprKind, out-ExprKind}
use Rattle.xc_tree.specs.declared.expr.ExprKind.TheOpen.{ExprKind-F}
use Rattle.xc_tree.specs.declared.stmt.Stmt.{Stmt}
use Rattle.xc_tree.specs.declared.stmt.LoopForm.{LoopForm}
use Rattle.xc_tree.specs.declared.stmt.LoopForm.TheVariants as form
use Rattle.xc_tree.specs.declared.stmt.StmtKind.{StmtKind, out-StmtKind}
use Rattle.xc_tree.specs.declared.stmt.Item.{Item}
use Rattle.xc_tree.specs.declared.stmt.Item.TheOpen.{StmtKind-F}
use Rattle.xc_tree.specs.declared.stmt.Item.TheFolds.{fold-Stmt}
use Rattle.xc_tree.specs.declared.tree.Local.{Local}
use Rattle.xc_tree.specs.Lists.{some, passes}
use Rattle.xc_tree.specs.Walk.{of_item}
use Rattle.xc_form.specs.declared.effect.Effect.{Effect}
use Rattle.xc_tree.specs.declared.stmt.NotNormal.{NotNormal}
use Rattle.xc_tree.specs.declared.stmt.NotNormal.TheVariants as reason
use Rattle.xc_form.specs.declared.normal.Header.{Header}
use Rattle.xc_form.specs.declared.normal.Step.{Step}
use Rattle.xc_form.specs.Effects.{stmt_effects, local_of}
use Rattle.xc_tree_words.specs.Constants.{is_int, constant_of}
use Rattle.xc_tree_words.specs.Words.{is_uint}
use Rattle.xc_form.specs.Changes.{is_assigned, is_unchanging}

-- the first clause -------------------------------------------------------

abbrev pub set_at : Bool → ExprKind-F ExprKind Expr → Option ℕ
set_at int (ExprKind-F.Set x value) = cond int (Some x) None
set_at int _ = None

-- a local that has no address and is of type Int
abbrev pub is_int_variable : Option Local → Bool
is_int_variable l = passes (λ l. not l.addressed && is_int l.ty) l

abbrev pub clause_index : List Local → StmtKind-F Item StmtKind Stmt → Option ℕ
clause_index ls (StmtKind-F.Eval e) = set_at (is_int e.ty) (out-ExprKind e.kind)
clause_index ls (StmtKind-F.Declare x init) = cond (is_int_variable (slice_get ls x)) (Some x) None
clause_index ls _ = None

-- the index: the one variable that the first clause sets, and all that it is
abbrev pub index_of : List Local → List Stmt → Option ℕ
index_of ls (s ∷ []) = clause_index ls (out-StmtKind s.kind)
index_of ls _ = None

-- the test ---------------------------------------------------------------

abbrev pub is_order : BinOp → Bool
is_order op.Lt = true
is_order op.Le = true
is_order op.Gt = true
is_order op.Ge = true
is_order _ = false

abbrev pub is_local : ℕ → Expr → Bool
is_local x e = passes (λ y. x == y) (local_of e)

abbrev pub order_at : ℕ → ExprKind-F ExprKind Expr → Option BinOp
order_at x (ExprKind-F.Binary o a b) = cond (is_order o && is_local x a) (Some o) None
order_at x _ = None

-- the comparison of the index with a bound
abbrev pub order_of : ℕ → Option Expr → Option BinOp
order_of x None = None
order_of x (Some e) = order_at x (out-ExprKind e.kind)

abbrev pub bound_at : List Bool → List Effect → ExprKind-F ExprKind Expr → Bool
bound_at pures es (ExprKind-F.Binary o a b) = is_int b.ty && is_unchanging pures es b
bound_at pures es _ = false

-- the bound is of type Int and unchanging
abbrev pub bound_ok : List Bool → List Effect → Option Expr → Bool
bound_ok pures es None = false
bound_ok pures es (Some e) = bound_at pures es (out-ExprKind e.kind)

-- the step ---------------------------------------------------------------

abbrev pub is_step_size : ℕ → Bool
is_step_size n = nat_le 1 n && nat_le n (2 ^ 20)

-- a word as a step of 1 to 2^20 in size; a word of type Int may be negative
abbrev pub step_by : Bool → ℕ → Option Step
step_by uint n = cond (is_step_size n) (Some (record { down = false; size = n }))
    (cond (not uint && is_step_size (2 ^ 64 - n)) (Some (record { down = true; size = 2 ^ 64 - n })) None)

abbrev pub turned : Step → Step
turned s = record s { down = not s.down }

abbrev pub constant_step : Expr → Option Step
constant_step e = option_and_then (step_by (is_uint e.ty)) (constant_of e)

abbrev pub amount : BinOp → Expr → Option Step
amount op.Add e = constant_step e
amount op.Sub e = option_map turned (constant_step e)
amount _ e = None

abbrev pub sum_at : ℕ → ExprKind-F ExprKind Expr → Option Step
sum_at x (ExprKind-F.Binary o a b) = cond (is_local x a) (amount o b) None
sum_at x _ = None

abbrev pub sum_step : ℕ → Expr → Option Step
sum_step x e = sum_at x (out-ExprKind e.kind)

-- `i++`, `++i`, `i += c` and the like; `i = i + c` and `i = i - c`
abbrev pub step_at : ℕ → ExprKind-F ExprKind Expr → Option Step
step_at x (ExprKind-F.Update o post place value) = cond (is_local x place) (amount o value) None
step_at x (ExprKind-F.Set y value) = cond (x == y) (sum_step x value) None
step_at x _ = None

abbrev pub any_step : ℕ → Expr → Option Step
any_step x e = step_at x (out-ExprKind e.kind)

abbrev pub rises : BinOp → Bool
rises op.Lt = true
rises op.Le = true
rises _ = false

-- upward below a bound, downward above one
abbrev pub toward : BinOp → Step → Option Step
toward o s = cond (rises o) (cond s.down None (Some s)) (cond s.down (Some s) None)

abbrev pub step_of : ℕ → BinOp → Option Expr → Option Step
step_of x o None = None
step_of x o (Some e) = option_and_then (toward o) (any_step x e)

-- the body ---------------------------------------------------------------

-- a label, and what else leaves no loop
abbrev pub stays : Bool → Bool
stays here = false

-- whether a statement leaves a loop around it; `here` tells whether its `break` leaves that loop. A `break` that leaves a
-- `switch` is no `break` of a loop
abbrev pub exits_step : StmtKind-F (Bool → Bool) (Bool → Bool) (Bool → Bool) → Bool → Bool
exits_step (StmtKind-F.Block all) here = some (map (λ s. s here) all)
exits_step (StmtKind-F.If test then None) here = then here
exits_step (StmtKind-F.If test then (Some other)) here = then here || other here
exits_step (StmtKind-F.Loop id _ init test step body pragmas) here = body false
exits_step (StmtKind-F.Switch value items) here = some (map (λ s. s false) items)
exits_step (StmtKind-F.Return e) here = true
exits_step StmtKind-F.Break here = here
exits_step _ here = stays here

-- what leaves the body of a `future` statement leaves no loop
abbrev pub exits : Stmt → Bool → Bool
exits = fold-Stmt (Bool → Bool) (Bool → Bool) (Bool → Bool) (of_item stays) exits_step (λ s. s.kind)

-- normal form ------------------------------------------------------------

abbrev pub with_body : ℕ → BinOp → Step → Stmt → Result Header NotNormal
with_body x o st body = cond (is_assigned (stmt_effects body) x) (Err reason.Assigned)
    (cond (exits body true) (Err reason.Exit) (Ok (record { index = x; order = o; step = st })))

abbrev pub with_step : ℕ → BinOp → Option Step → Stmt → Result Header NotNormal
with_step x o None body = Err reason.Step
with_step x o (Some st) body = with_body x o st body

abbrev pub with_order : List Bool → List Effect → ℕ → Option BinOp → Option Expr → Option Expr → Stmt → Result Header NotNormal
with_order pures es x None test step body = Err reason.Test
with_order pures es x (Some o) test step body = cond (bound_ok pures es test) (with_step x o (step_of x o step) body) (Err reason.Bound)

abbrev pub with_index : List Bool → List Effect → Option ℕ → Option Expr → Option Expr → Stmt → Result Header NotNormal
with_index pures es None test step body = Err reason.Index
with_index pures es (Some x) test step body = with_order pures es x (order_of x test) test step body

abbrev pub by_form : List Bool → List Effect → List Local → LoopForm → List Stmt → Option Expr → Option Expr → Stmt → Result Header NotNormal
by_form pures es ls form.While init test step body = Err reason.While
by_form pures es ls form.Do init test step body = Err reason.Do
by_form pures es ls form.For init test step body = with_index pures es (index_of ls init) test step body

abbrev pub form_at : List Bool → List Effect → List Local → StmtKind-F Item StmtKind Stmt → Result Header NotNormal
form_at pures es ls (StmtKind-F.Loop id f init test step body pragmas) = by_form pures es ls f init test step body
form_at pures es ls _ = Err reason.While

-- the header of a loop in normal form, or the first reason why it is not; `pures` tells which functions are pure
unfoldable pub normal_form : List Bool → List Local → Stmt → Result Header NotNormal
normal_form pures ls s = form_at pures (stmt_effects s) ls (out-StmtKind s.kind)

abbrev pub loop_at : StmtKind-F Item StmtKind Stmt → Bool
loop_at (StmtKind-F.Loop id _ init test step body pragmas) = true
loop_at _ = false

abbrev pub is_loop : Stmt → Bool
is_loop s = loop_at (out-StmtKind s.kind)
