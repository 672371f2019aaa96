-- Small loops, each with its form: normal, or the first reason why it is not.
use Rattle.std.proofs.Common.{rules, ◌≡◌, ℕ, List, [], ◌∷◌, Bool, true, false}
use Rattle.std.specs.Prelude.{Option, Some, None, Ok, Err, Result}
use Rattle.xc_word.specs.declared.memory.Kind.TheVariants.{ReadXx, WriteXf}
use Rattle.xc_tree.specs.declared.operator.BinOp.TheVariants as op
use Rattle.xc_tree.specs.declared.ty.Ty.{Ty, Int, Uint, Ptr, Future}
use Rattle.xc_tree.specs.declared.expr.Expr.{Expr}
use Rattle.xc_tree.specs.declared.expr.ExprKind.{ExprKind, Const, Local as Variable, Set, Global, Index, Read, Write, Update, Binary, Call}
use Rattle.xc_tree.specs.declared.pragmas.Schedule.TheVariants.{Block as ByBlocks}
use Rattle.xc_tree.specs.declared.pragmas.Pragmas.{Pragmas}
use Rattle.xc_tree.specs.declared.stmt.Stmt.{Stmt}
use Rattle.xc_tree.specs.declared.stmt.Item.{At, Do}
use Rattle.xc_tree.specs.declared.stmt.StmtKind.{StmtKind, Empty, Declare, Eval, Block, If, Loop, Switch, Return, Break}
use Rattle.xc_tree.specs.declared.stmt.StmtKind as stmt
use Rattle.xc_tree.specs.declared.stmt.LoopForm.{LoopForm}
use Rattle.xc_tree.specs.declared.stmt.LoopForm.TheVariants as form
use Rattle.xc_tree.specs.declared.tree.Local.{Local}
use Rattle.xc_tree.specs.declared.expr.ExprKind.TheFolds as folds
use Rattle.xc_tree.specs.declared.expr.ExprKind.TheViews as views
use Rattle.xc_tree.specs.declared.stmt.Item.TheFolds as stmt_folds
use Rattle.xc_tree.specs.declared.stmt.Item.TheViews as stmt_views
use Rattle.xc_tree.specs.declared.ty.Ty.TheFolds as ty_folds
use Rattle.xc_tree.specs.declared.ty.Ty.TheViews as ty_views
use Rattle.xc_tree.specs.declared.stmt.NotNormal.{NotNormal}
use Rattle.xc_tree.specs.declared.stmt.NotNormal.TheVariants as reason
use Rattle.xc_form.specs.declared.normal.Header.{Header}
use Rattle.xc_form.specs.Normal.{normal_form}
use Rattle.xc_form.specs.Concurrency.{is_concurrent, all_inside}

ruleset opened = (folds.the_lemmas, views.the_lemmas, stmt_folds.the_lemmas, stmt_views.the_lemmas, stmt_views.outs-Do', ty_folds.the_lemmas, ty_views.the_lemmas)

abbrev at : Ty → ExprKind → Expr
at ty k = record { ty = ty; span = record { start = 0; end = 0 }; kind = k }

abbrev does : StmtKind → Stmt
does k = record { span = record { start = 0; end = 0 }; kind = k }

abbrev value : Local
value = record { name = record { start = 0; end = 0 }; ty = Int; addressed = false }

abbrev pragmas : ℕ → Pragmas
pragmas marks = record { marks = record { 0 = marks }; nodep = []; noalias = []; streams = 8; schedule = ByBlocks; given = [] }

-- local 0 is `i`, local 1 is `n`, local 2 is `t`
abbrev i : Expr
i = at Int (Variable 0)

abbrev n : Expr
n = at Int (Variable 1)

abbrev number : ℕ → Expr
number k = at Int (Const k)

abbrev sets : ℕ → Expr → Stmt
sets x e = does (Eval (at Int (Set x e)))

abbrev less : Expr → Option Expr
less h = Some (at Int (Binary op.Lt i h))

-- `i += k`
abbrev adds : ℕ → Option Expr
adds k = Some (at Int (Update op.Add false i (number k)))

abbrev loop : LoopForm → List Stmt → Option Expr → Option Expr → Stmt → Stmt
loop f init test step body = does (Loop 0 f init test step body (pragmas 1))

-- `for (i = 0; i < n; i += 1) body`, in a program whose function 0 is not pure
abbrev counts : Stmt → Stmt
counts body = loop form.For (sets 0 (number 0) ∷ []) (less n) (adds 1) body

abbrev form_of : Stmt → Result Header NotNormal
form_of s = normal_form (false ∷ []) (value ∷ value ∷ value ∷ []) s

abbrev upward : Result Header NotNormal
upward = Ok (record { index = 0; order = op.Lt; step = record { down = false; size = 1 } })

abbrev global : Expr
global = at Int (Read ReadXx (at (Ptr Int) (Global 0)))

abbrev through_pointer : Stmt
through_pointer = does (Eval (at Int (Write WriteXf (at (Ptr Int) (Index (at (Ptr Int) (Variable 2)) (number 0) 1 None)) (number 1))))

-- a plain loop
plain : form_of (counts (does Empty)) ≡ upward
unfolding normal_form
plain = search (rules, opened)

-- a `break` of an inner loop
inner_break : form_of (counts (loop form.While [] (Some n) None (does Break))) ≡ upward
unfolding normal_form
inner_break = search (rules, opened)

-- a `break` of a `switch`
switch_break : form_of (counts (does (Switch n (At 1 ∷ Do (does (Block (does Break ∷ []))) ∷ [])))) ≡ upward
unfolding normal_form
switch_break = search (rules, opened)

-- `for (int i; ..)`
declared_index : form_of (loop form.For (does (Declare 0 []) ∷ []) (less n) (adds 1) (does Empty)) ≡ upward
unfolding normal_form
declared_index = search (rules, opened)

-- a global as bound
global_bound : form_of (loop form.For (sets 0 (number 0) ∷ []) (less global) (adds 1) (sets 2 n)) ≡ upward
unfolding normal_form
global_bound = search (rules, opened)

-- `while`
while_ : form_of (loop form.While [] (Some n) None (does Empty)) ≡ Err reason.While
unfolding normal_form
while_ = search (rules, opened)

-- `do`
do_ : form_of (loop form.Do [] (Some n) None (does Break)) ≡ Err reason.Do
unfolding normal_form
do_ = search (rules, opened)

-- no first clause
no_clause : form_of (loop form.For [] (less n) (adds 1) (does Empty)) ≡ Err reason.Index
unfolding normal_form
no_clause = search (rules, opened)

-- two declarations
two_clauses : form_of (loop form.For (does (Declare 0 []) ∷ does (Declare 2 []) ∷ []) (less n) (adds 1) (does Empty)) ≡ Err reason.Index
unfolding normal_form
two_clauses = search (rules, opened)

-- no test
no_test : form_of (loop form.For (sets 0 (number 0) ∷ []) None (adds 1) (does Empty)) ≡ Err reason.Test
unfolding normal_form
no_test = search (rules, opened)

-- `n > i`
test_turned : form_of (loop form.For (sets 0 (number 0) ∷ []) (Some (at Int (Binary op.Gt n i))) (adds 1) (does Empty)) ≡ Err reason.Test
unfolding normal_form
test_turned = search (rules, opened)

-- the body assigns the bound
bound_assigned : form_of (counts (sets 1 (number 3))) ≡ Err reason.Bound
unfolding normal_form
bound_assigned = search (rules, opened)

-- `i < 64 / 2`
bound_divides : form_of (loop form.For (sets 0 (number 0) ∷ []) (less (at Int (Binary op.Div (number 64) (number 2)))) (adds 1) (does Empty)) ≡ Err reason.Bound
unfolding normal_form
bound_divides = search (rules, opened)

-- a bound of type Uint
bound_of_uint : form_of (loop form.For (sets 0 (number 0) ∷ []) (less (at Uint (Const 9))) (adds 1) (does Empty)) ≡ Err reason.Bound
unfolding normal_form
bound_of_uint = search (rules, opened)

-- a write through a pointer, and a global as bound
bound_through_pointer : form_of (loop form.For (sets 0 (number 0) ∷ []) (less global) (adds 1) through_pointer) ≡ Err reason.Bound
unfolding normal_form
bound_through_pointer = search (rules, opened)

-- a call of a function that is not pure, and a global as bound
bound_and_call : form_of (loop form.For (sets 0 (number 0) ∷ []) (less global) (adds 1) (does (Eval (at Int (Call 0 []))))) ≡ Err reason.Bound
unfolding normal_form
bound_and_call = search (rules, opened)

-- no step
no_step : form_of (loop form.For (sets 0 (number 0) ∷ []) (less n) None (does Empty)) ≡ Err reason.Step
unfolding normal_form
no_step = search (rules, opened)

-- `i--` below a bound
step_downward : form_of (loop form.For (sets 0 (number 0) ∷ []) (less n) (Some (at Int (Update op.Sub true i (number 1)))) (does Empty)) ≡ Err reason.Step
unfolding normal_form
step_downward = search (rules, opened)

-- `i += 0`
step_zero : form_of (loop form.For (sets 0 (number 0) ∷ []) (less n) (adds 0) (does Empty)) ≡ Err reason.Step
unfolding normal_form
step_zero = search (rules, opened)

-- the body assigns the index
index_assigned : form_of (counts (sets 0 (number 3))) ≡ Err reason.Assigned
unfolding normal_form
index_assigned = search (rules, opened)

-- `break`
breaks : form_of (counts (does Break)) ≡ Err reason.Exit
unfolding normal_form
breaks = search (rules, opened)

-- `break` inside an `if`
breaks_in_if : form_of (counts (does (Block (does (If n (does Break) None) ∷ [])))) ≡ Err reason.Exit
unfolding normal_form
breaks_in_if = search (rules, opened)

-- `return`
returns : form_of (counts (does (Return (Some n)))) ≡ Err reason.Exit
unfolding normal_form
returns = search (rules, opened)

-- `return` inside a `switch`
returns_in_switch : form_of (counts (does (Switch n (At 1 ∷ Do (does (Return (Some n))) ∷ [])))) ≡ Err reason.Exit
unfolding normal_form
returns_in_switch = search (rules, opened)

-- `break` behind a `switch`
breaks_behind_switch : form_of (counts (does (Block (does (Switch n []) ∷ does Break ∷ [])))) ≡ Err reason.Exit
unfolding normal_form
breaks_behind_switch = search (rules, opened)

-- the body assigns the index inside a `switch`
index_assigned_in_switch : form_of (counts (does (Switch n (At 1 ∷ Do (sets 0 (number 3)) ∷ [])))) ≡ Err reason.Assigned
unfolding normal_form
index_assigned_in_switch = search (rules, opened)

abbrev is_team : ℕ → Stmt → Bool
is_team marks body = is_concurrent [] (value ∷ value ∷ value ∷ []) (does (Loop 0 form.For (sets 0 (number 0) ∷ []) (less n) (adds 1) body (pragmas marks)))

-- `assert parallel`, and a local of the body
asserted : is_team 1 (does (Block (does (Declare 2 []) ∷ sets 2 n ∷ []))) ≡ true
unfolding normal_form all_inside
asserted = search (rules, opened)

-- `future` of a body that assigns its copy
copy_assigned : is_team 1 (does (stmt.Future (at (Ptr (Future Int)) (Global 0)) (record { from = n; local = 2 } ∷ []) (does (Block (sets 2 (number 3) ∷ []))))) ≡ true
unfolding normal_form all_inside
copy_assigned = search (rules, opened)

-- the body assigns a local from outside
outer_assigned : is_team 1 (sets 2 n) ≡ false
unfolding normal_form all_inside
outer_assigned = search (rules, opened)

-- `assert parallel` and `loop serial`
serial_too : is_team 3 (does Empty) ≡ false
unfolding normal_form all_inside
serial_too = search (rules, opened)

-- no `assert parallel`
not_asserted : is_team 0 (does Empty) ≡ false
unfolding normal_form all_inside
not_asserted = search (rules, opened)
