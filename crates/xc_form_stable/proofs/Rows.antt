-- Small loops, each with the first rule that it breaks, or none.
use Rattle.std.proofs.Common.{rules, ◌≡◌, ℕ, List, [], ◌∷◌, Bool, true, false}
use Rattle.std.specs.Prelude.{Option, Some, None}
use Rattle.xc_text_place.specs.declared.Span.{Span}
use Rattle.xc_word.specs.declared.memory.Kind.TheVariants.{ReadXx, WriteXf}
use Rattle.xc_tree.specs.declared.operator.BinOp.TheVariants as op
use Rattle.xc_tree.specs.declared.ty.Ty.{Ty, Int, Ptr, Array}
use Rattle.xc_tree.specs.declared.expr.Expr.{Expr}
use Rattle.xc_tree.specs.declared.expr.ExprKind.{ExprKind, Const, Local as Variable, Set, Global, Index, Read, Write, Update, Binary}
use Rattle.xc_tree.specs.declared.pragmas.Schedule.TheVariants.{Block as ByBlocks}
use Rattle.xc_tree.specs.declared.pragmas.Pragmas.{Pragmas}
use Rattle.xc_tree.specs.declared.stmt.Stmt.{Stmt}
use Rattle.xc_tree.specs.declared.stmt.StmtKind.{StmtKind, Empty, Eval, Block, Loop}
use Rattle.xc_tree.specs.declared.stmt.LoopForm.{LoopForm}
use Rattle.xc_tree.specs.declared.stmt.LoopForm.TheVariants as form
use Rattle.xc_tree.specs.declared.tree.Local.{Local}
use Rattle.xc_tree.specs.declared.expr.ExprKind.TheFolds as folds
use Rattle.xc_tree.specs.declared.expr.ExprKind.TheViews as views
use Rattle.xc_tree.specs.declared.stmt.Item.TheFolds as stmt_folds
use Rattle.xc_tree.specs.declared.stmt.Item.TheViews as stmt_views
use Rattle.xc_tree.specs.declared.ty.Ty.TheFolds as ty_folds
use Rattle.xc_tree.specs.declared.ty.Ty.TheViews as ty_views
use Rattle.xc_form.specs.Normal.{normal_form}
use Rattle.xc_form.specs.Concurrency.{all_inside}
use Rattle.xc_form_stable.specs.declared.breach.Breach.{Breach}
use Rattle.xc_form_stable.specs.declared.breach.Rule.TheVariants as rule
use Rattle.xc_form_stable.specs.Addresses.{is_kept_at, is_variable}
use Rattle.xc_form_stable.specs.Stable.{has_threads, clause_of, first_unstable}

ruleset opened = (folds.the_lemmas, views.the_lemmas, stmt_folds.the_lemmas, stmt_views.the_lemmas, ty_folds.the_lemmas, ty_views.the_lemmas)

abbrev nowhere : Span
nowhere = record { start = 0; end = 0 }

abbrev at : Ty → ExprKind → Expr
at ty k = record { ty = ty; span = nowhere; kind = k }

abbrev does : StmtKind → Stmt
does k = record { span = nowhere; kind = k }

abbrev value : Ty → Local
value ty = record { name = nowhere; ty = ty; addressed = false }

abbrev pragmas : Pragmas
pragmas = record { marks = record { 0 = 0 }; nodep = []; noalias = []; streams = 8; schedule = ByBlocks; given = [] }

abbrev number : ℕ → Expr
number k = at Int (Const k)

-- local 0 is `i`, local 1 is `j`, local 2 is `n`
abbrev local : ℕ → Expr
local x = at Int (Variable x)

-- `for (x = 0; x < h; x += k) body`
abbrev counts : ℕ → ℕ → Expr → ℕ → Stmt → Stmt
counts id x h k body = does (Loop id form.For (does (Eval (at Int (Set x (number 0)))) ∷ []) (Some (at Int (Binary op.Lt (local x) h)))
    (Some (at Int (Update op.Add false (local x) (number k)))) body pragmas)

-- the place of an element of a global array
abbrev element : ℕ → Expr → Expr
element g i = at (Ptr Int) (Index (at (Ptr (Array 9 Int)) (Global g)) i 1 (Some 9))

abbrev writes : Expr → Expr → Stmt
writes place e = does (Eval (at Int (Write WriteXf place e)))

abbrev reads : Expr → Expr
reads place = at Int (Read ReadXx place)

-- a program whose function has these locals; the fourth is a pointer
abbrev first_in : Stmt → Option Breach
first_in s = first_unstable [] (value Int ∷ value Int ∷ value Int ∷ value (Ptr Int) ∷ []) s

abbrev breaks : Breach
breaks = record { rule = rule.Address; at = nowhere }

-- a[i] = b[i];
plain : first_in (counts 0 0 (local 2) 1 (writes (element 0 (local 0)) (reads (element 1 (local 0))))) ≡ None
unfolding first_unstable normal_form all_inside has_threads is_kept_at is_variable clause_of
plain = search (rules, opened)

-- a[b[i]] = i;
by_index_array : first_in (counts 0 0 (local 2) 1 (writes (element 0 (reads (element 1 (local 0)))) (local 0))) ≡ None
unfolding first_unstable normal_form all_inside has_threads is_kept_at is_variable clause_of
by_index_array = search (rules, opened)

-- n = i, and for (j = 0; j < n; j += 1) ; which ends, but by a bound that changes
inner_bound_changes : first_in (counts 0 0 (number 9) 1 (does (Block (does (Eval (at Int (Set 2 (local 0)))) ∷ counts 1 1 (local 2) 1 (does Empty) ∷ [])))) ≡ Some breaks
unfolding first_unstable normal_form all_inside has_threads is_kept_at is_variable clause_of
inner_bound_changes = search (rules, opened)
