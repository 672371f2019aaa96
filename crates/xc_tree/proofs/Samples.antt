-- What small programs are made of.
use Rattle.std.proofs.Common.{◌≡◌, ℕ, List, [], ◌∷◌, Bool, true, false}
use Rattle.std.specs.Prelude.{Some, None}
use Rattle.xc_tree.specs.declared.ty.Ty.{Ty, Int}
use Rattle.xc_tree.specs.declared.expr.Expr.{Expr}
use Rattle.xc_tree.specs.declared.expr.ExprKind.{ExprKind, Const, Local as Variable}
use Rattle.xc_tree.specs.declared.pragmas.Root.{Root}
use Rattle.xc_tree.specs.declared.pragmas.Schedule.TheVariants.{Block as ByBlocks}
use Rattle.xc_tree.specs.declared.pragmas.Pragmas.{Pragmas}
use Rattle.xc_tree.specs.declared.stmt.Stmt.{Stmt}
use Rattle.xc_tree.specs.declared.stmt.StmtKind.{StmtKind, Loop, Block, Return, Break}
use Rattle.xc_tree.specs.declared.stmt.LoopForm.TheVariants.{While}
use Rattle.xc_tree.specs.declared.tree.Local.{Local}
use Rattle.xc_tree.specs.declared.tree.Object.{Object}
use Rattle.xc_tree.specs.declared.tree.Func.{Func}
use Rattle.xc_tree.specs.declared.expr.ExprKind.TheFolds as folds
use Rattle.xc_tree.specs.declared.expr.ExprKind.TheViews as views
use Rattle.xc_tree.specs.declared.stmt.Item.TheFolds as stmt_folds
use Rattle.xc_tree.specs.declared.stmt.Item.TheViews as stmt_views
use Rattle.xc_tree.specs.declared.ty.Ty.TheFolds as ty_folds
use Rattle.xc_tree.specs.declared.ty.Ty.TheViews as ty_views

pub ruleset opened = (folds.the_lemmas, views.the_lemmas, ty_folds.the_lemmas, ty_views.the_lemmas)

pub ruleset opened_all = (opened, stmt_folds.the_lemmas, stmt_views.the_lemmas, stmt_views.outs-Do', stmt_views.outs-If')

-- a test takes the first and refuses the second
abbrev pub Parts : Bool → Bool → Type 0
Parts taken refused = (taken ≡ true) × (refused ≡ false)

abbrev pub at : Ty → ExprKind → Expr
at ty k = record { ty = ty; span = record { start = 0; end = 0 }; kind = k }

abbrev pub does : StmtKind → Stmt
does k = record { span = record { start = 0; end = 0 }; kind = k }

abbrev pub block : List Stmt → Stmt
block all = does (Block all)

abbrev pub value : Ty → Local
value ty = record { name = record { start = 0; end = 0 }; ty = ty; addressed = false }

abbrev pub object : Ty → Local
object ty = record { name = record { start = 0; end = 0 }; ty = ty; addressed = true }

abbrev pub global : Ty → List (ℕ × Bool) → Object
global ty init = record { name = record { start = 0; end = 0 }; ty = ty; init = init }

abbrev pub number : ℕ → Expr
number k = at Int (Const k)

abbrev pub variable : ℕ → Expr
variable x = at Int (Variable x)

abbrev pub naming : ℕ → List Root → List Root → Pragmas
naming streams nodep noalias = record { marks = record { 0 = 0 }; nodep = nodep; noalias = noalias; streams = streams; schedule = ByBlocks; given = [] }

abbrev pub pragmas : ℕ → Pragmas
pragmas streams = naming streams [] []

-- `while (1) body`
abbrev pub repeats : ℕ → Pragmas → Stmt → Stmt
repeats id p body = does (Loop id While [] (Some (number 1)) None body p)

abbrev pub function : ℕ → List Local → Ty → Stmt → Func
function params locals ret body = record { name = record { start = 0; end = 0 }; params = params; locals = locals; ret = ret; body = body }

-- a function of one number
abbrev pub one : Func
one = function 1 (value Int ∷ []) Int (block (does (Return (Some (variable 0))) ∷ []))
