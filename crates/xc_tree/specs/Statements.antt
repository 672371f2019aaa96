-- When a statement is well typed (C99 6.8), when what leaves a body stands where it may, and which locals are seen where.
use Rattle.std.specs.Prelude.{ℕ, Bool, true, false, ◌&&◌, ◌||◌, not, nat_lt, nat_le, is_some, is_none, List, [], ◌∷◌, ◌++◌, length, map, sum_by, Option, Some, None, slice_get}
use Rattle.xc_tree.specs.declared.ty.Ty.{Ty}
use Rattle.xc_word.specs.declared.memory.Kind.TheVariants.{ReadXx}
use Rattle.xc_tree.specs.declared.expr.Expr.{Expr}
use Rattle.xc_tree.specs.declared.expr.ExprKind.{ExprKind, out-ExprKind}
use Rattle.xc_tree.specs.declared.expr.ExprKind.TheOpen.{ExprKind-F}
use Rattle.xc_tree.specs.declared.pragmas.Pragmas.{Pragmas}
use Rattle.xc_tree.specs.declared.pragmas.Root.{Root}
use Rattle.xc_tree.specs.declared.pragmas.Root.TheVariants as root
use Rattle.xc_tree.specs.declared.stmt.Stmt.{Stmt}
use Rattle.xc_tree.specs.declared.stmt.LoopForm.{LoopForm}
use Rattle.xc_tree.specs.declared.stmt.LoopForm.TheVariants as form
use Rattle.xc_tree.specs.declared.stmt.Item.TheOpen.{StmtKind-F, Item-F}
use Rattle.xc_tree.specs.declared.stmt.Item.TheFolds.{fold-Stmt}
use Rattle.xc_tree.specs.declared.stmt.Capture.{Capture}
use Rattle.xc_tree.specs.declared.tree.Local.{Local}
use Rattle.xc_tree.specs.Lists.{every, joined, has, distinct, ascending, passes, allows}
use Rattle.xc_tree.specs.Types.{same_ty, is_void, is_number, is_plain, holds_pointer, fits, may_hold, cell_of, pointee, future_under}
use Rattle.xc_tree.specs.Typed.{Context, expr_ok, value_ok}
use Rattle.xc_tree.specs.Walk.{locals_named, of_item}

-- types ------------------------------------------------------------------

-- the value of a test is a scalar
abbrev pub test_ok : Context → Expr → Bool
test_ok cx e = value_ok cx e && is_plain e.ty

-- an initialiser fits the cell at its offset
abbrev pub init_ok : Context → Local → ℕ × Expr → Bool
init_ok cx l i = value_ok cx i.1 && passes (λ t. may_hold t i.1.ty) (cell_of cx.shapes l.ty i.0)

abbrev pub inits_ok : Context → Option Local → List (ℕ × Expr) → Bool
inits_ok cx l init = passes (λ l. every (map (init_ok cx l) init)) l

abbrev pub object_named : ExprKind-F ExprKind Expr → Bool
object_named (ExprKind-F.Global g) = true
object_named (ExprKind-F.Auto x) = true
object_named _ = false

-- the value of a plain scalar variable, by its name
abbrev pub variable_named : ExprKind-F ExprKind Expr → Bool
variable_named (ExprKind-F.Local x) = true
variable_named (ExprKind-F.Read ReadXx place) = object_named (out-ExprKind place.kind) && passes is_plain (pointee place.ty)
variable_named _ = false

-- a copy is a plain scalar of its own, and copies a variable
abbrev pub capture_ok : Context → Capture → Bool
capture_ok cx c = value_ok cx c.from && (variable_named (out-ExprKind c.from.kind)
    && passes (λ l. is_plain l.ty && same_ty l.ty c.from.ty) (slice_get cx.locals c.local))

-- a pragma names what is there
abbrev pub root_ok : Context → Root → Bool
root_ok cx (root.Global g) = nat_lt g (length cx.globals)
root_ok cx (root.Local x) = nat_lt x (length cx.locals)
root_ok cx (root.GlobalPointer g) = passes (λ g. holds_pointer g.ty) (slice_get cx.globals g)
root_ok cx (root.LocalPointer x) = passes (λ l. holds_pointer l.ty) (slice_get cx.locals x)
root_ok cx root.Other = false

abbrev pub is_pointer_root : Root → Bool
is_pointer_root (root.GlobalPointer g) = true
is_pointer_root (root.LocalPointer x) = true
is_pointer_root _ = false

-- from 1 to 8,192 streams, and roots that are there; `noalias` names pointers
unfoldable pub pragmas_ok : Context → Pragmas → Bool
pragmas_ok cx p = nat_le 1 p.streams && (nat_le p.streams 8192 && (every (map (root_ok cx) p.nodep)
    && every (map (λ r. is_pointer_root r && root_ok cx r) p.noalias)))

-- an item of a `switch`: the words of its `case`, how many `default` it is, and whether its statement is well typed
pub record Labelled : Type 0 where
  pub cases : List ℕ
  pub defaults : ℕ
  pub ok : Bool

abbrev pub label_step : Item-F Labelled Bool Bool → Labelled
label_step (Item-F.At n) = record { cases = n ∷ []; defaults = 0; ok = true }
label_step Item-F.Other = record { cases = []; defaults = 1; ok = true }
label_step (Item-F.Do s) = record { cases = []; defaults = 0; ok = s }

-- no two labels of one `switch` are the same (C99 6.8.4.2 paragraph 3)
abbrev pub labels_ok : List Labelled → Bool
labels_ok items = distinct (joined (map (λ i. i.cases) items)) && nat_le (sum_by (λ i. i.defaults) items) 1

-- the value that a `switch` goes by is an integer (C99 6.8.4.2 paragraph 1)
abbrev pub choice_ok : Context → Expr → Bool
choice_ok cx e = value_ok cx e && is_number e.ty

abbrev pub stmt_step : Context → StmtKind-F Labelled Bool Bool → Bool
stmt_step cx StmtKind-F.Empty = true
stmt_step cx (StmtKind-F.Declare x init) = nat_lt x (length cx.locals)
    && (ascending (map (λ i. i.0) init) && inits_ok cx (slice_get cx.locals x) init)
stmt_step cx (StmtKind-F.Eval e) = value_ok cx e
stmt_step cx (StmtKind-F.Block all) = every all
stmt_step cx (StmtKind-F.If test then other) = test_ok cx test && (then && allows (λ b. b) other)
stmt_step cx (StmtKind-F.Loop id _ init test step body pragmas) = every init
    && (allows (test_ok cx) test && (allows (value_ok cx) step && (body && pragmas_ok cx pragmas)))
stmt_step cx (StmtKind-F.Switch value items) = choice_ok cx value && (labels_ok items && every (map (λ i. i.ok) items))
stmt_step cx (StmtKind-F.Return e) = allows (value_ok cx) e
stmt_step cx StmtKind-F.Break = true
stmt_step cx StmtKind-F.Continue = true
stmt_step cx (StmtKind-F.Future place captures body) = expr_ok cx place
    && (every (map (capture_ok cx) captures) && body)

-- the statement is well typed
abbrev pub stmt_ok : Context → Stmt → Bool
stmt_ok cx = fold-Stmt Labelled Bool Bool label_step (stmt_step cx) (λ s. s.kind)

-- leaving ----------------------------------------------------------------

-- what a `return` gives, whether a `break` has something to leave, and whether a `continue` has a loop to go on with
pub record Inside : Type 0 where
  pub ret : Ty
  pub breaking : Bool
  pub looping : Bool

-- in a body of its own
abbrev pub at_entry : Ty → Inside
at_entry ret = record { ret = ret; breaking = false; looping = false }

abbrev pub in_loop : Inside → Inside
in_loop w = record { ret = w.ret; breaking = true; looping = true }

-- a `break` leaves the `switch`, a `continue` goes on with the loop around it (C99 6.8.6.2, 6.8.6.3)
abbrev pub in_switch : Inside → Inside
in_switch w = record { ret = w.ret; breaking = true; looping = w.looping }

-- whether a statement is a declaration, an expression, or a block, and whether it leaves only what is around it
pub record Leaving : Type 0 where
  pub declares : Bool
  pub evaluates : Bool
  pub braces : Bool
  pub ok : Inside → Bool

-- a branch, what a loop repeats and what stands in a `switch` is no declaration (C99 6.8.4, 6.8.5)
abbrev pub part_ok : Leaving → Inside → Bool
part_ok s w = not s.declares && s.ok w

-- the body of a function or of a `future` statement is a block (C99 6.9.1)
abbrev pub body_ok : Leaving → Ty → Bool
body_ok s ret = s.braces && s.ok (at_entry ret)

abbrev pub returns : Option Expr → Ty → Bool
returns None ret = is_void ret
returns (Some e) ret = fits ret e.ty

-- declarations, one expression or nothing
abbrev pub clause_ok : List Leaving → Bool
clause_ok (s ∷ []) = s.declares || s.evaluates
clause_ok ss = every (map (λ s. s.declares) ss)

-- `while` and `do` have a test alone
abbrev pub header_ok : LoopForm → List Leaving → Option Expr → Option Expr → Bool
header_ok form.For init test step = clause_ok init
header_ok _ [] test step = is_some test && is_none step
header_ok _ (s ∷ ss) test step = false

abbrev pub acts : (Inside → Bool) → Leaving
acts ok = record { declares = false; evaluates = false; braces = false; ok = ok }

-- a label, and what else leaves nothing
abbrev pub leaves_nothing : Leaving
leaves_nothing = acts (λ w. true)

abbrev pub leave_step : StmtKind-F Leaving Leaving Leaving → Leaving
leave_step (StmtKind-F.Declare x init) = record { declares = true; evaluates = false; braces = false; ok = λ w. true }
leave_step (StmtKind-F.Eval e) = record { declares = false; evaluates = true; braces = false; ok = λ w. true }
leave_step (StmtKind-F.Block all) = record { declares = false; evaluates = false; braces = true; ok = λ w. every (map (λ s. s.ok w) all) }
leave_step (StmtKind-F.If test then other) = acts (λ w. part_ok then w && allows (λ s. part_ok s w) other)
leave_step (StmtKind-F.Loop id f init test step body pragmas) = acts (λ w. header_ok f init test step && part_ok body (in_loop w))
leave_step (StmtKind-F.Switch value items) = acts (λ w. every (map (λ s. part_ok s (in_switch w)) items))
leave_step (StmtKind-F.Return e) = acts (λ w. returns e w.ret)
leave_step StmtKind-F.Break = acts (λ w. w.breaking)
leave_step StmtKind-F.Continue = acts (λ w. w.looping)
leave_step (StmtKind-F.Future place captures body) = acts (λ w. passes (body_ok body) (future_under place.ty))
leave_step StmtKind-F.Empty = leaves_nothing

abbrev pub leaving : Stmt → Leaving
leaving = fold-Stmt Leaving Leaving Leaving (of_item leaves_nothing) leave_step (λ s. s.kind)

-- `break`, `continue` and `return` leave what is there, with a value of its type
abbrev pub leaves_ok : Stmt → Inside → Bool
leaves_ok s = (leaving s).ok

-- scopes -----------------------------------------------------------------

-- the locals that a statement adds to what the next one sees, and whether it names only what it sees (C99 6.2.1)
pub record Sight : Type 0 where
  pub adds : List ℕ
  pub ok : List ℕ → Bool

abbrev pub sees : List ℕ → Expr → Bool
sees seen e = every (map (λ x. has x seen) (locals_named e))

abbrev pub sees_root : List ℕ → Root → Bool
sees_root seen (root.Local x) = has x seen
sees_root seen (root.LocalPointer x) = has x seen
sees_root seen _ = true

abbrev pub sees_pragmas : List ℕ → Pragmas → Bool
sees_pragmas seen p = every (map (sees_root seen) p.nodep) && every (map (sees_root seen) p.noalias)

-- each statement sees what the ones before it add
abbrev pub sees_all : List Sight → List ℕ → Bool
sees_all [] seen = true
sees_all (s ∷ ss) seen = s.ok seen && sees_all ss (s.adds ++ seen)

abbrev pub added : List Sight → List ℕ → List ℕ
added [] seen = seen
added (s ∷ ss) seen = added ss (s.adds ++ seen)

abbrev pub adds_none : (List ℕ → Bool) → Sight
adds_none ok = record { adds = []; ok = ok }

-- a label, and what else sees nothing
abbrev pub sees_nothing : Sight
sees_nothing = adds_none (λ seen. true)

abbrev pub sight_step : StmtKind-F Sight Sight Sight → Sight
sight_step (StmtKind-F.Declare x init) = record { adds = x ∷ []; ok = λ seen. every (map (λ i. sees (x ∷ seen) i.1) init) }
sight_step (StmtKind-F.Eval e) = adds_none (λ seen. sees seen e)
sight_step (StmtKind-F.Block all) = adds_none (sees_all all)
sight_step (StmtKind-F.If test then other) = adds_none (λ seen. sees seen test && (then.ok seen && allows (λ s. s.ok seen) other))
sight_step (StmtKind-F.Loop id _ init test step body pragmas) = adds_none (λ seen. sees_pragmas seen pragmas
    && (sees_all init seen && (allows (sees (added init seen)) test && (allows (sees (added init seen)) step && body.ok (added init seen)))))
sight_step (StmtKind-F.Switch value items) = adds_none (λ seen. sees seen value && every (map (λ s. s.ok seen) items))
sight_step (StmtKind-F.Return e) = adds_none (λ seen. allows (sees seen) e)
sight_step (StmtKind-F.Future place captures body) = adds_none (λ seen. sees seen place
    && (every (map (λ c. sees seen c.from) captures) && body.ok (map (λ c. c.local) captures)))
sight_step _ = sees_nothing

abbrev pub sight : Stmt → Sight
sight = fold-Stmt Sight Sight Sight (of_item sees_nothing) sight_step (λ s. s.kind)

-- where these locals are seen, the statement names only locals that it sees
abbrev pub sees_ok : Stmt → List ℕ → Bool
sees_ok s = (sight s).ok
