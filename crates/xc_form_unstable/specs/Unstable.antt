-- The loop with a number, and where it first breaks a rule of stable loops.
use Rattle.std.specs.Prelude.{ℕ, ◌==◌, cond, List, [], ◌∷◌, map, Option, Some, None}
use Rattle.xc_text_place.specs.declared.Span.{Span}
use Rattle.xc_tree.specs.declared.stmt.Stmt.{Stmt}
use Rattle.xc_tree.specs.declared.stmt.StmtKind.{StmtKind}
use Rattle.xc_tree.specs.declared.stmt.Item.{Item}
use Rattle.xc_tree.specs.declared.stmt.Item.TheOpen.{Item-F, StmtKind-F, Stmt-F}
use Rattle.xc_tree.specs.declared.stmt.Item.TheFolds.{para-Stmt, para-Item}
use Rattle.xc_tree.specs.declared.tree.Func.{Func}
use Rattle.xc_tree.specs.declared.tree.Tree.{Tree}
use Rattle.xc_form.specs.Purity.{purity}
use Rattle.xc_form_stable.specs.declared.breach.Breach.{Breach}
use Rattle.xc_form_stable.specs.Stable.{first_unstable}

abbrev pub or_else : {A : Type 0} → Option A → Option A → Option A
or_else None b = b
or_else (Some a) b = Some a

-- the first there is
abbrev pub first_of : {A : Type 0} → List (Option A) → Option A
first_of [] = None
first_of (x ∷ xs) = or_else x (first_of xs)

abbrev pub if_there : {A B : Type 0} → Option (A × Option B) → Option B
if_there None = None
if_there (Some p) = p.1

-- each part stands beside the loop with this number in it; `whole` is the statement itself
abbrev pub Parts : Type 0
Parts = StmtKind-F (Item × Option Stmt) (StmtKind × (Stmt → Option Stmt)) (Stmt × Option Stmt)

abbrev pub loop_step : ℕ → Parts → Stmt → Option Stmt
loop_step id (StmtKind-F.Block all) whole = first_of (map (λ p. p.1) all)
loop_step id (StmtKind-F.If test then other) whole = or_else then.1 (if_there other)
loop_step id (StmtKind-F.Loop own _ init test step body pragmas) whole =
    cond (own == id) (Some whole) (or_else (first_of (map (λ p. p.1) init)) body.1)
loop_step id (StmtKind-F.Switch value items) whole = first_of (map (λ p. p.1) items)
loop_step id (StmtKind-F.Future place captures body) whole = body.1
loop_step id _ whole = None

abbrev pub item_step : Item-F (Item × Option Stmt) (StmtKind × (Stmt → Option Stmt)) (Stmt × Option Stmt) → Option Stmt
item_step (Item-F.Do s) = s.1
item_step _ = None

abbrev pub stmt_step : Stmt-F (Item × Option Stmt) (StmtKind × (Stmt → Option Stmt)) (Stmt × Option Stmt) → Option Stmt
stmt_step s = s.kind.1 (record { span = s.span; kind = s.kind.0 })

-- the loop with this number in a statement
abbrev pub loop_in : ℕ → Stmt → Option Stmt
loop_in id = para-Stmt (Option Stmt) (Stmt → Option Stmt) (Option Stmt) item_step (loop_step id) stmt_step

abbrev pub item_loop : ℕ → Item → Option Stmt
item_loop id = para-Item (Option Stmt) (Stmt → Option Stmt) (Option Stmt) item_step (loop_step id) stmt_step

abbrev pub loop_among : ℕ → List Stmt → Option Stmt
loop_among id ss = first_of (map (loop_in id) ss)

abbrev pub item_loops : ℕ → List Item → Option Stmt
item_loops id is = first_of (map (item_loop id) is)

abbrev pub beside : Func → Option Stmt → Option (Func × Stmt)
beside f None = None
beside f (Some s) = Some (f, s)

abbrev pub loop_of_funcs : ℕ → List Func → Option (Func × Stmt)
loop_of_funcs id fs = first_of (map (λ f. beside f (loop_in id f.body)) fs)

-- the loop with this number in a program, and the function that it stands in
abbrev pub loop_of : Tree → ℕ → Option (Func × Stmt)
loop_of t id = loop_of_funcs id t.funcs

abbrev pub span_of : Option Breach → Option Span
span_of None = None
span_of (Some b) = Some b.at

abbrev pub breach_of : List Func → Option (Func × Stmt) → Option Span
breach_of fs None = None
breach_of fs (Some l) = span_of (first_unstable (purity fs) l.0.locals l.1)

-- where that loop first breaks a rule of stable loops
abbrev pub unstable_at : Tree → ℕ → Option Span
unstable_at t id = breach_of t.funcs (loop_of t id)
