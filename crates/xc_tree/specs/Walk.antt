-- What an expression or a statement names, in order.
use Rattle.std.specs.Prelude.{ℕ, List, [], ◌∷◌, ◌++◌, Option, Some, None, map}
use Rattle.xc_tree.specs.declared.expr.Expr.{Expr}
use Rattle.xc_tree.specs.declared.expr.ExprKind.TheOpen.{ExprKind-F}
use Rattle.xc_tree.specs.declared.expr.ExprKind.TheFolds.{fold-Expr}
use Rattle.xc_tree.specs.declared.stmt.Stmt.{Stmt}
use Rattle.xc_tree.specs.declared.stmt.Item.TheOpen.{StmtKind-F, Item-F}
use Rattle.xc_tree.specs.declared.stmt.Item.TheFolds.{fold-Stmt}
use Rattle.xc_tree.specs.Lists.{joined}

-- what the parts of a form have, one after the other
abbrev pub from_parts : {A : Type 0} → ExprKind-F (List A) (List A) → List A
from_parts (ExprKind-F.Const n) = []
from_parts (ExprKind-F.Local x) = []
from_parts (ExprKind-F.Set x value) = value
from_parts (ExprKind-F.Global g) = []
from_parts (ExprKind-F.Auto x) = []
from_parts (ExprKind-F.Index base index size bound) = base ++ index
from_parts (ExprKind-F.Member base off) = base
from_parts (ExprKind-F.Read k place) = place
from_parts (ExprKind-F.Write k place value) = place ++ value
from_parts (ExprKind-F.FetchAdd place value) = place ++ value
from_parts (ExprKind-F.Purge place) = place
from_parts (ExprKind-F.Update o post place value) = place ++ value
from_parts (ExprKind-F.Unary o of) = of
from_parts (ExprKind-F.Binary o a b) = a ++ b
from_parts (ExprKind-F.And a b) = a ++ b
from_parts (ExprKind-F.Or a b) = a ++ b
from_parts (ExprKind-F.Cond test then other) = test ++ (then ++ other)
from_parts (ExprKind-F.Comma a b) = a ++ b
from_parts (ExprKind-F.Call f args) = joined args
from_parts (ExprKind-F.Print format args) = joined args

-- the locals that an expression names
abbrev pub named_step : ExprKind-F (List ℕ) (List ℕ) → List ℕ
named_step (ExprKind-F.Local x) = x ∷ []
named_step (ExprKind-F.Set x value) = value ++ x ∷ []
named_step (ExprKind-F.Auto x) = x ∷ []
named_step l = from_parts l

abbrev pub locals_named : Expr → List ℕ
locals_named = fold-Expr (List ℕ) (List ℕ) named_step (λ e. e.kind)

abbrev pub if_there : {A : Type 0} → Option (List A) → List A
if_there None = []
if_there (Some xs) = xs

-- what is told of the statement that an item of a `switch` is; a label has `none`
abbrev pub of_item : {A B : Type 0} → B → Item-F B A B → B
of_item none (Item-F.Do s) = s
of_item none _ = none

-- the ids of the loops of a statement, outer ones first
abbrev pub ids_step : StmtKind-F (List ℕ) (List ℕ) (List ℕ) → List ℕ
ids_step (StmtKind-F.Block all) = joined all
ids_step (StmtKind-F.If test then other) = then ++ if_there other
ids_step (StmtKind-F.Loop id _ init test step body pragmas) = id ∷ (joined init ++ body)
ids_step (StmtKind-F.Switch value items) = joined items
ids_step (StmtKind-F.Future place captures body) = body
ids_step _ = []

abbrev pub loop_ids : Stmt → List ℕ
loop_ids = fold-Stmt (List ℕ) (List ℕ) (List ℕ) (of_item []) ids_step (λ s. s.kind)

-- the locals that a statement declares, the copies of a `future` statement among them
abbrev pub declared_step : StmtKind-F (List ℕ) (List ℕ) (List ℕ) → List ℕ
declared_step (StmtKind-F.Declare x init) = x ∷ []
declared_step (StmtKind-F.Block all) = joined all
declared_step (StmtKind-F.If test then other) = then ++ if_there other
declared_step (StmtKind-F.Loop id _ init test step body pragmas) = joined init ++ body
declared_step (StmtKind-F.Switch value items) = joined items
declared_step (StmtKind-F.Future place captures body) = map (λ c. c.local) captures ++ body
declared_step _ = []

abbrev pub declared : Stmt → List ℕ
declared = fold-Stmt (List ℕ) (List ℕ) (List ℕ) (of_item []) declared_step (λ s. s.kind)
