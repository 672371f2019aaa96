-- The place of a local whose address is never taken stands only where it is read, assigned or updated.
use Rattle.std.specs.Prelude.{ℕ, Bool, true, false, ◌&&◌, not, is_some, List, [], ◌∷◌, map, Option, Some, None}
use Rattle.xc_word.specs.declared.memory.Kind.TheVariants.{ReadXx, WriteXf}
use Rattle.xc_tree.specs.declared.ty.Ty.{Ty}
use Rattle.xc_tree.specs.declared.expr.Expr.{Expr}
use Rattle.xc_tree.specs.declared.expr.ExprKind.TheOpen.{ExprKind-F, Expr-F}
use Rattle.xc_tree.specs.declared.expr.ExprKind.TheFolds.{fold-Expr}
use Rattle.xc_tree.specs.declared.stmt.Stmt.{Stmt}
use Rattle.xc_tree.specs.declared.stmt.Item.TheOpen.{StmtKind-F}
use Rattle.xc_tree.specs.declared.stmt.Item.TheFolds.{fold-Stmt}
use Rattle.xc_tree.specs.Lists.{every, allows}
use Rattle.xc_tree.specs.Walk.{of_item}
use Rattle.xc_tree.specs.Types.{is_void}
use Rattle.xc_type_lowering.specs.Lowered.{value_of}

-- what is told of a part: whether it is the place of a local that is a value, whether it reads one, and whether such
-- places stand within it only where they may
pub record Use : Type 0 where
  pub place : Bool
  pub read : Bool
  pub ok : Bool

-- the same of a form whose type is still to be given
pub record UseKind : Type 0 where
  pub place : Bool
  pub read : Bool
  pub ok : Ty → Bool

-- the part is no such place itself
abbrev pub settled : Use → Bool
settled u = not u.place && u.ok

abbrev pub children : {A B : Type 0} → ExprKind-F A B → List B
children (ExprKind-F.Const n) = []
children (ExprKind-F.Local x) = []
children (ExprKind-F.Set x value) = value ∷ []
children (ExprKind-F.Global g) = []
children (ExprKind-F.Auto x) = []
children (ExprKind-F.Index base index size bound) = base ∷ index ∷ []
children (ExprKind-F.Member base off) = base ∷ []
children (ExprKind-F.Read k place) = place ∷ []
children (ExprKind-F.Write k place value) = place ∷ value ∷ []
children (ExprKind-F.FetchAdd place value) = place ∷ value ∷ []
children (ExprKind-F.Purge place) = place ∷ []
children (ExprKind-F.Update o post place value) = place ∷ value ∷ []
children (ExprKind-F.Unary o of) = of ∷ []
children (ExprKind-F.Binary o a b) = a ∷ b ∷ []
children (ExprKind-F.And a b) = a ∷ b ∷ []
children (ExprKind-F.Or a b) = a ∷ b ∷ []
children (ExprKind-F.Cond test then other) = test ∷ then ∷ other ∷ []
children (ExprKind-F.Comma a b) = a ∷ b ∷ []
children (ExprKind-F.Call f args) = args
children (ExprKind-F.Print format args) = args

abbrev pub all_settled : List Use → Bool
all_settled us = every (map settled us)

abbrev pub uses_only : (Ty → Bool) → UseKind
uses_only ok = record { place = false; read = false; ok = ok }

-- an assignment has a value, a call that writes has none; what an update changes is no value that was read
abbrev pub use_step : List Bool → ExprKind-F UseKind Use → UseKind
use_step addressed (ExprKind-F.Auto x) = record { place = is_some (value_of addressed x); read = false; ok = λ ty. true }
use_step addressed (ExprKind-F.Read ReadXx place) = record { place = false; read = place.place; ok = λ ty. place.ok }
use_step addressed (ExprKind-F.Write WriteXf place value) = uses_only (λ ty. place.ok && (settled value && not (place.place && is_void ty)))
use_step addressed (ExprKind-F.Update o post place value) = uses_only (λ ty. place.ok && (settled value && not place.read))
use_step addressed l = uses_only (λ ty. all_settled (children l))

abbrev pub with_use : Expr-F UseKind Use → Use
with_use e = record { place = e.kind.place; read = e.kind.read; ok = e.kind.ok e.ty }

abbrev pub use_of : List Bool → Expr → Use
use_of addressed = fold-Expr UseKind Use (use_step addressed) with_use

-- in the expression, where its own value is used
abbrev pub only_accessed : List Bool → Expr → Bool
only_accessed addressed e = settled (use_of addressed e)

abbrev pub accessed_step : List Bool → StmtKind-F Bool Bool Bool → Bool
accessed_step addressed (StmtKind-F.Declare x init) = every (map (λ i. only_accessed addressed i.1) init)
accessed_step addressed (StmtKind-F.Eval e) = only_accessed addressed e
accessed_step addressed (StmtKind-F.Block all) = every all
accessed_step addressed (StmtKind-F.If test then other) = only_accessed addressed test && (then && allows (λ b. b) other)
accessed_step addressed (StmtKind-F.Loop id _ init test step body pragmas) = every init
    && (allows (only_accessed addressed) test && (allows (only_accessed addressed) step && body))
accessed_step addressed (StmtKind-F.Switch value items) = only_accessed addressed value && every items
accessed_step addressed (StmtKind-F.Return e) = allows (only_accessed addressed) e
accessed_step addressed (StmtKind-F.Future place captures body) = only_accessed addressed place
    && (every (map (λ c. only_accessed addressed c.from) captures) && body)
accessed_step addressed _ = true

-- in the statement
abbrev pub stmt_accessed : List Bool → Stmt → Bool
stmt_accessed addressed = fold-Stmt Bool Bool Bool (of_item true) (accessed_step addressed) (λ s. s.kind)
