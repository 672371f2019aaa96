-- What is well typed stays so.
use Rattle.std.specs.Prelude.{◌≡◌, Bool, true, ◌||◌, IsTrue, List, map}
use Rattle.xc_tree.specs.declared.expr.Expr.{Expr}
use Rattle.xc_tree.specs.declared.stmt.Stmt.{Stmt}
use Rattle.xc_tree.specs.declared.tree.Local.{Local}
use Rattle.xc_tree.specs.Lists.{every}
use Rattle.xc_tree.specs.Types.{is_plain}
use Rattle.xc_tree.specs.Typed.{Context, expr_ok, value_ok}
use Rattle.xc_tree.specs.Statements.{stmt_ok}
use Rattle.xc_type_lowering.specs.Accessed.{only_accessed, stmt_accessed}

abbrev pub with_address : Local → Local
with_address l = record l { addressed = true }

-- where each local counts as one with an address
abbrev pub with_addresses : Context → Context
with_addresses cx = record cx { locals = map with_address cx.locals }

-- of each local, whether its address is taken
abbrev pub addressed_in : Context → List Bool
addressed_in cx = map (λ l. l.addressed) cx.locals

-- what has no address is a plain scalar
abbrev pub values_plain : Context → Bool
values_plain cx = every (map (λ l. l.addressed || is_plain l.ty) cx.locals)

-- the second expression is well typed, where the first is with all locals as objects, whose places are only accessed
-- where their addresses are never taken
abbrev pub ExprKept : List Bool → Expr → Expr → Type 0
ExprKept addressed e made = (cx : Context) → addressed ≡ addressed_in cx → IsTrue (values_plain cx)
    → IsTrue (only_accessed addressed e) → IsTrue (value_ok (with_addresses cx) e) → IsTrue (value_ok cx made)

-- the same of statements
abbrev pub StmtKept : List Bool → Stmt → Stmt → Type 0
StmtKept addressed s made = (cx : Context) → addressed ≡ addressed_in cx → IsTrue (values_plain cx)
    → IsTrue (stmt_accessed addressed s) → IsTrue (stmt_ok (with_addresses cx) s) → IsTrue (stmt_ok cx made)
