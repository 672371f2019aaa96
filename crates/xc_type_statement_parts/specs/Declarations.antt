-- Declarations in functions (C99 6.7).
use Rattle.std.specs.Prelude.{ℕ, Bool, false, not, ◌&&◌, List, [], ◌∷◌, Option, Some, None, option_map}
use Rattle.xc_text_place.specs.declared.Span.{Span}
use Rattle.xc_tree.specs.declared.ty.Ty.{Ty}
use Rattle.xc_tree.specs.declared.expr.Expr.{Expr}
use Rattle.xc_tree.specs.declared.stmt.Stmt.{Stmt}
use Rattle.xc_tree.specs.declared.stmt.StmtKind.{Declare}
use Rattle.xc_raw.specs.declared.tree.Raw.{Raw, out-Raw}
use Rattle.xc_type_rule.specs.declared.found.Thing.TheVariants as thing
use Rattle.xc_type_names.specs.Scoped.{is_new}
use Rattle.xc_type_scopes.specs.declared.env.Env.{Env}
use Rattle.xc_type_scopes.specs.Env as env
use Rattle.xc_type_scopes.specs.Judge.{Judge, give, and_then}
use Rattle.xc_type_expressions.specs.declared.text.Text.{Text}
use Rattle.xc_type_expressions.specs.declared.types.Declared.{Declared}
use Rattle.xc_type_expressions.specs.Places.{is_reserved}
use Rattle.xc_type_expressions.specs.Types.{name_fault_unless}
use Rattle.xc_type_expressions.specs.Judged.{judged, span_in}
use Rattle.xc_type_initialisers.specs.Initialisers.{local_inits}
use Rattle.xc_type_statement_parts.specs.Making.{Stmts, stmt, one, followed}

-- names --------------------------------------------------------------------

-- a name may be declared that is new in its scope, and not reserved
abbrev pub may_be_declared : ℕ → Env → Bool
may_be_declared name e = not (is_reserved name) && is_new name e.own

-- what has a type is the next object of the function; what has a fault is none
abbrev pub with_name : ℕ → Span → Option Ty → Env → Env
with_name name at None e = env.with_own name (thing.Local 0 None) e
with_name name at (Some ty) e = env.with_own name (thing.Local (env.next_local e) (Some ty)) (env.with_local at ty e)

abbrev pub number_of : Option Ty → Env → Option ℕ
number_of ty e = option_map (λ t. env.next_local e) ty

-- the number of the object that a declarator declares in the function at work, none where it has a fault
unfoldable pub object_by : Span → Option Ty → Option ℕ → Judge (Option ℕ)
object_by at ty None = give None []
object_by at ty (Some name) = λ e. record {
  env = with_name name at ty e;
  part = number_of ty e;
  faults = name_fault_unless (may_be_declared name e) at;
}

abbrev pub declared_object : Declared → Judge (Option ℕ)
declared_object d = object_by d.at d.ty d.name

-- initialisers ---------------------------------------------------------------

-- an object may have none
unfoldable pub initialised : Text → Option Ty → List Raw → Judge (Option (List (ℕ × Expr)))
initialised t ty [] = give (Some []) []
initialised t ty (i ∷ is) = local_inits t i ty

-- declarations ---------------------------------------------------------------

abbrev pub declare_made : Span → Option ℕ → Option (List (ℕ × Expr)) → Option Stmt
declare_made span (Some number) (Some init) = Some (stmt span (Declare number init))
declare_made span _ _ = None

-- `x = e`: the name is known from the end of its declarator on (C99 6.2.1 paragraph 7)
unfoldable pub declares_by : Text → Span → Option Ty → List Raw → Judge (Option Stmt)
declares_by t span base [] = give None []
declares_by t span base (d ∷ is) = and_then ((judged t d).declared base) (λ x. and_then (declared_object x) (λ number.
    and_then (initialised t x.ty is) (λ init. give (declare_made span number init) [])))

abbrev pub declares : Text → Option Ty → Raw → Judge (Option Stmt)
declares t base node = declares_by t (span_in t node) base (out-Raw node).parts

-- a statement for each name, in order
unfoldable pub declares_all : Text → Option Ty → List Raw → Judge Stmts
declares_all t base [] = give (Some []) []
declares_all t base (d ∷ ds) = and_then (declares t base d) (λ x. and_then (declares_all t base ds) (λ xs. give (followed (one x) xs) []))

unfoldable pub declaration : Text → List Raw → Judge Stmts
declaration t [] = give (Some []) []
declaration t (specs ∷ ds) = and_then ((judged t specs).specified false) (λ base. declares_all t base ds)
