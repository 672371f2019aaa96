-- The references of a loop, which are the accesses of its test and its body in the order of the text, and what each goes through.
use Rattle.std.specs.Prelude.{ℕ, Bool, ◌&&◌, not, cond, List, [], ◌∷◌, ◌++◌, map, Option, Some, None}
use Rattle.xc_word.specs.declared.memory.Kind.TheVariants as kind
use Rattle.xc_tree.specs.declared.operator.BinOp.TheVariants as op
use Rattle.xc_tree.specs.declared.pragmas.Root.{Root}
use Rattle.xc_tree.specs.declared.pragmas.Root.TheVariants as root
use Rattle.xc_tree.specs.declared.ty.Ty.{Ty}
use Rattle.xc_tree.specs.declared.expr.Expr.{Expr}
use Rattle.xc_tree.specs.declared.expr.ExprKind.{ExprKind, roll-ExprKind}
use Rattle.xc_tree.specs.declared.expr.ExprKind.TheOpen.{ExprKind-F, Expr-F}
use Rattle.xc_tree.specs.declared.expr.ExprKind.TheFolds.{fold-Expr, map-ExprKind}
use Rattle.xc_tree.specs.declared.stmt.Stmt.{Stmt}
use Rattle.xc_tree.specs.declared.stmt.Item.TheOpen.{StmtKind-F}
use Rattle.xc_tree.specs.declared.stmt.Item.TheFolds.{fold-Stmt}
use Rattle.xc_tree.specs.Lists.{joined}
use Rattle.xc_tree.specs.Types.{is_pointer, array_under}
use Rattle.xc_tree.specs.Walk.{of_item, if_there}
use Rattle.xc_form.specs.declared.effect.Effect.{Effect}
use Rattle.xc_form.specs.Effects.{is_exact, local_of, root_of, stmt_effects}
use Rattle.xc_form.specs.Changes.{is_assigned, is_written, is_unsettled}
use Rattle.xc_form_stable.specs.Addresses.{is_named}

-- pointers ---------------------------------------------------------------

-- a value or a place: the global that it is the place of, and the pointer variable that it goes through, else Other
pub record Through : Type 0 where
  pub ty : Ty
  pub global : Option ℕ
  pub root : Root

pub record Way : Type 0 where
  pub global : Option ℕ
  pub root : Root

-- what the loop does, and which functions are pure
pub record Deeds : Type 0 where
  pub effects : List Effect
  pub pures : List Bool

abbrev pub global_in : ExprKind-F Way Through → Option ℕ
global_in (ExprKind-F.Global g) = Some g
global_in _ = None

-- a pointer variable at file scope, where the loop leaves it alone
abbrev pub global_pointer : Deeds → Option ℕ → Root
global_pointer d None = root.Other
global_pointer d (Some g) = cond (not (is_unsettled d.pures d.effects) && not (is_written d.effects g)) (root.GlobalPointer g) root.Other

-- `p[i]`, `p->m`, `p + i` and `p - i` go through `p`, if the loop leaves that variable alone
abbrev pub way_in : Deeds → ExprKind-F Way Through → Root
way_in d (ExprKind-F.Local x) = cond (is_assigned d.effects x) root.Other (root.LocalPointer x)
way_in d (ExprKind-F.Read kind.ReadXx place) = global_pointer d place.global
way_in d (ExprKind-F.Index base index size None) = base.root
way_in d (ExprKind-F.Index base index size (Some bound)) = cond (is_exact (array_under base.ty) bound) base.root root.Other
way_in d (ExprKind-F.Member base off) = base.root
way_in d (ExprKind-F.Binary op.Add a b) = cond (is_pointer a.ty) a.root b.root
way_in d (ExprKind-F.Binary op.Sub a b) = a.root
way_in d _ = root.Other

abbrev pub way_step : Deeds → ExprKind-F Way Through → Way
way_step d k = record { global = global_in k; root = way_in d k }

abbrev pub through : Deeds → Expr → Through
through d = fold-Expr Way Through (way_step d) (λ e. record { ty = e.ty; global = e.kind.global; root = e.kind.root })

-- a named object, else a pointer variable that is unchanging in the loop, else Other
abbrev pub reference_root : Deeds → Expr → Root
reference_root d place = cond (is_named (root_of place)) (root_of place) (through d place).root

-- references -------------------------------------------------------------

-- an expression as it stands in the tree, and the roots of its references
pub record Part : Type 0 where
  pub expr : Expr
  pub roots : List Root

pub record Form : Type 0 where
  pub kind : ExprKind
  pub roots : List Root

abbrev pub access : Deeds → Part → List Root
access d place = reference_root d place.expr ∷ []

abbrev pub all_roots : List Part → List Root
all_roots es = joined (map (λ e. e.roots) es)

-- a variable that is its own place is no reference; a cell is two, a read and a write
abbrev pub update_roots : Deeds → Option ℕ → Part → Part → List Root
update_roots d (Some x) place value = value.roots
update_roots d None place value = place.roots ++ (access d place ++ (value.roots ++ access d place))

abbrev pub roots_in : Deeds → ExprKind-F Form Part → List Root
roots_in d (ExprKind-F.Const n) = []
roots_in d (ExprKind-F.Local x) = []
roots_in d (ExprKind-F.Set x value) = value.roots
roots_in d (ExprKind-F.Global g) = []
roots_in d (ExprKind-F.Auto x) = []
roots_in d (ExprKind-F.Index base index size bound) = base.roots ++ index.roots
roots_in d (ExprKind-F.Member base off) = base.roots
roots_in d (ExprKind-F.Read k place) = place.roots ++ access d place
roots_in d (ExprKind-F.Write k place value) = place.roots ++ (value.roots ++ access d place)
roots_in d (ExprKind-F.FetchAdd place value) = place.roots ++ (value.roots ++ access d place)
roots_in d (ExprKind-F.Purge place) = place.roots ++ access d place
roots_in d (ExprKind-F.Update o post place value) = update_roots d (local_of place.expr) place value
roots_in d (ExprKind-F.Unary o of) = of.roots
roots_in d (ExprKind-F.Binary o a b) = a.roots ++ b.roots
roots_in d (ExprKind-F.And a b) = a.roots ++ b.roots
roots_in d (ExprKind-F.Or a b) = a.roots ++ b.roots
roots_in d (ExprKind-F.Cond test then other) = test.roots ++ (then.roots ++ other.roots)
roots_in d (ExprKind-F.Comma a b) = a.roots ++ b.roots
roots_in d (ExprKind-F.Call f args) = all_roots args
roots_in d (ExprKind-F.Print format args) = all_roots args

abbrev pub form_step : Deeds → ExprKind-F Form Part → Form
form_step d k = record { kind = roll-ExprKind (map-ExprKind Form Part ExprKind Expr (λ k. k.kind) (λ e. e.expr) k); roots = roots_in d k }

abbrev pub part_at : Expr-F Form Part → Part
part_at e = record { expr = record { ty = e.ty; span = e.span; kind = e.kind.kind }; roots = e.kind.roots }

abbrev pub expr_roots : Deeds → Expr → List Root
expr_roots d e = (fold-Expr Form Part (form_step d) part_at e).roots

abbrev pub maybe_roots : Deeds → Option Expr → List Root
maybe_roots d None = []
maybe_roots d (Some e) = expr_roots d e

-- the step of a loop comes behind its body
abbrev pub stmt_roots_step : Deeds → StmtKind-F (List Root) (List Root) (List Root) → List Root
stmt_roots_step d StmtKind-F.Empty = []
stmt_roots_step d (StmtKind-F.Declare x init) = joined (map (λ i. expr_roots d i.1) init)
stmt_roots_step d (StmtKind-F.Eval e) = expr_roots d e
stmt_roots_step d (StmtKind-F.Block all) = joined all
stmt_roots_step d (StmtKind-F.If test then other) = expr_roots d test ++ (then ++ if_there other)
stmt_roots_step d (StmtKind-F.Loop id f init test step body pragmas) = joined init ++ (maybe_roots d test ++ (body ++ maybe_roots d step))
stmt_roots_step d (StmtKind-F.Switch value items) = expr_roots d value ++ joined items
stmt_roots_step d (StmtKind-F.Return e) = maybe_roots d e
stmt_roots_step d StmtKind-F.Break = []
stmt_roots_step d StmtKind-F.Continue = []
stmt_roots_step d (StmtKind-F.Future place captures body) = expr_roots d place ++ (joined (map (λ c. expr_roots d c.from) captures) ++ body)

abbrev pub stmt_roots : Deeds → Stmt → List Root
stmt_roots d = fold-Stmt (List Root) (List Root) (List Root) (of_item []) (stmt_roots_step d) (λ s. s.kind)

-- the roots of a loop's references; the whole statement tells what the loop leaves alone
abbrev pub loop_roots : List Bool → Option Expr → Stmt → Stmt → List Root
loop_roots pures test body s = maybe_roots (record { effects = stmt_effects s; pures = pures }) test ++ stmt_roots (record { effects = stmt_effects s; pures = pures }) body
