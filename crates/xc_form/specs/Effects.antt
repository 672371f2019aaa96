-- What an expression or a statement does, in the order of C99 6.5 and 6.8, each branch, each loop and each statement of a
-- `switch` once.
use Rattle.std.specs.Prelude.{ℕ, Bool, false, ◌==◌, cond, List, [], ◌∷◌, ◌++◌, map, Option, Some, None}
use Rattle.xc_word.specs.declared.memory.Kind.{Kind}
use Rattle.xc_word.specs.declared.memory.Kind.TheVariants as kind
use Rattle.xc_tree.specs.declared.ty.Ty.{Ty}
use Rattle.xc_tree.specs.declared.pragmas.Root.{Root}
use Rattle.xc_tree.specs.declared.pragmas.Root.TheVariants as root
use Rattle.xc_tree.specs.declared.expr.Expr.{Expr}
use Rattle.xc_tree.specs.declared.expr.ExprKind.TheOpen.{ExprKind-F}
use Rattle.xc_tree.specs.declared.expr.ExprKind.TheFolds.{fold-Expr}
use Rattle.xc_tree.specs.declared.stmt.Stmt.{Stmt}
use Rattle.xc_tree.specs.declared.stmt.Capture.{Capture}
use Rattle.xc_tree.specs.declared.stmt.Item.TheOpen.{StmtKind-F}
use Rattle.xc_tree.specs.declared.stmt.Item.TheFolds.{fold-Stmt}
use Rattle.xc_tree.specs.Lists.{joined}
use Rattle.xc_tree.specs.Walk.{of_item}
use Rattle.xc_tree.specs.Types.{is_void, array_under}
use Rattle.xc_tree.specs.Kinds.{read_kind, write_kind}
use Rattle.xc_form.specs.declared.effect.Effect.{Effect}
use Rattle.xc_form.specs.declared.effect.Effect.TheVariants as effect

-- expressions ------------------------------------------------------------

-- what is known of a part: its type; the local, if it is one; whether it is 0; the named object that the place lies in;
-- the array whose first element it is, where it is an array's name used as a value; what it does
pub record Deeds : Type 0 where
  pub ty : Ty
  pub local : Option ℕ
  pub zero : Bool
  pub root : Root
  pub array : Root
  pub effects : List Effect

pub record Row : Type 0 where
  pub local : Option ℕ
  pub zero : Bool
  pub root : Root
  pub array : Root
  pub effects : Ty → List Effect

abbrev pub local_in : ExprKind-F Row Deeds → Option ℕ
local_in (ExprKind-F.Local x) = Some x
local_in _ = None

abbrev pub zero_in : ExprKind-F Row Deeds → Bool
zero_in (ExprKind-F.Const n) = n == 0
zero_in _ = false

-- the index stays within the declared bound
abbrev pub is_exact : Option (ℕ × Ty) → ℕ → Bool
is_exact None bound = false
is_exact (Some a) bound = bound == a.0

-- `a[i]` and `s.m` lie in the object; so does `*a` of an array
abbrev pub root_in : ExprKind-F Row Deeds → Root
root_in (ExprKind-F.Global g) = root.Global g
root_in (ExprKind-F.Auto x) = root.Local x
root_in (ExprKind-F.Index base index size (Some bound)) = cond (is_exact (array_under base.ty) bound) base.root root.Other
root_in (ExprKind-F.Index base index size None) = cond index.zero base.array root.Other
root_in (ExprKind-F.Member base off) = base.root
root_in _ = root.Other

abbrev pub array_in : ExprKind-F Row Deeds → Root
array_in (ExprKind-F.Index base index size (Some bound)) =
    cond index.zero (cond (is_exact (array_under base.ty) bound) base.root root.Other) root.Other
array_in _ = root.Other

abbrev pub written_at : Ty → Root → Root
written_at ty r = cond (is_void ty) root.Other r

abbrev pub updated : Kind → Kind → Deeds → List Effect → List Effect
updated r w place value = place.effects ++ (effect.Read place.root r ∷ (value ++ effect.Write place.root w ∷ []))

-- a variable that is its own place, or a cell
abbrev pub update_effects : Option ℕ → Deeds → List Effect → List Effect
update_effects (Some x) place value = value ++ effect.Set x ∷ []
update_effects None place value = updated (read_kind place.ty) (write_kind place.ty) place value

abbrev pub all_effects : List Deeds → List Effect
all_effects ds = joined (map (λ d. d.effects) ds)

abbrev pub effects_in : ExprKind-F Row Deeds → Ty → List Effect
effects_in (ExprKind-F.Const n) ty = []
effects_in (ExprKind-F.Local x) ty = []
effects_in (ExprKind-F.Set x value) ty = value.effects ++ effect.Set x ∷ []
effects_in (ExprKind-F.Global g) ty = []
effects_in (ExprKind-F.Auto x) ty = []
effects_in (ExprKind-F.Index base index size bound) ty = base.effects ++ index.effects
effects_in (ExprKind-F.Member base off) ty = base.effects
effects_in (ExprKind-F.Read k place) ty = place.effects ++ effect.Read place.root k ∷ []
effects_in (ExprKind-F.Write k place value) ty =
    place.effects ++ (value.effects ++ effect.Write (written_at ty place.root) k ∷ [])
effects_in (ExprKind-F.FetchAdd place value) ty = place.effects ++ (value.effects ++ effect.Write root.Other kind.Add ∷ [])
effects_in (ExprKind-F.Purge place) ty = place.effects ++ effect.Write root.Other kind.Purge ∷ []
effects_in (ExprKind-F.Update o post place value) ty = update_effects place.local place value.effects
effects_in (ExprKind-F.Unary o of) ty = of.effects
effects_in (ExprKind-F.Binary o a b) ty = a.effects ++ b.effects
effects_in (ExprKind-F.And a b) ty = a.effects ++ b.effects
effects_in (ExprKind-F.Or a b) ty = a.effects ++ b.effects
effects_in (ExprKind-F.Cond test then other) ty = test.effects ++ (then.effects ++ other.effects)
effects_in (ExprKind-F.Comma a b) ty = a.effects ++ b.effects
effects_in (ExprKind-F.Call f args) ty = all_effects args ++ effect.Call f ∷ []
effects_in (ExprKind-F.Print format args) ty = all_effects args ++ effect.Print ∷ []

abbrev pub deeds_step : ExprKind-F Row Deeds → Row
deeds_step k = record { local = local_in k; zero = zero_in k; root = root_in k; array = array_in k; effects = effects_in k }

abbrev pub deeds_of : Expr → Deeds
deeds_of = fold-Expr Row Deeds deeds_step (λ e. record {
  ty = e.ty;
  local = e.kind.local;
  zero = e.kind.zero;
  root = e.kind.root;
  array = e.kind.array;
  effects = e.kind.effects e.ty;
})

-- the named object that a place lies in, else Other
abbrev pub root_of : Expr → Root
root_of e = (deeds_of e).root

abbrev pub local_of : Expr → Option ℕ
local_of e = (deeds_of e).local

abbrev pub expr_effects : Expr → List Effect
expr_effects e = (deeds_of e).effects

-- statements -------------------------------------------------------------

abbrev pub maybe_effects : Option Expr → List Effect
maybe_effects None = []
maybe_effects (Some e) = expr_effects e

abbrev pub inits_effects : List (ℕ × Expr) → List Effect
inits_effects init = joined (map (λ i. expr_effects i.1) init)

-- a copy is declared in the body, of which it is an object
abbrev pub capture_effects : Capture → List Effect
capture_effects c = expr_effects c.from ++ effect.Declare c.local ∷ []

abbrev pub captures_effects : List Capture → List Effect
captures_effects captures = joined (map capture_effects captures)

abbrev pub else_effects : Option (List Effect) → List Effect
else_effects None = []
else_effects (Some s) = s

-- a `future` statement purges its place, copies, and starts its body, which writes the place at its end
abbrev pub start_effects : Expr → List Capture → List Effect
start_effects place captures = expr_effects place ++ (effect.Write (root_of place) kind.Purge ∷ (captures_effects captures ++ effect.Future ∷ []))

abbrev pub future_effects : Expr → List Capture → List Effect → List Effect
future_effects place captures body = start_effects place captures ++ (body ++ effect.Write (root_of place) kind.WriteXf ∷ [])

abbrev pub stmt_effects_step : StmtKind-F (List Effect) (List Effect) (List Effect) → List Effect
stmt_effects_step StmtKind-F.Empty = []
stmt_effects_step (StmtKind-F.Declare x init) = inits_effects init ++ effect.Declare x ∷ []
stmt_effects_step (StmtKind-F.Eval e) = expr_effects e
stmt_effects_step (StmtKind-F.Block all) = joined all
stmt_effects_step (StmtKind-F.If test then other) = expr_effects test ++ (then ++ else_effects other)
stmt_effects_step (StmtKind-F.Loop id _ init test step body pragmas) =
    effect.Loop id ∷ (joined init ++ (maybe_effects test ++ (body ++ maybe_effects step)))
stmt_effects_step (StmtKind-F.Switch value items) = expr_effects value ++ joined items
stmt_effects_step (StmtKind-F.Return e) = maybe_effects e
stmt_effects_step StmtKind-F.Break = []
stmt_effects_step StmtKind-F.Continue = []
stmt_effects_step (StmtKind-F.Future place captures body) = future_effects place captures body

abbrev pub stmt_effects : Stmt → List Effect
stmt_effects = fold-Stmt (List Effect) (List Effect) (List Effect) (of_item []) stmt_effects_step (λ s. s.kind)
