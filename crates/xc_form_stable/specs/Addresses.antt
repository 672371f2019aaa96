-- Addresses and bounds that the loop under test leaves alone, as its index and the indices of loops inside it go on.
use Rattle.std.specs.Prelude.{ℕ, Bool, true, false, ◌&&◌, ◌||◌, ◌==◌, not, List, [], ◌∷◌, ◌++◌, map, Option, is_some}
use Rattle.xc_word.specs.declared.memory.Kind.{Kind}
use Rattle.xc_word.specs.declared.memory.Kind.TheVariants as kind
use Rattle.xc_text_place.specs.declared.Span.{Span}
use Rattle.xc_tree.specs.declared.pragmas.Root.{Root}
use Rattle.xc_tree.specs.declared.pragmas.Root.TheVariants as root
use Rattle.xc_tree.specs.declared.ty.Ty.{Ty}
use Rattle.xc_tree.specs.declared.expr.Expr.{Expr}
use Rattle.xc_tree.specs.declared.expr.ExprKind.{ExprKind, roll-ExprKind}
use Rattle.xc_tree.specs.declared.expr.ExprKind.TheOpen.{ExprKind-F, Expr-F}
use Rattle.xc_tree.specs.declared.expr.ExprKind.TheFolds.{fold-Expr, map-ExprKind}
use Rattle.xc_tree.specs.declared.tree.Local.{Local}
use Rattle.xc_tree.specs.Lists.{has, some, joined}
use Rattle.xc_tree.specs.Types.{is_void}
use Rattle.xc_form.specs.declared.effect.Effect.{Effect}
use Rattle.xc_form.specs.declared.effect.Effect.TheVariants as effect
use Rattle.xc_form.specs.Effects.{root_of, local_of}
use Rattle.xc_form.specs.Changes.{is_assigned, divides, leads_to_plain, unsettles}
use Rattle.xc_form_stable.specs.declared.breach.Breach.{Breach}
use Rattle.xc_form_stable.specs.declared.breach.Rule.{Rule}
use Rattle.xc_form_stable.specs.declared.breach.Rule.TheVariants as rule

-- the loop under test: which functions are pure, the locals of its function, what the whole statement does, its index
pub record Frame : Type 0 where
  pub pures : List Bool
  pub locals : List Local
  pub effects : List Effect
  pub index : Option ℕ

abbrev pub breach : Rule → Span → Breach
breach r at = record { rule = r; at = at }

abbrev pub breach_if : Bool → Rule → Span → List Breach
breach_if true r at = breach r at ∷ []
breach_if false r at = []

-- reads ------------------------------------------------------------------

-- a write of the named object, or one through a pointer
abbrev pub disturbs : Root → Effect → Bool
disturbs r (effect.Write root.Other k) = true
disturbs (root.Global g) (effect.Write (root.Global h) k) = g == h
disturbs (root.Local x) (effect.Write (root.Local y) k) = x == y
disturbs r _ = false

abbrev pub is_named : Root → Bool
is_named (root.Global g) = true
is_named (root.Local x) = true
is_named _ = false

-- a named object that the loop does not write, in a loop without a write through a pointer
abbrev pub is_kept : List Effect → Root → Bool
is_kept es r = is_named r && not (some (map (disturbs r) es))

-- the read of a place is of such an object
unfoldable pub is_kept_at : List Effect → Expr → Bool
is_kept_at es place = is_kept es (root_of place)

abbrev pub is_write : Effect → Bool
is_write (effect.Write r k) = true
is_write _ = false

abbrev pub has_write : List Effect → Bool
has_write es = some (map is_write es)

-- expressions ------------------------------------------------------------

-- an expression as it stands in the tree; whether it is steady, where each read may stand in it or those of kept objects
-- alone, inside the loops over these indices; and which rules it breaks
pub record Part : Type 0 where
  pub expr : Expr
  pub steady : Bool → List ℕ → Bool
  pub breaches : List ℕ → List Breach

pub record Form : Type 0 where
  pub kind : ExprKind
  pub steady : Bool → List ℕ → Bool
  pub breaches : Ty → Span → List ℕ → List Breach

-- made of numbers, variables that the loop leaves alone, indices, named objects and reads, by operators but `/`, `%`,
-- assignments and calls
abbrev pub steady_in : Frame → ExprKind-F Form Part → Bool → List ℕ → Bool
steady_in fr (ExprKind-F.Const n) all over = true
steady_in fr (ExprKind-F.Local x) all over = not (is_assigned fr.effects x) || has x over
steady_in fr (ExprKind-F.Global g) all over = true
steady_in fr (ExprKind-F.Auto x) all over = true
steady_in fr (ExprKind-F.Index base index size bound) all over = base.steady all over && index.steady all over
steady_in fr (ExprKind-F.Member base off) all over = base.steady all over
steady_in fr (ExprKind-F.Read k place) all over = all || is_kept_at fr.effects place.expr
steady_in fr (ExprKind-F.Unary o of) all over = of.steady all over
steady_in fr (ExprKind-F.Binary o a b) all over = not (divides o) && (a.steady all over && b.steady all over)
steady_in fr (ExprKind-F.And a b) all over = a.steady all over && b.steady all over
steady_in fr (ExprKind-F.Or a b) all over = a.steady all over && b.steady all over
steady_in fr (ExprKind-F.Cond test then other) all over = test.steady all over && (then.steady all over && other.steady all over)
steady_in fr (ExprKind-F.Comma a b) all over = a.steady all over && b.steady all over
steady_in fr _ all over = false

-- the address of an access; in a loop without any write every read may stand in it
abbrev pub address_breaches : Frame → Part → Span → List ℕ → List Breach
address_breaches fr place at over = breach_if (not (place.steady (not (has_write fr.effects)) over)) rule.Address at

-- a read or a write that neither waits nor leaves a cell empty, and is no generic function
abbrev pub is_plain_read : Kind → Ty → Bool
is_plain_read kind.ReadXx place = leads_to_plain place
is_plain_read k place = false

abbrev pub is_plain_write : Kind → Ty → Ty → Bool
is_plain_write kind.WriteXf place ty = leads_to_plain place && not (is_void ty)
is_plain_write k place ty = false

abbrev pub all_breaches : List Part → List ℕ → List Breach
all_breaches es over = joined (map (λ e. e.breaches over) es)

unfoldable pub is_variable : Expr → Bool
is_variable e = is_some (local_of e)

-- a variable that is its own place, or a cell
abbrev pub update_breaches : Frame → Bool → Part → Part → Span → List ℕ → List Breach
update_breaches fr true place value at over = value.breaches over
update_breaches fr false place value at over =
    breach_if (not (leads_to_plain place.expr.ty)) rule.Sync at ++ (place.breaches over ++ (address_breaches fr place at over ++ value.breaches over))

-- in the order of the text; an access comes after those in its address and value
abbrev pub expr_breaches_in : Frame → ExprKind-F Form Part → Ty → Span → List ℕ → List Breach
expr_breaches_in fr (ExprKind-F.Const n) ty at over = []
expr_breaches_in fr (ExprKind-F.Local x) ty at over = []
expr_breaches_in fr (ExprKind-F.Set x value) ty at over = value.breaches over
expr_breaches_in fr (ExprKind-F.Global g) ty at over = []
expr_breaches_in fr (ExprKind-F.Auto x) ty at over = []
expr_breaches_in fr (ExprKind-F.Index base index size bound) ty at over = base.breaches over ++ index.breaches over
expr_breaches_in fr (ExprKind-F.Member base off) ty at over = base.breaches over
expr_breaches_in fr (ExprKind-F.Read k place) ty at over =
    breach_if (not (is_plain_read k place.expr.ty)) rule.Sync at ++ (place.breaches over ++ address_breaches fr place at over)
expr_breaches_in fr (ExprKind-F.Write k place value) ty at over =
    breach_if (not (is_plain_write k place.expr.ty ty)) rule.Sync at ++ (place.breaches over ++ (value.breaches over ++ address_breaches fr place at over))
expr_breaches_in fr (ExprKind-F.FetchAdd place value) ty at over = breach rule.Sync at ∷ (place.breaches over ++ value.breaches over)
expr_breaches_in fr (ExprKind-F.Purge place) ty at over = breach rule.Sync at ∷ place.breaches over
expr_breaches_in fr (ExprKind-F.Update o post place value) ty at over = update_breaches fr (is_variable place.expr) place value at over
expr_breaches_in fr (ExprKind-F.Unary o of) ty at over = of.breaches over
expr_breaches_in fr (ExprKind-F.Binary o a b) ty at over = a.breaches over ++ b.breaches over
expr_breaches_in fr (ExprKind-F.And a b) ty at over = a.breaches over ++ b.breaches over
expr_breaches_in fr (ExprKind-F.Or a b) ty at over = a.breaches over ++ b.breaches over
expr_breaches_in fr (ExprKind-F.Cond test then other) ty at over = test.breaches over ++ (then.breaches over ++ other.breaches over)
expr_breaches_in fr (ExprKind-F.Comma a b) ty at over = a.breaches over ++ b.breaches over
expr_breaches_in fr (ExprKind-F.Call f args) ty at over = breach_if (unsettles fr.pures (effect.Call f)) rule.Call at ++ all_breaches args over
expr_breaches_in fr (ExprKind-F.Print format args) ty at over = breach rule.Call at ∷ all_breaches args over

abbrev pub form_step : Frame → ExprKind-F Form Part → Form
form_step fr k = record {
  kind = roll-ExprKind (map-ExprKind Form Part ExprKind Expr (λ k. k.kind) (λ e. e.expr) k);
  steady = steady_in fr k;
  breaches = expr_breaches_in fr k;
}

abbrev pub part_at : Expr-F Form Part → Part
part_at e = record {
  expr = record { ty = e.ty; span = e.span; kind = e.kind.kind };
  steady = e.kind.steady;
  breaches = e.kind.breaches e.ty e.span;
}

abbrev pub part_of : Frame → Expr → Part
part_of fr = fold-Expr Form Part (form_step fr) part_at

-- a bound inside the loops over these indices does not change but with them; a read in it is of a kept object
abbrev pub is_steady : Frame → List ℕ → Expr → Bool
is_steady fr over e = (part_of fr e).steady false over

abbrev pub expr_breaches : Frame → List ℕ → Expr → List Breach
expr_breaches fr over e = (part_of fr e).breaches over
