-- What a loop leaves unchanged. The lists of effects are those of the whole loop, its first clause included.
use Rattle.std.specs.Prelude.{ℕ, Bool, true, false, ◌&&◌, ◌==◌, not, cond, List, map, Option, Some, None, slice_get}
use Rattle.xc_word.specs.declared.memory.Kind.TheVariants as kind
use Rattle.xc_tree.specs.declared.operator.BinOp.{BinOp}
use Rattle.xc_tree.specs.declared.operator.BinOp.TheVariants as op
use Rattle.xc_tree.specs.declared.pragmas.Root.TheVariants as root
use Rattle.xc_tree.specs.declared.ty.Ty.{Ty}
use Rattle.xc_tree.specs.declared.expr.Expr.{Expr}
use Rattle.xc_tree.specs.declared.expr.ExprKind.TheOpen.{ExprKind-F}
use Rattle.xc_tree.specs.declared.expr.ExprKind.TheFolds.{fold-Expr}
use Rattle.xc_tree.specs.Lists.{some, passes}
use Rattle.xc_tree.specs.Types.{is_plain, pointee}
use Rattle.xc_form.specs.declared.effect.Effect.{Effect}
use Rattle.xc_form.specs.declared.effect.Effect.TheVariants as effect

-- a declaration assigns its local, with its initialiser or with 0
abbrev pub assigns : ℕ → Effect → Bool
assigns x (effect.Set y) = x == y
assigns x (effect.Declare y) = x == y
assigns x _ = false

abbrev pub is_assigned : List Effect → ℕ → Bool
is_assigned es x = some (map (assigns x) es)

abbrev pub writes_global : ℕ → Effect → Bool
writes_global g (effect.Write (root.Global h) k) = g == h
writes_global g _ = false

abbrev pub is_written : List Effect → ℕ → Bool
is_written es g = some (map (writes_global g) es)

-- a write through a pointer, or a call of a function that is not pure
abbrev pub unsettles : List Bool → Effect → Bool
unsettles pures (effect.Write root.Other k) = true
unsettles pures (effect.Call f) = not (passes (λ b. b) (slice_get pures f))
unsettles pures _ = false

-- globals keep their values but for writes by name
abbrev pub is_unsettled : List Bool → List Effect → Bool
is_unsettled pures es = some (map (unsettles pures) es)

abbrev pub divides : BinOp → Bool
divides op.Div = true
divides op.Rem = true
divides _ = false

-- the global, if it is the place of one that is a plain scalar; and whether it is unchanging
pub record Fixity : Type 0 where
  pub global : Option ℕ
  pub ok : Bool

abbrev pub global_in : ExprKind-F Fixity Fixity → Option ℕ
global_in (ExprKind-F.Global g) = Some g
global_in _ = None

-- numbers, variables that the loop leaves alone, and operators over these but `/`, `%`, assignments and calls
abbrev pub fixed_step : List Effect → Bool → ExprKind-F Fixity Fixity → Bool
fixed_step es unsettled (ExprKind-F.Const n) = true
fixed_step es unsettled (ExprKind-F.Local x) = not (is_assigned es x)
fixed_step es unsettled (ExprKind-F.Read kind.ReadXx place) = not unsettled && passes (λ g. not (is_written es g)) place.global
fixed_step es unsettled (ExprKind-F.Unary o of) = of.ok
fixed_step es unsettled (ExprKind-F.Binary o a b) = not (divides o) && (a.ok && b.ok)
fixed_step es unsettled (ExprKind-F.And a b) = a.ok && b.ok
fixed_step es unsettled (ExprKind-F.Or a b) = a.ok && b.ok
fixed_step es unsettled (ExprKind-F.Cond test then other) = test.ok && (then.ok && other.ok)
fixed_step es unsettled (ExprKind-F.Comma a b) = a.ok && b.ok
fixed_step es unsettled _ = false

abbrev pub fixity_step : List Effect → Bool → ExprKind-F Fixity Fixity → Fixity
fixity_step es unsettled k = record { global = global_in k; ok = fixed_step es unsettled k }

abbrev pub leads_to_plain : Ty → Bool
leads_to_plain ty = passes is_plain (pointee ty)

abbrev pub fixity : List Effect → Bool → Expr → Fixity
fixity es unsettled = fold-Expr Fixity Fixity (fixity_step es unsettled)
    (λ e. record { global = cond (leads_to_plain e.ty) e.kind.global None; ok = e.kind.ok })

abbrev pub is_fixed : List Effect → Bool → Expr → Bool
is_fixed es unsettled e = (fixity es unsettled e).ok

-- the expression has one value throughout the loop
abbrev pub is_unchanging : List Bool → List Effect → Expr → Bool
is_unchanging pures es e = is_fixed es (is_unsettled pures es) e
