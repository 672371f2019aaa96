-- Constants: numbers, unary and binary integer operators, `?:` and casts over them (C99 6.6, without `sizeof`).
use Rattle.std.specs.Prelude.{ℕ, Bool, true, false, ◌&&◌, ◌||◌, ◌==◌, not, cond, Option, Some, None, option_map}
use Rattle.xc_tree.specs.declared.operator.BinOp.{BinOp}
use Rattle.xc_tree.specs.declared.operator.BinOp.TheVariants as op
use Rattle.xc_tree.specs.declared.ty.Ty.{Ty, out-Ty}
use Rattle.xc_tree.specs.declared.ty.Ty.TheOpen.{Ty-F}
use Rattle.xc_tree.specs.declared.expr.Expr.{Expr}
use Rattle.xc_tree.specs.declared.expr.ExprKind.TheOpen.{ExprKind-F}
use Rattle.xc_tree.specs.declared.expr.ExprKind.TheFolds.{fold-Expr}
use Rattle.xc_tree.specs.Types.{is_number}
use Rattle.xc_tree_words.specs.Words.{works_on_uint, binary_word, unary_word}
use Rattle.xc_word.specs.Numbers.{truth}

abbrev pub int_at : Ty-F Ty → Bool
int_at Ty-F.Int = true
int_at _ = false

abbrev pub is_int : Ty → Bool
is_int ty = int_at (out-Ty ty)

-- which trees are constants ----------------------------------------------

abbrev pub built_step : ExprKind-F Bool Bool → Bool
built_step (ExprKind-F.Const n) = true
built_step (ExprKind-F.Unary o of) = of
built_step (ExprKind-F.Binary o a b) = a && b
built_step (ExprKind-F.And a b) = a && b
built_step (ExprKind-F.Or a b) = a && b
built_step (ExprKind-F.Cond test then other) = test && (then && other)
built_step _ = false

abbrev pub is_built : Expr → Bool
is_built = fold-Expr Bool Bool built_step (λ e. is_number e.ty && e.kind)

-- their values -----------------------------------------------------------

pub record Known : Type 0 where
  pub ty : Ty
  pub value : Option ℕ

abbrev pub combined : BinOp → Bool → Option ℕ → Option ℕ → Option ℕ
combined o unsigned (Some a) (Some b) = binary_word o unsigned a b
combined o unsigned _ _ = None

abbrev pub is_true : ℕ → Bool
is_true n = not (n == 0)

-- the second is asked only where the first leaves it open (C99 6.5.13 and 6.5.14)
abbrev pub conjunction : Option ℕ → Option ℕ → Option ℕ
conjunction None b = None
conjunction (Some a) b = cond (is_true a) (option_map (λ n. truth (is_true n)) b) (Some 0)

abbrev pub disjunction : Option ℕ → Option ℕ → Option ℕ
disjunction None b = None
disjunction (Some a) b = cond (is_true a) (Some 1) (option_map (λ n. truth (is_true n)) b)

abbrev pub chosen : Option ℕ → Option ℕ → Option ℕ → Option ℕ
chosen None a b = None
chosen (Some test) a b = cond (is_true test) a b

abbrev pub value_step : ExprKind-F (Option ℕ) Known → Option ℕ
value_step (ExprKind-F.Const n) = Some n
value_step (ExprKind-F.Unary o of) = option_map (unary_word o) of.value
value_step (ExprKind-F.Binary o a b) = combined o (works_on_uint o a.ty b.ty) a.value b.value
value_step (ExprKind-F.And a b) = conjunction a.value b.value
value_step (ExprKind-F.Or a b) = disjunction a.value b.value
value_step (ExprKind-F.Cond test then other) = chosen test.value then.value other.value
value_step _ = None

abbrev pub value_of : Expr → Option ℕ
value_of e = (fold-Expr (Option ℕ) Known value_step (λ e. record { ty = e.ty; value = e.kind }) e).value

-- the value of a constant; none where it is no constant, or divides by 0
abbrev pub constant_of : Expr → Option ℕ
constant_of e = cond (is_built e) (value_of e) None
