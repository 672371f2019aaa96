-- The words that the initialisers of a global stand for: each is a constant, or for a pointer 0, `&` of a global's name
-- or the name of a global array (C99 6.6 paragraphs 6 to 9).
use Rattle.std.specs.Prelude.{ℕ, ◌+◌, ◌*◌, ◌%◌, ◌^◌, Bool, false, ◌==◌, ◌&&◌, cond, List, [], ◌∷◌, Option, Some, None, option_map}
use Rattle.xc_tree.specs.declared.ty.Ty.{Ty}
use Rattle.xc_tree.specs.declared.expr.Expr.{Expr}
use Rattle.xc_tree.specs.declared.expr.ExprKind.{ExprKind, out-ExprKind, Const}
use Rattle.xc_tree.specs.declared.expr.ExprKind.TheOpen.{ExprKind-F}
use Rattle.xc_tree.specs.Lists.{passes}
use Rattle.xc_tree.specs.Types.{array_under}
use Rattle.xc_type_rule.specs.Making.{both, typed}
use Rattle.xc_type_initialiser_objects.specs.declared.inits.Inits.{Inits}

-- a constant with this value in place of what is made
unfoldable pub number_made : Option ℕ → Option Expr → Option Expr
number_made value made = both (λ n e. typed e.span e.ty (Const n)) value made

-- a pointer is that to a global ------------------------------------------------

-- the pointer to global g, which is segment g + 1
abbrev pub pointer_to : ℕ → ℕ
pointer_to g = (g + 1) * 2 ^ 32 % 2 ^ 64

abbrev pub global_at : ExprKind-F ExprKind Expr → Option ℕ
global_at (ExprKind-F.Global g) = Some g
global_at _ = None

abbrev pub global_of : Expr → Option ℕ
global_of e = global_at (out-ExprKind e.kind)

abbrev pub is_zero_at : ExprKind-F ExprKind Expr → Bool
is_zero_at (ExprKind-F.Const n) = n == 0
is_zero_at _ = false

abbrev pub is_zero : Expr → Bool
is_zero e = is_zero_at (out-ExprKind e.kind)

abbrev pub has_bound : Ty → ℕ → Bool
has_bound ty bound = passes (λ a. a.0 == bound) (array_under ty)

-- an array's name stands for its first element within its own bound; the bound of `&a[0]` is one more
abbrev pub is_first : Expr → Expr → ℕ → Bool
is_first array index bound = is_zero index && has_bound array.ty bound

-- the global array whose name it is
abbrev pub array_named : Expr → Expr → Option ℕ → Option ℕ
array_named array index None = None
array_named array index (Some bound) = cond (is_first array index bound) (global_of array) None

-- a null pointer is the one constant of a pointer's type
abbrev pub word_at : ExprKind-F ExprKind Expr → Option ℕ
word_at (ExprKind-F.Const n) = Some n
word_at (ExprKind-F.Global g) = Some (pointer_to g)
word_at (ExprKind-F.Index array index size bound) = option_map pointer_to (array_named array index bound)
word_at _ = None

-- the word that an initialiser stands for, if it may stand at file scope
unfoldable pub word_of : Expr → Option ℕ
word_of e = word_at (out-ExprKind e.kind)

-- objects ----------------------------------------------------------------------

-- the word of one initialiser, at its offset
unfoldable pub init_word : ℕ × Expr → Option (ℕ × ℕ)
init_word i = option_map (λ w. (i.0, w)) (word_of i.1)

-- the words of all, if each has one
unfoldable pub words_of : List (ℕ × Expr) → Option (List (ℕ × ℕ))
words_of [] = Some []
words_of (i ∷ is) = both (λ w ws. w ∷ ws) (init_word i) (words_of is)

-- the same where each initialiser was made
abbrev pub global_words : Inits → Option (List (ℕ × ℕ))
global_words is = cond is.whole (words_of is.made) None
