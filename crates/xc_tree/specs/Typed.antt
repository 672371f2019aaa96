-- When an expression is well typed (C99 6.5). Its type is that of its value; a place is a value of type Ptr.
use Rattle.std.specs.Prelude.{ℕ, ◌+◌, ◌-◌, Bool, true, false, ◌&&◌, ◌||◌, ◌==◌, not, nat_lt, nat_le, cond, List, [], ◌∷◌, length, map, take, Option, Some, None, slice_get, option_map, option_and_then}
use Rattle.xc_tree.specs.declared.operator.BinOp.{BinOp}
use Rattle.xc_tree.specs.declared.operator.BinOp.TheVariants as op
use Rattle.xc_tree.specs.declared.operator.UnOp.{UnOp}
use Rattle.xc_tree.specs.declared.operator.UnOp.TheVariants as unary
use Rattle.xc_tree.specs.declared.ty.Ty.{Ty, Int}
use Rattle.xc_tree.specs.declared.expr.Expr.{Expr}
use Rattle.xc_tree.specs.declared.expr.ExprKind.TheOpen.{ExprKind-F}
use Rattle.xc_tree.specs.declared.expr.ExprKind.TheFolds.{fold-Expr}
use Rattle.xc_tree.specs.declared.tree.Local.{Local}
use Rattle.xc_tree.specs.declared.tree.Object.{Object}
use Rattle.xc_tree.specs.declared.tree.Func.{Func}
use Rattle.xc_tree.specs.Lists.{every, passes}
use Rattle.xc_tree.specs.Types.{Shape, struct_shapes, shape_of, size_of, is_object, is_mixed, same_ty, is_void, is_number, is_pointer, is_plain, both_numbers, fits, may_hold, common_type, pointee, content, array_under, struct_under}
use Rattle.xc_tree.specs.Kinds.{is_read, is_write, same_write, write_kind}
use Rattle.xc_tree.specs.Formats.{integers_taken}

-- what an expression may name
pub record Context : Type 0 where
  pub structs : List (List Ty)
  pub shapes : List Shape
  pub globals : List Object
  pub funcs : List Func
  pub formats : List (List ℕ)
  pub locals : List Local

abbrev pub context : List (List Ty) → List Object → List Func → List (List ℕ) → List Local → Context
context structs globals funcs formats locals = record { structs = structs; shapes = struct_shapes structs; globals = globals; funcs = funcs; formats = formats; locals = locals }

-- what is known of a part: its type, whether it is a variable itself, whether it is a place in a struct
-- that mixes a pointer with cells of another type, and whether it is well typed
pub record Part : Type 0 where
  pub ty : Ty
  pub variable : Bool
  pub within : Bool
  pub ok : Bool

-- the same of a form whose type is still to be given
pub record Row : Type 0 where
  pub variable : Bool
  pub within : Bool
  pub ok : Ty → Bool

abbrev pub part_ok : Part → Bool
part_ok p = p.ok

-- a place within a mixed struct is no value: no pointer leads there
abbrev pub is_value : Part → Bool
is_value p = not p.within

-- names ------------------------------------------------------------------

-- a local that has no address, and its type
abbrev pub is_variable_of : Ty → Option Local → Bool
is_variable_of ty l = passes (λ l. not l.addressed && same_ty l.ty ty) l

-- a pointer to an object of this type
abbrev pub leads_to : Option Ty → Ty → Bool
leads_to t ty = passes (λ t. passes (same_ty t) (pointee ty)) t

abbrev pub addressed_type : Option Local → Option Ty
addressed_type None = None
addressed_type (Some l) = cond l.addressed (Some l.ty) None

abbrev pub global_type : Option Object → Option Ty
global_type g = option_map (λ g. g.ty) g

-- places -----------------------------------------------------------------

-- an index gives the place of an element: by a pointer, or in an array with its bound, one more for `&`
abbrev pub element_ok : List Shape → Part → Option ℕ → ℕ → Ty → Bool
element_ok shapes from None size ty = same_ty from.ty ty && passes (λ t. size == size_of shapes t) (pointee ty)
element_ok shapes from (Some bound) size ty = passes (λ a. passes (same_ty a.1) (pointee ty)
    && ((bound == a.0 || (is_value from && bound == a.0 + 1)) && size == size_of shapes a.1)) (array_under from.ty)

-- a member of this type begins at this offset
abbrev pub member_at : List Shape → ℕ → Ty → List Ty → Bool
member_at shapes off ty [] = false
member_at shapes off ty (m ∷ ms) = (off == 0 && same_ty m ty)
    || (nat_le (size_of shapes m) off && member_at shapes (off - size_of shapes m) ty ms)

abbrev pub members_under : List (List Ty) → Ty → Option (List Ty)
members_under structs from = option_and_then (slice_get structs) (struct_under from)

abbrev pub member_ok : List Shape → Option (List Ty) → ℕ → Ty → Bool
member_ok shapes members off ty = passes (λ ms. passes (λ t. member_at shapes off t ms) (pointee ty)) members

-- the pointer leads to a mixed struct
abbrev pub mixed_under : List Shape → Ty → Bool
mixed_under shapes ty = passes (λ t. is_mixed (shape_of shapes t).kinds) (pointee ty)

abbrev pub within_mixed : Context → ExprKind-F Row Part → Bool
within_mixed cx (ExprKind-F.Index base index size (Some bound)) = base.within
within_mixed cx (ExprKind-F.Member base off) = base.within || mixed_under cx.shapes base.ty
within_mixed cx _ = false

-- accesses ---------------------------------------------------------------

-- the part is the place of a scalar whose type, without its qualifier, is as told
abbrev pub is_place : Part → (Ty → Bool) → Bool
is_place place p = passes p (content place.ty)

-- operators --------------------------------------------------------------

-- operators with one rule
pub data Sort : Type 0 where
  sum : Sort
  difference : Sort
  shift : Sort
  comparison : Sort
  number : Sort

abbrev pub sort_of : BinOp → Sort
sort_of op.Add = sum
sort_of op.Sub = difference
sort_of op.Shl = shift
sort_of op.Shr = shift
sort_of op.Lt = comparison
sort_of op.Gt = comparison
sort_of op.Le = comparison
sort_of op.Ge = comparison
sort_of op.Eq = comparison
sort_of op.Ne = comparison
sort_of op.Mul = number
sort_of op.Div = number
sort_of op.Rem = number
sort_of op.BitAnd = number
sort_of op.BitXor = number
sort_of op.BitOr = number

-- the operands may stand there, and the whole has this type
abbrev pub binary_ok : Sort → Ty → Ty → Ty → Bool
binary_ok sum a b ty = (both_numbers a b && same_ty ty (common_type a b))
    || ((is_pointer a && is_number b && same_ty ty a) || (is_number a && is_pointer b && same_ty ty b))
binary_ok difference a b ty = (both_numbers a b && same_ty ty (common_type a b))
    || (is_pointer a && ((is_number b && same_ty ty a) || (same_ty a b && same_ty ty Int)))
binary_ok shift a b ty = both_numbers a b && same_ty ty a
binary_ok comparison a b ty = fits a b && same_ty ty Int
binary_ok number a b ty = both_numbers a b && same_ty ty (common_type a b)

-- an object of this type may be updated by an operator and a number
abbrev pub update_ok : Sort → Ty → Bool
update_ok comparison ty = false
update_ok sum ty = is_plain ty
update_ok difference ty = is_plain ty
update_ok _ ty = is_number ty

abbrev pub unary_ok : UnOp → Ty → Ty → Bool
unary_ok unary.Neg of ty = is_number of && same_ty ty of
unary_ok unary.Complement of ty = is_number of && same_ty ty of
unary_ok unary.Not of ty = is_plain of && same_ty ty Int
unary_ok unary.Cast of ty = both_numbers of ty

-- calls ------------------------------------------------------------------

-- the parameters may hold the arguments, and are as many
abbrev pub args_fit : List Local → List Part → Bool
args_fit [] [] = true
args_fit (p ∷ ps) [] = false
args_fit [] (a ∷ rest) = false
args_fit (p ∷ ps) (a ∷ rest) = may_hold p.ty a.ty && args_fit ps rest

abbrev pub call_ok : Option Func → List Part → Ty → Bool
call_ok f args ty = passes (λ f. same_ty ty f.ret && args_fit (take f.params f.locals) args) f

abbrev pub print_ok : Option (List ℕ) → List Part → Bool
print_ok format args = every (map (λ a. is_number a.ty) args)
    && (nat_le (length args) 8 && passes (λ bytes. passes (λ n. n == length args) (integers_taken bytes)) format)

-- the judgement ----------------------------------------------------------

abbrev pub parts : ExprKind-F Row Part → List Part
parts (ExprKind-F.Const n) = []
parts (ExprKind-F.Local x) = []
parts (ExprKind-F.Set x value) = value ∷ []
parts (ExprKind-F.Global g) = []
parts (ExprKind-F.Auto x) = []
parts (ExprKind-F.Index base index size bound) = base ∷ index ∷ []
parts (ExprKind-F.Member base off) = base ∷ []
parts (ExprKind-F.Read k place) = place ∷ []
parts (ExprKind-F.Write k place value) = place ∷ value ∷ []
parts (ExprKind-F.FetchAdd place value) = place ∷ value ∷ []
parts (ExprKind-F.Purge place) = place ∷ []
parts (ExprKind-F.Update o post place value) = place ∷ value ∷ []
parts (ExprKind-F.Unary o of) = of ∷ []
parts (ExprKind-F.Binary o a b) = a ∷ b ∷ []
parts (ExprKind-F.And a b) = a ∷ b ∷ []
parts (ExprKind-F.Or a b) = a ∷ b ∷ []
parts (ExprKind-F.Cond test then other) = test ∷ then ∷ other ∷ []
parts (ExprKind-F.Comma a b) = a ∷ b ∷ []
parts (ExprKind-F.Call f args) = args
parts (ExprKind-F.Print format args) = args

-- the parts whose value is used, and that are not only the place of an access or of a part of it
abbrev pub operands : ExprKind-F Row Part → List Part
operands (ExprKind-F.Index base index size (Some bound)) = index ∷ []
operands (ExprKind-F.Member base off) = []
operands (ExprKind-F.Read k place) = []
operands (ExprKind-F.Write k place value) = value ∷ []
operands (ExprKind-F.FetchAdd place value) = value ∷ []
operands (ExprKind-F.Purge place) = []
operands (ExprKind-F.Update o post place value) = value ∷ []
operands k = parts k

-- each number names something
abbrev pub named : Context → ExprKind-F Row Part → Bool
named cx (ExprKind-F.Local x) = nat_lt x (length cx.locals)
named cx (ExprKind-F.Set x value) = nat_lt x (length cx.locals)
named cx (ExprKind-F.Auto x) = nat_lt x (length cx.locals)
named cx (ExprKind-F.Global g) = nat_lt g (length cx.globals)
named cx (ExprKind-F.Call f args) = nat_lt f (length cx.funcs)
named cx (ExprKind-F.Print format args) = nat_lt format (length cx.formats)
named cx _ = true

-- the rule of one form, at the type of the whole
unfoldable pub rule : Context → ExprKind-F Row Part → Ty → Bool
rule cx (ExprKind-F.Const n) ty = is_number ty || (is_pointer ty && (is_object cx.shapes ty && n == 0))
rule cx (ExprKind-F.Local x) ty = is_variable_of ty (slice_get cx.locals x)
rule cx (ExprKind-F.Set x value) ty = is_variable_of ty (slice_get cx.locals x) && fits ty value.ty
rule cx (ExprKind-F.Global g) ty = leads_to (global_type (slice_get cx.globals g)) ty
rule cx (ExprKind-F.Auto x) ty = leads_to (addressed_type (slice_get cx.locals x)) ty
rule cx (ExprKind-F.Index base index size bound) ty = is_number index.ty && element_ok cx.shapes base bound size ty
rule cx (ExprKind-F.Member base off) ty = member_ok cx.shapes (members_under cx.structs base.ty) off ty
rule cx (ExprKind-F.Read k place) ty = is_read k && is_place place (λ t. same_ty t ty)
rule cx (ExprKind-F.Write k place value) ty = is_write k
    && is_place place (λ t. fits t value.ty && (is_void ty || (same_ty t ty && same_write k (write_kind place.ty))))
rule cx (ExprKind-F.FetchAdd place value) ty = is_place place (λ t. both_numbers t value.ty && same_ty t ty)
rule cx (ExprKind-F.Purge place) ty = is_place place (λ t. is_void ty)
rule cx (ExprKind-F.Update o post place value) ty = is_number value.ty && (update_ok (sort_of o) ty
    && cond place.variable (same_ty place.ty ty) (is_place place (λ t. same_ty t ty)))
rule cx (ExprKind-F.Unary o of) ty = unary_ok o of.ty ty
rule cx (ExprKind-F.Binary o a b) ty = binary_ok (sort_of o) a.ty b.ty ty
rule cx (ExprKind-F.And a b) ty = is_plain a.ty && (is_plain b.ty && same_ty ty Int)
rule cx (ExprKind-F.Or a b) ty = is_plain a.ty && (is_plain b.ty && same_ty ty Int)
rule cx (ExprKind-F.Cond test then other) ty = is_plain test.ty
    && ((same_ty then.ty other.ty || both_numbers then.ty other.ty) && same_ty ty (common_type then.ty other.ty))
rule cx (ExprKind-F.Comma a b) ty = same_ty ty b.ty
rule cx (ExprKind-F.Call f args) ty = call_ok (slice_get cx.funcs f) args ty
rule cx (ExprKind-F.Print format args) ty = print_ok (slice_get cx.formats format) args && is_void ty

-- no place within a mixed struct is used as a value
unfoldable pub are_values : List Part → Bool
are_values ps = every (map is_value ps)

abbrev pub is_variable : ExprKind-F Row Part → Bool
is_variable (ExprKind-F.Local x) = true
is_variable _ = false

abbrev pub kind_step : Context → ExprKind-F Row Part → Row
kind_step cx k = record {
  variable = is_variable k;
  within = within_mixed cx k;
  ok = λ ty. every (map part_ok (parts k)) && (named cx k && (are_values (operands k) && rule cx k ty));
}

abbrev pub part_of : Context → Expr → Part
part_of cx = fold-Expr Row Part (kind_step cx)
    (λ e. record { ty = e.ty; variable = e.kind.variable; within = e.kind.within; ok = e.kind.ok e.ty })

-- the expression is well typed
abbrev pub expr_ok : Context → Expr → Bool
expr_ok cx e = (part_of cx e).ok

-- the same, where its value is used
abbrev pub value_ok : Context → Expr → Bool
value_ok cx e = expr_ok cx e && is_value (part_of cx e)
