-- When a program is well typed.
use Rattle.std.specs.Prelude.{ℕ, ◌-◌, ◌/◌, ◌%◌, ◌+◌, ◌^◌, Bool, true, false, ◌&&◌, ◌||◌, ◌==◌, nat_lt, nat_le, is_some, List, [], ◌∷◌, ◌++◌, length, map, take, sum_by, Option, slice_get}
use Rattle.xc_tree.specs.declared.ty.Ty.{Ty, Int}
use Rattle.xc_tree.specs.declared.tree.Local.{Local}
use Rattle.xc_tree.specs.declared.tree.Object.{Object}
use Rattle.xc_tree.specs.declared.tree.Func.{Func}
use Rattle.xc_tree.specs.Lists.{every, distinct, indices, joined, passes}
use Rattle.xc_tree.specs.Types.{Shape, struct_shapes, structs_ok, is_object, size_of, cell_of, same_ty, is_void, is_number, is_plain, is_qualified, base, pointee, array_of}
use Rattle.xc_tree.specs.Formats.{integers_taken}
use Rattle.xc_tree.specs.Walk.{loop_ids, declared}
use Rattle.xc_tree.specs.Typed.{Context, context}
use Rattle.xc_tree.specs.Statements.{stmt_ok, leaving, body_ok, sees_ok}

-- functions --------------------------------------------------------------

-- what has no address is a plain scalar
abbrev pub local_ok : Context → Local → Bool
local_ok cx l = is_object cx.shapes l.ty && (l.addressed || is_plain l.ty)

-- a parameter is a scalar
abbrev pub param_ok : Local → Bool
param_ok l = is_some (base l.ty)

abbrev pub ret_ok : Context → Ty → Bool
ret_ok cx ty = is_void ty || (is_plain ty && is_object cx.shapes ty)

-- each local is declared once, before it is named
abbrev pub func_tests : Context → Func → List Bool
func_tests cx f = stmt_ok cx f.body
    ∷ body_ok (leaving f.body) f.ret
    ∷ sees_ok f.body (indices f.params)
    ∷ distinct (indices f.params ++ declared f.body)
    ∷ every (map (local_ok cx) f.locals)
    ∷ every (map param_ok (take f.params f.locals))
    ∷ ret_ok cx f.ret
    ∷ nat_le f.params (length f.locals)
    ∷ nat_lt (length f.locals) (2 ^ 32)
    ∷ []

unfoldable pub func_ok : List (List Ty) → List Object → List Func → List (List ℕ) → Func → Bool
func_ok structs globals funcs formats f = every (func_tests (context structs globals funcs formats f.locals) f)

-- globals ----------------------------------------------------------------

-- the object, or the first element of the array
abbrev pub may_point : Ty → Ty → Bool
may_point to object = same_ty to object || passes (λ a. same_ty to a.1) (array_of object)

-- a number, null, or the word of a global that the pointer may point to: global g is segment g + 1
abbrev pub word_ok : List Object → ℕ → Ty → Bool
word_ok globals word ty = is_number ty || (word == 0 || (word % 2 ^ 32 == 0
    && passes (λ g. passes (λ to. may_point to g.ty) (pointee ty)) (slice_get globals (word / 2 ^ 32 - 1))))

-- only a qualified cell may be empty, and holds 0 then
abbrev pub cell_ok : List Object → Ty → ℕ × Bool → Bool
cell_ok globals ty c = (c.1 || (is_qualified ty && c.0 == 0)) && passes (word_ok globals c.0) (base ty)

abbrev pub cells_from : List Object → (ℕ → Option Ty) → ℕ → List (ℕ × Bool) → Bool
cells_from globals cell k [] = true
cells_from globals cell k (c ∷ cs) = passes (λ ty. cell_ok globals ty c) (cell k) && cells_from globals cell (k + 1) cs

-- each first cell is one of the object
unfoldable pub global_ok : List Shape → List Object → Object → Bool
global_ok shapes globals g = is_object shapes g.ty && cells_from globals (cell_of shapes g.ty) 0 g.init

-- together they have at most 2^22 cells
unfoldable pub globals_fit : List Shape → List Object → Bool
globals_fit shapes globals = nat_le (sum_by (λ g. size_of shapes g.ty) globals) (2 ^ 22)

-- the program ------------------------------------------------------------

abbrev pub format_ok : List ℕ → Bool
format_ok bytes = is_some (integers_taken bytes)

abbrev pub all_ids : List Func → List ℕ
all_ids funcs = joined (map (λ f. loop_ids f.body) funcs)

-- a program begins with `int main(void)`
abbrev pub main_ok : Option Func → Bool
main_ok f = passes (λ f. f.params == 0 && same_ty f.ret Int) f

abbrev pub tree_tests : List (List Ty) → List Object → List Func → List (List ℕ) → ℕ → ℕ → List Bool
tree_tests structs globals funcs formats loops main =
    every (map (func_ok structs globals funcs formats) funcs)
    ∷ every (map (global_ok (struct_shapes structs) globals) globals)
    ∷ globals_fit (struct_shapes structs) globals
    ∷ structs_ok structs
    ∷ every (map format_ok formats)
    ∷ every (map (λ id. nat_lt id loops) (all_ids funcs))
    ∷ distinct (all_ids funcs)
    ∷ nat_lt main (length funcs)
    ∷ main_ok (slice_get funcs main)
    ∷ nat_lt (length funcs) (2 ^ 32)
    ∷ nat_lt (length structs) (2 ^ 32)
    ∷ nat_lt (length formats) (2 ^ 32)
    ∷ []

unfoldable pub tree_ok : List (List Ty) → List Object → List Func → List (List ℕ) → ℕ → ℕ → Bool
tree_ok structs globals funcs formats loops main = every (tree_tests structs globals funcs formats loops main)
