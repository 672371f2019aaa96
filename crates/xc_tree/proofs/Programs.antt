-- Programs that the invariant refuses, each beside one that it takes.
use Rattle.std.proofs.Common.{rules, ℕ, List, [], ◌∷◌, Bool, true, false}
use Rattle.std.specs.Prelude.{Some, codes, ◌+◌, ◌*◌, ◌^◌}
use Rattle.xc_tree.specs.declared.ty.Ty.{Ty, Void, Int, Uint, Ptr, Array, Struct, Sync}
use Rattle.xc_tree.specs.declared.stmt.Stmt.{Stmt}
use Rattle.xc_tree.specs.declared.stmt.StmtKind.{Declare, Return, Break}
use Rattle.xc_tree.specs.declared.tree.Local.{Local}
use Rattle.xc_tree.specs.declared.tree.Object.{Object}
use Rattle.xc_tree.specs.declared.tree.Func.{Func}
use Rattle.xc_tree.specs.Lists.{distinct, ascending, same_numbers}
use Rattle.xc_tree.specs.Types.{structs_ok, shapes_within, is_mixed}
use Rattle.xc_tree.specs.Formats.{taken_from}
use Rattle.xc_tree.specs.Typed.{rule, are_values}
use Rattle.xc_tree.specs.Statements.{pragmas_ok}
use Rattle.xc_tree.specs.Valid.{func_ok, global_ok, globals_fit, tree_ok}
use Rattle.xc_tree.proofs.Samples.{opened_all, Parts, does, block, value, object, global, number, variable, pragmas, repeats, function, one}

abbrev nothing : Stmt
nothing = block []

abbrev main_of : List Local → List Stmt → Func
main_of locals all = function 0 locals Int (block all)

abbrev main : Func
main = main_of [] []

-- `main` has these statements, and there are so many loops
abbrev program : List Stmt → ℕ → Bool
program all loops = tree_ok [] [] (main_of [] all ∷ []) [] loops 0

-- `main` is the function with this number
abbrev begins : List Func → ℕ → Bool
begins funcs first = tree_ok [] [] funcs [] 0 first

abbrev with_func : Func → Bool
with_func f = begins (main ∷ f ∷ []) 0

abbrev with_locals : List Local → List Stmt → Bool
with_locals locals all = begins (main_of locals all ∷ []) 0

abbrev with_globals : List Object → Bool
with_globals gs = tree_ok [] gs (main ∷ []) [] 0 0

abbrev with_structs : List (List Ty) → Bool
with_structs ss = tree_ok ss [] (main ∷ []) [] 0 0

abbrev with_format : List ℕ → Bool
with_format bytes = tree_ok [] [] (main ∷ []) (bytes ∷ []) 0 0

abbrev empty_loop : ℕ → Stmt
empty_loop id = repeats id (pragmas 8) (does Break)

-- the statements of a body
body_is_typed : Parts (with_locals (value Int ∷ []) (does (Declare 0 []) ∷ []))
    (with_locals (value Int ∷ []) (does (Declare 0 ((1, number 1) ∷ [])) ∷ []))
unfolding rule are_values shapes_within is_mixed taken_from tree_ok func_ok global_ok globals_fit structs_ok distinct same_numbers pragmas_ok ascending
body_is_typed = search (rules, opened_all)

-- what a body leaves
body_leaves : Parts (program (does (Return (Some (number 0))) ∷ []) 0)
    (program (does Break ∷ []) 0)
unfolding rule are_values shapes_within is_mixed taken_from tree_ok func_ok global_ok globals_fit structs_ok distinct same_numbers pragmas_ok ascending
body_leaves = search (rules, opened_all)

-- a body is a block
body_is_block : Parts (with_func (function 0 [] Int (block (does (Return (Some (number 0))) ∷ []))))
    (with_func (function 0 [] Int (does (Return (Some (number 0))))))
unfolding rule are_values shapes_within is_mixed taken_from tree_ok func_ok global_ok globals_fit structs_ok distinct same_numbers pragmas_ok ascending
body_is_block = search (rules, opened_all)

-- what a body sees
body_sees_parameters : Parts (with_func one)
    (with_func (function 0 (value Int ∷ []) Int (block (does (Return (Some (variable 0))) ∷ []))))
unfolding rule are_values shapes_within is_mixed taken_from tree_ok func_ok global_ok globals_fit structs_ok distinct same_numbers pragmas_ok ascending
body_sees_parameters = search (rules, opened_all)

-- the ids of two loops
distinct_ids : Parts (program (empty_loop 0 ∷ empty_loop 1 ∷ []) 2)
    (program (empty_loop 1 ∷ empty_loop 1 ∷ []) 2)
unfolding rule are_values shapes_within is_mixed taken_from tree_ok func_ok global_ok globals_fit structs_ok distinct same_numbers pragmas_ok ascending
distinct_ids = search (rules, opened_all)

-- the id of a loop
id_in_range : Parts (program (empty_loop 1 ∷ []) 2)
    (program (empty_loop 2 ∷ []) 2)
unfolding rule are_values shapes_within is_mixed taken_from tree_ok func_ok global_ok globals_fit structs_ok distinct same_numbers pragmas_ok ascending
id_in_range = search (rules, opened_all)

-- a struct in a struct
struct_in_struct : Parts (with_structs ((Struct 1 ∷ []) ∷ (Int ∷ []) ∷ []))
    (with_structs ((Int ∷ Struct 0 ∷ []) ∷ []))
unfolding rule are_values shapes_within is_mixed taken_from tree_ok func_ok global_ok globals_fit structs_ok distinct same_numbers pragmas_ok ascending
struct_in_struct = search (rules, opened_all)

-- the number of a struct
known_struct : Parts (with_structs ((Ptr (Struct 0) ∷ []) ∷ []))
    (with_structs ((Ptr (Struct 1) ∷ []) ∷ []))
unfolding rule are_values shapes_within is_mixed taken_from tree_ok func_ok global_ok globals_fit structs_ok distinct same_numbers pragmas_ok ascending
known_struct = search (rules, opened_all)

-- a struct has members
struct_with_members : Parts (with_structs ((Int ∷ []) ∷ []))
    (with_structs ([] ∷ []))
unfolding rule are_values shapes_within is_mixed taken_from tree_ok func_ok global_ok globals_fit structs_ok distinct same_numbers pragmas_ok ascending
struct_with_members = search (rules, opened_all)

-- the cells of a struct
cells_of_struct : Parts (with_structs ((Array (2 ^ 22) Int ∷ []) ∷ []))
    (with_structs ((Array (2 ^ 22) Int ∷ Int ∷ []) ∷ []))
unfolding rule are_values shapes_within is_mixed taken_from tree_ok func_ok global_ok globals_fit structs_ok distinct same_numbers pragmas_ok ascending
cells_of_struct = search (rules, opened_all)

-- a text of `printf`
readable_format : Parts (with_format (codes "a %llu%%"))
    (with_format (codes "%x"))
unfolding rule are_values shapes_within is_mixed taken_from tree_ok func_ok global_ok globals_fit structs_ok distinct same_numbers pragmas_ok ascending
readable_format = search (rules, opened_all)

-- a conversion that ends
whole_conversion : Parts (with_format (codes "%d%i%u"))
    (with_format (codes "%d%"))
unfolding rule are_values shapes_within is_mixed taken_from tree_ok func_ok global_ok globals_fit structs_ok distinct same_numbers pragmas_ok ascending
whole_conversion = search (rules, opened_all)

-- a conversion has at most two `l`
two_letters : Parts (with_format (codes "%lld"))
    (with_format (codes "%llld"))
unfolding rule are_values shapes_within is_mixed taken_from tree_ok func_ok global_ok globals_fit structs_ok distinct same_numbers pragmas_ok ascending
two_letters = search (rules, opened_all)

-- the number of `main`
main_number : Parts (begins (one ∷ main ∷ []) 1)
    (begins (one ∷ main ∷ []) 2)
unfolding rule are_values shapes_within is_mixed taken_from tree_ok func_ok global_ok globals_fit structs_ok distinct same_numbers pragmas_ok ascending
main_number = search (rules, opened_all)

-- `main` has no parameter
main_without_parameters : Parts (begins (one ∷ main ∷ []) 1)
    (begins (one ∷ main ∷ []) 0)
unfolding rule are_values shapes_within is_mixed taken_from tree_ok func_ok global_ok globals_fit structs_ok distinct same_numbers pragmas_ok ascending
main_without_parameters = search (rules, opened_all)

-- `main` answers an Int
main_answers_int : Parts (begins (function 0 [] Int nothing ∷ []) 0)
    (begins (function 0 [] Void nothing ∷ []) 0)
unfolding rule are_values shapes_within is_mixed taken_from tree_ok func_ok global_ok globals_fit structs_ok distinct same_numbers pragmas_ok ascending
main_answers_int = search (rules, opened_all)

-- a parameter is a scalar
parameter_is_scalar : Parts (with_func (function 1 (value (Ptr Int) ∷ []) Int nothing))
    (with_func (function 1 (object (Array 4 Int) ∷ []) Int nothing))
unfolding rule are_values shapes_within is_mixed taken_from tree_ok func_ok global_ok globals_fit structs_ok distinct same_numbers pragmas_ok ascending
parameter_is_scalar = search (rules, opened_all)

-- each parameter is a local
parameters_are_locals : Parts (with_func (function 1 (value Int ∷ []) Int nothing))
    (with_func (function 2 (value Int ∷ []) Int nothing))
unfolding rule are_values shapes_within is_mixed taken_from tree_ok func_ok global_ok globals_fit structs_ok distinct same_numbers pragmas_ok ascending
parameters_are_locals = search (rules, opened_all)

-- the type of a result
result_is_scalar : Parts (with_func (function 0 [] (Ptr Int) nothing))
    (with_func (function 0 [] (Array 4 Int) nothing))
unfolding rule are_values shapes_within is_mixed taken_from tree_ok func_ok global_ok globals_fit structs_ok distinct same_numbers pragmas_ok ascending
result_is_scalar = search (rules, opened_all)

-- a result has no qualifier
result_is_plain : Parts (with_func (function 0 [] Void nothing))
    (with_func (function 0 [] (Sync Int) nothing))
unfolding rule are_values shapes_within is_mixed taken_from tree_ok func_ok global_ok globals_fit structs_ok distinct same_numbers pragmas_ok ascending
result_is_plain = search (rules, opened_all)

-- a local is declared once
declared_once : Parts (with_locals (value Int ∷ value Int ∷ []) (does (Declare 0 []) ∷ does (Declare 1 []) ∷ []))
    (with_locals (value Int ∷ []) (does (Declare 0 []) ∷ does (Declare 0 []) ∷ []))
unfolding rule are_values shapes_within is_mixed taken_from tree_ok func_ok global_ok globals_fit structs_ok distinct same_numbers pragmas_ok ascending
declared_once = search (rules, opened_all)

-- a parameter is not declared again
parameter_declared_once : Parts (with_func (function 1 (value Int ∷ value Int ∷ []) Int (block (does (Declare 1 []) ∷ []))))
    (with_func (function 1 (value Int ∷ value Int ∷ []) Int (block (does (Declare 0 []) ∷ []))))
unfolding rule are_values shapes_within is_mixed taken_from tree_ok func_ok global_ok globals_fit structs_ok distinct same_numbers pragmas_ok ascending
parameter_declared_once = search (rules, opened_all)

-- an array has an address
array_has_address : Parts (with_locals (object (Array 4 Int) ∷ []) [])
    (with_locals (value (Array 4 Int) ∷ []) [])
unfolding rule are_values shapes_within is_mixed taken_from tree_ok func_ok global_ok globals_fit structs_ok distinct same_numbers pragmas_ok ascending
array_has_address = search (rules, opened_all)

-- a qualified object has an address
qualified_has_address : Parts (with_locals (object (Sync Int) ∷ []) [])
    (with_locals (value (Sync Int) ∷ []) [])
unfolding rule are_values shapes_within is_mixed taken_from tree_ok func_ok global_ok globals_fit structs_ok distinct same_numbers pragmas_ok ascending
qualified_has_address = search (rules, opened_all)

-- the type of an object
object_of_type : Parts (with_locals (value (Ptr Int) ∷ []) [])
    (with_locals (value (Ptr Void) ∷ []) [])
unfolding rule are_values shapes_within is_mixed taken_from tree_ok func_ok global_ok globals_fit structs_ok distinct same_numbers pragmas_ok ascending
object_of_type = search (rules, opened_all)

-- what a qualifier qualifies
qualified_scalar : Parts (with_globals (global (Sync (Ptr Int)) [] ∷ []))
    (with_globals (global (Sync (Array 4 Int)) [] ∷ []))
unfolding rule are_values shapes_within is_mixed taken_from tree_ok func_ok global_ok globals_fit structs_ok distinct same_numbers pragmas_ok ascending
qualified_scalar = search (rules, opened_all)

-- the bound of an array
bound_from_one : Parts (with_globals (global (Array 1 Int) [] ∷ []))
    (with_globals (global (Array 0 Int) [] ∷ []))
unfolding rule are_values shapes_within is_mixed taken_from tree_ok func_ok global_ok globals_fit structs_ok distinct same_numbers pragmas_ok ascending
bound_from_one = search (rules, opened_all)

-- the cells of an object
most_cells : Parts (with_globals (global (Array (2 ^ 22) Int) [] ∷ []))
    (with_globals (global (Array (2 ^ 22 + 1) Int) [] ∷ []))
unfolding rule are_values shapes_within is_mixed taken_from tree_ok func_ok global_ok globals_fit structs_ok distinct same_numbers pragmas_ok ascending
most_cells = search (rules, opened_all)

-- the cells of all globals
most_global_cells : Parts (with_globals (global (Array (2 ^ 22) Int) [] ∷ []))
    (with_globals (global (Array (2 ^ 22) Int) [] ∷ global Int [] ∷ []))
unfolding rule are_values shapes_within is_mixed taken_from tree_ok func_ok global_ok globals_fit structs_ok distinct same_numbers pragmas_ok ascending
most_global_cells = search (rules, opened_all)

-- an object has no more first cells than it has cells
cells_of_object : Parts (with_globals (global (Array 2 Int) ((1, true) ∷ (2, true) ∷ []) ∷ []))
    (with_globals (global Int ((1, true) ∷ (2, true) ∷ []) ∷ []))
unfolding rule are_values shapes_within is_mixed taken_from tree_ok func_ok global_ok globals_fit structs_ok distinct same_numbers pragmas_ok ascending
cells_of_object = search (rules, opened_all)

-- a cell without a qualifier is full
empty_is_qualified : Parts (with_globals (global (Sync Int) ((0, false) ∷ []) ∷ []))
    (with_globals (global Int ((0, false) ∷ []) ∷ []))
unfolding rule are_values shapes_within is_mixed taken_from tree_ok func_ok global_ok globals_fit structs_ok distinct same_numbers pragmas_ok ascending
empty_is_qualified = search (rules, opened_all)

-- an empty cell holds 0
empty_is_zero : Parts (with_globals (global (Sync Int) ((5, true) ∷ []) ∷ []))
    (with_globals (global (Sync Int) ((5, false) ∷ []) ∷ []))
unfolding rule are_values shapes_within is_mixed taken_from tree_ok func_ok global_ok globals_fit structs_ok distinct same_numbers pragmas_ok ascending
empty_is_zero = search (rules, opened_all)

-- the word of a pointer at file scope
pointer_to_global : Parts (with_globals (global Int [] ∷ global (Ptr Int) ((2 ^ 32, true) ∷ []) ∷ []))
    (with_globals (global Int [] ∷ global (Ptr Int) ((3 * 2 ^ 32, true) ∷ []) ∷ []))
unfolding rule are_values shapes_within is_mixed taken_from tree_ok func_ok global_ok globals_fit structs_ok distinct same_numbers pragmas_ok ascending
pointer_to_global = search (rules, opened_all)

-- a pointer at file scope leads to the start of a global
pointer_to_start : Parts (with_globals (global (Array 4 Int) [] ∷ global (Ptr Int) ((2 ^ 32, true) ∷ []) ∷ []))
    (with_globals (global (Array 4 Int) [] ∷ global (Ptr Int) ((2 ^ 32 + 1, true) ∷ []) ∷ []))
unfolding rule are_values shapes_within is_mixed taken_from tree_ok func_ok global_ok globals_fit structs_ok distinct same_numbers pragmas_ok ascending
pointer_to_start = search (rules, opened_all)

-- the type of what it points to
pointer_type : Parts (with_globals (global (Array 4 Int) [] ∷ global (Ptr Int) ((2 ^ 32, true) ∷ []) ∷ []))
    (with_globals (global Uint [] ∷ global (Ptr Int) ((2 ^ 32, true) ∷ []) ∷ []))
unfolding rule are_values shapes_within is_mixed taken_from tree_ok func_ok global_ok globals_fit structs_ok distinct same_numbers pragmas_ok ascending
pointer_type = search (rules, opened_all)
