-- Statements that the invariant refuses, each beside one that it takes.
use Rattle.std.proofs.Common.{rules, ℕ, List, [], ◌∷◌, Bool}
use Rattle.std.specs.Prelude.{Some, None, codes}
use Rattle.xc_word.specs.declared.memory.Kind.TheVariants.{ReadXx}
use Rattle.xc_tree.specs.declared.ty.Ty.{Ty, Void, Int, Uint, Ptr, Array, Future}
use Rattle.xc_tree.specs.declared.expr.Expr.{Expr}
use Rattle.xc_tree.specs.declared.expr.ExprKind.{Const, Local as Variable, Set, Global, Read, Print}
use Rattle.xc_tree.specs.declared.pragmas.Root.TheVariants as root
use Rattle.xc_tree.specs.declared.stmt.Stmt.{Stmt}
use Rattle.xc_tree.specs.declared.stmt.Capture.{Capture}
use Rattle.xc_tree.specs.declared.stmt.StmtKind.{Empty, Declare, Eval, If, Loop, Switch, Return, Break, Continue}
use Rattle.xc_tree.specs.declared.stmt.StmtKind as stmt
use Rattle.xc_tree.specs.declared.stmt.Item.{Item, At, Other, Do}
use Rattle.xc_tree.specs.declared.stmt.LoopForm.TheVariants.{While, For}
use Rattle.xc_tree.specs.Lists.{distinct, ascending}
use Rattle.xc_tree.specs.Types.{shapes_within, is_mixed}
use Rattle.xc_tree.specs.Formats.{taken_from}
use Rattle.xc_tree.specs.Typed.{context, rule, are_values}
use Rattle.xc_tree.specs.Statements.{stmt_ok, at_entry, leaves_ok, sees_ok, pragmas_ok}
use Rattle.xc_tree.proofs.Samples.{opened_all, Parts, at, does, block, value, object, global, number, variable, naming, pragmas, repeats}

abbrev evaluates : Expr → Stmt
evaluates e = does (Eval e)

abbrev declares : ℕ → Stmt
declares k = does (Declare k [])

-- `for (init; ;) body`
abbrev for_ : List Stmt → Stmt → Stmt
for_ init body = does (Loop 0 For init None None body (pragmas 8))

abbrev copies : Expr → List Capture
copies from = record { from = from; local = 1 } ∷ []

-- `future place(..) body`, with the place of global 1 and local 0 copied into local 1
abbrev starts : Ty → Stmt → Stmt
starts ty body = does (stmt.Future (at (Ptr ty) (Global 1)) (copies (variable 0)) (block (body ∷ [])))

-- `switch (local 0)`
abbrev chooses : List Item → Stmt
chooses items = does (Switch (variable 0) items)

-- local 0 is a number, local 1 another one, local 2 a pointer, local 3 an array
abbrev typed : Stmt → Bool
typed s = stmt_ok (context [] (global Int [] ∷ global (Future Int) [] ∷ []) [] (codes "%d" ∷ []) (value Int ∷ value Int ∷ value (Ptr Int) ∷ object (Array 4 Int) ∷ [])) s

-- in a function of type Int
abbrev leaving : Stmt → Bool
leaving s = leaves_ok s (at_entry Int)

-- where local 0 is seen
abbrev seen : Stmt → Bool
seen s = sees_ok s (0 ∷ [])

-- the value of a test
tested_value : Parts (typed (does (If (at (Ptr Int) (Variable 2)) (does Empty) None)))
    (typed (does (If (at Void (Print 0 (number 1 ∷ []))) (does Empty) None)))
unfolding rule are_values shapes_within is_mixed taken_from pragmas_ok ascending
tested_value = search (rules, opened_all)

-- the cell of an initialiser
initialised_cell : Parts (typed (does (Declare 3 ((3, number 1) ∷ []))))
    (typed (does (Declare 3 ((4, number 1) ∷ []))))
unfolding rule are_values shapes_within is_mixed taken_from pragmas_ok ascending
initialised_cell = search (rules, opened_all)

-- the order of initialisers
initialiser_order : Parts (typed (does (Declare 3 ((0, number 1) ∷ (2, number 1) ∷ []))))
    (typed (does (Declare 3 ((2, number 1) ∷ (0, number 1) ∷ []))))
unfolding rule are_values shapes_within is_mixed taken_from pragmas_ok ascending
initialiser_order = search (rules, opened_all)

-- the type of an initialiser
initialiser_type : Parts (typed (does (Declare 0 ((0, number 1) ∷ []))))
    (typed (does (Declare 0 ((0, at (Ptr Int) (Variable 2)) ∷ []))))
unfolding rule are_values shapes_within is_mixed taken_from pragmas_ok ascending
initialiser_type = search (rules, opened_all)

-- the number of a declared local
declared_local : Parts (typed (declares 3))
    (typed (declares 4))
unfolding rule are_values shapes_within is_mixed taken_from pragmas_ok ascending
declared_local = search (rules, opened_all)

-- the value that a `switch` goes by
chosen_number : Parts (typed (does (Switch (at Uint (Const 1)) (At 1 ∷ Do (does Empty) ∷ []))))
    (typed (does (Switch (at (Ptr Int) (Variable 2)) (At 1 ∷ Do (does Empty) ∷ []))))
unfolding rule are_values shapes_within is_mixed taken_from pragmas_ok ascending distinct
chosen_number = search (rules, opened_all)

-- the words of two `case`
different_cases : Parts (typed (chooses (At 1 ∷ At 2 ∷ Do (does Empty) ∷ [])))
    (typed (chooses (At 1 ∷ Do (does Empty) ∷ At 1 ∷ [])))
unfolding rule are_values shapes_within is_mixed taken_from pragmas_ok ascending distinct
different_cases = search (rules, opened_all)

-- one `default`
one_default : Parts (typed (chooses (At 1 ∷ Other ∷ Do (does Empty) ∷ [])))
    (typed (chooses (Other ∷ Do (does Empty) ∷ Other ∷ [])))
unfolding rule are_values shapes_within is_mixed taken_from pragmas_ok ascending distinct
one_default = search (rules, opened_all)

-- the statements of a `switch`
chosen_statement : Parts (typed (chooses (Do (evaluates (number 1)) ∷ [])))
    (typed (chooses (Do (evaluates (variable 9)) ∷ [])))
unfolding rule are_values shapes_within is_mixed taken_from pragmas_ok ascending distinct
chosen_statement = search (rules, opened_all)

-- the streams that are asked for, at least 1
least_streams : Parts (typed (repeats 0 (pragmas 1) (does Break)))
    (typed (repeats 0 (pragmas 0) (does Break)))
unfolding rule are_values shapes_within is_mixed taken_from pragmas_ok ascending
least_streams = search (rules, opened_all)

-- the streams that are asked for, at most 8,192
most_streams : Parts (typed (repeats 0 (pragmas 8192) (does Break)))
    (typed (repeats 0 (pragmas 8193) (does Break)))
unfolding rule are_values shapes_within is_mixed taken_from pragmas_ok ascending
most_streams = search (rules, opened_all)

-- what `nodep` names
nodep_names_object : Parts (typed (repeats 0 (naming 8 (root.Global 1 ∷ []) []) (does Break)))
    (typed (repeats 0 (naming 8 (root.Global 2 ∷ []) []) (does Break)))
unfolding rule are_values shapes_within is_mixed taken_from pragmas_ok ascending
nodep_names_object = search (rules, opened_all)

-- what `noalias` names
noalias_names_pointer : Parts (typed (repeats 0 (naming 8 [] (root.LocalPointer 2 ∷ [])) (does Break)))
    (typed (repeats 0 (naming 8 [] (root.LocalPointer 0 ∷ [])) (does Break)))
unfolding rule are_values shapes_within is_mixed taken_from pragmas_ok ascending
noalias_names_pointer = search (rules, opened_all)

-- `noalias` names no object
noalias_names_no_object : Parts (typed (repeats 0 (naming 8 [] (root.LocalPointer 2 ∷ [])) (does Break)))
    (typed (repeats 0 (naming 8 [] (root.Global 0 ∷ [])) (does Break)))
unfolding rule are_values shapes_within is_mixed taken_from pragmas_ok ascending
noalias_names_no_object = search (rules, opened_all)

-- a pragma names an object
pragma_names_something : Parts (typed (repeats 0 (naming 8 (root.Local 3 ∷ []) []) (does Break)))
    (typed (repeats 0 (naming 8 (root.Other ∷ []) []) (does Break)))
unfolding rule are_values shapes_within is_mixed taken_from pragmas_ok ascending
pragma_names_something = search (rules, opened_all)

-- what a `future` statement copies
copied_variable : Parts (typed (starts (Future Int) (does Empty)))
    (typed (does (stmt.Future (at (Ptr (Future Int)) (Global 1)) (copies (number 7)) (does Empty))))
unfolding rule are_values shapes_within is_mixed taken_from pragmas_ok ascending
copied_variable = search (rules, opened_all)

-- a copy is of a plain object
copied_global : Parts (typed (does (stmt.Future (at (Ptr (Future Int)) (Global 1)) (copies (at Int (Read ReadXx (at (Ptr Int) (Global 0))))) (does Empty))))
    (typed (does (stmt.Future (at (Ptr (Future Int)) (Global 1)) (copies (at Int (Read ReadXx (at (Ptr (Future Int)) (Global 1))))) (does Empty))))
unfolding rule are_values shapes_within is_mixed taken_from pragmas_ok ascending
copied_global = search (rules, opened_all)

-- the type of a copy
copied_type : Parts (typed (starts (Future Int) (does Empty)))
    (typed (does (stmt.Future (at (Ptr (Future Int)) (Global 1)) (copies (at (Ptr Int) (Variable 2))) (does Empty))))
unfolding rule are_values shapes_within is_mixed taken_from pragmas_ok ascending
copied_type = search (rules, opened_all)

-- what `break` leaves
break_in_loop : Parts (leaving (repeats 0 (pragmas 8) (does Break)))
    (leaving (does Break))
unfolding rule
break_in_loop = search (rules, opened_all)

-- what `continue` leaves
continue_in_loop : Parts (leaving (repeats 0 (pragmas 8) (block (does Continue ∷ []))))
    (leaving (block (does Continue ∷ [])))
unfolding rule
continue_in_loop = search (rules, opened_all)

-- a `break` leaves a `switch`
break_in_switch : Parts (leaving (chooses (Do (does Break) ∷ [])))
    (leaving (block (chooses (Do (does Break) ∷ []) ∷ does Break ∷ [])))
unfolding rule
break_in_switch = search (rules, opened_all)

-- a `continue` leaves none
continue_in_switch : Parts (leaving (repeats 0 (pragmas 8) (chooses (Do (does Continue) ∷ []))))
    (leaving (chooses (Do (does Continue) ∷ [])))
unfolding rule
continue_in_switch = search (rules, opened_all)

-- what stands in a `switch` is no declaration
chosen_is_no_declaration : Parts (leaving (chooses (At 1 ∷ Do (block (declares 1 ∷ [])) ∷ [])))
    (leaving (chooses (At 1 ∷ Do (declares 1) ∷ [])))
unfolding rule
chosen_is_no_declaration = search (rules, opened_all)

-- nor is a branch
branch_is_no_declaration : Parts (leaving (does (If (number 1) (block (declares 1 ∷ [])) None)))
    (leaving (does (If (number 1) (declares 1) None)))
unfolding rule
branch_is_no_declaration = search (rules, opened_all)

-- nor is what stands behind `else`
else_is_no_declaration : Parts (leaving (does (If (number 1) (does Empty) (Some (block (declares 1 ∷ []))))))
    (leaving (does (If (number 1) (does Empty) (Some (declares 1)))))
unfolding rule
else_is_no_declaration = search (rules, opened_all)

-- nor is what a loop repeats
repeated_is_no_declaration : Parts (leaving (repeats 0 (pragmas 8) (block (declares 1 ∷ []))))
    (leaving (repeats 0 (pragmas 8) (declares 1)))
unfolding rule
repeated_is_no_declaration = search (rules, opened_all)

-- the value of a `return`
returned_type : Parts (leaving (does (Return (Some (number 1)))))
    (leaving (does (Return (Some (at (Ptr Int) (Const 0))))))
unfolding rule
returned_type = search (rules, opened_all)

-- a `return` without a value
return_of_value : Parts (leaving (does (Return (Some (number 1)))))
    (leaving (does (Return None)))
unfolding rule
return_of_value = search (rules, opened_all)

-- the parts of a `while`
while_without_step : Parts (leaving (repeats 0 (pragmas 8) (does Break)))
    (leaving (does (Loop 0 While [] (Some (number 1)) (Some (number 1)) (does Break) (pragmas 8))))
unfolding rule
while_without_step = search (rules, opened_all)

-- a `while` has no first clause
while_without_clause : Parts (leaving (repeats 0 (pragmas 8) (does Break)))
    (leaving (does (Loop 0 While (declares 1 ∷ []) (Some (number 1)) None (does Break) (pragmas 8))))
unfolding rule
while_without_clause = search (rules, opened_all)

-- the test of a `while`
while_with_test : Parts (leaving (repeats 0 (pragmas 8) (does Break)))
    (leaving (does (Loop 0 While [] None None (does Break) (pragmas 8))))
unfolding rule
while_with_test = search (rules, opened_all)

-- the first clause of a `for`
clause_is_simple : Parts (leaving (for_ (declares 1 ∷ declares 2 ∷ []) (does Empty)))
    (leaving (for_ (block [] ∷ []) (does Empty)))
unfolding rule
clause_is_simple = search (rules, opened_all)

-- a first clause has one expression
one_expression : Parts (leaving (for_ (evaluates (number 1) ∷ []) (does Empty)))
    (leaving (for_ (evaluates (number 1) ∷ evaluates (number 2) ∷ []) (does Empty)))
unfolding rule
one_expression = search (rules, opened_all)

-- the place of a `future` statement
future_place : Parts (leaving (starts (Future Int) (does Empty)))
    (leaving (starts Int (does Empty)))
unfolding rule
future_place = search (rules, opened_all)

-- what the body of a `future` statement answers
future_value : Parts (leaving (starts (Future Int) (does (Return (Some (number 1))))))
    (leaving (starts (Future Int) (does (Return (Some (at (Ptr Int) (Const 0)))))))
unfolding rule
future_value = search (rules, opened_all)

-- the body of a `future` statement leaves no loop
future_leaves_no_loop : Parts (leaving (repeats 0 (pragmas 8) (starts (Future Int) (does Empty))))
    (leaving (repeats 0 (pragmas 8) (starts (Future Int) (does Break))))
unfolding rule
future_leaves_no_loop = search (rules, opened_all)

-- the body of a `future` statement is a block
future_body_is_block : Parts (leaving (starts (Future Int) (does Empty)))
    (leaving (does (stmt.Future (at (Ptr (Future Int)) (Global 1)) (copies (variable 0)) (does Empty))))
unfolding rule
future_body_is_block = search (rules, opened_all)

-- a local is declared before its use
declared_before : Parts (seen (block (declares 1 ∷ evaluates (variable 1) ∷ [])))
    (seen (block (evaluates (variable 1) ∷ declares 1 ∷ [])))
unfolding rule
declared_before = search (rules, opened_all)

-- a local of a block is seen in it alone
seen_in_block : Parts (seen (block (declares 1 ∷ block (evaluates (variable 1) ∷ []) ∷ [])))
    (seen (block (block (declares 1 ∷ []) ∷ evaluates (variable 1) ∷ [])))
unfolding rule
seen_in_block = search (rules, opened_all)

-- a local of a first clause is seen in its loop alone
seen_in_loop : Parts (seen (for_ (declares 1 ∷ []) (evaluates (variable 1))))
    (seen (block (for_ (declares 1 ∷ []) (does Empty) ∷ evaluates (variable 1) ∷ [])))
unfolding rule
seen_in_loop = search (rules, opened_all)

-- a local that is declared in a `switch` is seen in its block alone
seen_in_switch : Parts (seen (chooses (Do (block (declares 1 ∷ evaluates (variable 1) ∷ [])) ∷ [])))
    (seen (chooses (Do (block (declares 1 ∷ [])) ∷ Do (evaluates (variable 1)) ∷ [])))
unfolding rule
seen_in_switch = search (rules, opened_all)

-- an initialiser sees its own local and no later one
seen_in_initialiser : Parts (seen (does (Declare 1 ((0, variable 1) ∷ []))))
    (seen (block (does (Declare 1 ((0, variable 2) ∷ [])) ∷ declares 2 ∷ [])))
unfolding rule
seen_in_initialiser = search (rules, opened_all)

-- an assigned local is seen too
assigned_local : Parts (seen (evaluates (at Int (Set 0 (number 1)))))
    (seen (evaluates (at Int (Set 1 (number 1)))))
unfolding rule
assigned_local = search (rules, opened_all)

-- a pragma names what is seen
pragma_sees : Parts (seen (repeats 0 (naming 8 (root.Local 0 ∷ []) []) (does Break)))
    (seen (repeats 0 (naming 8 (root.Local 1 ∷ []) []) (does Break)))
unfolding rule
pragma_sees = search (rules, opened_all)

-- the body of a `future` statement sees its copies alone
body_sees_copy : Parts (seen (starts (Future Int) (does (Return (Some (variable 1))))))
    (seen (starts (Future Int) (does (Return (Some (variable 0))))))
unfolding rule
body_sees_copy = search (rules, opened_all)

-- a copy is seen in the body alone
copy_is_inner : Parts (seen (starts (Future Int) (does Empty)))
    (seen (block (starts (Future Int) (does Empty) ∷ evaluates (variable 1) ∷ [])))
unfolding rule
copy_is_inner = search (rules, opened_all)
