-- Expressions that the invariant refuses, each beside one that it takes.
use Rattle.std.proofs.Common.{rules, List, [], ◌∷◌, Bool, true, false}
use Rattle.std.specs.Prelude.{Some, None, codes}
use Rattle.xc_word.specs.declared.memory.Kind.TheVariants.{ReadXx, WriteXf, WriteFf}
use Rattle.xc_tree.specs.declared.operator.BinOp.TheVariants as op
use Rattle.xc_tree.specs.declared.operator.UnOp.TheVariants as unary
use Rattle.xc_tree.specs.declared.ty.Ty.{Ty, Void, Int, Uint, Ptr, Array, Struct, Future}
use Rattle.xc_tree.specs.declared.expr.Expr.{Expr}
use Rattle.xc_tree.specs.declared.expr.ExprKind.{Const, Local as Variable, Set, Global, Auto, Index, Member, Read, Write, FetchAdd, Purge, Update, Unary, Binary, And, Or, Cond, Comma, Call, Print}
use Rattle.xc_tree.specs.declared.tree.Object.{Object}
use Rattle.xc_tree.specs.Types.{shapes_within, is_mixed}
use Rattle.xc_tree.specs.Formats.{taken_from}
use Rattle.xc_tree.specs.Typed.{context, value_ok, rule, are_values}
use Rattle.xc_tree.proofs.Samples.{opened, Parts, at, value, object, global, number, variable, one}

-- struct 0 mixes a pointer with a number and has an array; struct 1 is two numbers
abbrev structs : List (List Ty)
structs = (Ptr Int ∷ Int ∷ Array 3 Int ∷ []) ∷ (Int ∷ Uint ∷ []) ∷ []

abbrev globals : List Object
globals = global Int [] ∷ global (Array 10 Int) [] ∷ global (Struct 0) [] ∷ global (Struct 1) [] ∷ global (Future Int) [] ∷ global (Ptr Int) [] ∷ []

-- local 0 is a number, local 1 an array, local 2 a pointer, local 3 a number that has an address
abbrev value_here : Expr → Bool
value_here = value_ok (context structs globals (one ∷ []) (codes "%d" ∷ codes "%d%d%d%d%d%d%d%d" ∷ codes "%d%d%d%d%d%d%d%d%d" ∷ []) (value Int ∷ object (Array 4 Int) ∷ value (Ptr Int) ∷ object Int ∷ []))

abbrev pointer : Expr
pointer = at (Ptr Int) (Variable 2)

abbrev x : Expr
x = variable 0

abbrev array : Expr
array = at (Ptr (Array 4 Int)) (Auto 1)

abbrev place : Expr
place = at (Ptr Int) (Global 0)

abbrev pointer_place : Expr
pointer_place = at (Ptr (Ptr Int)) (Global 5)

abbrev future_place : Expr
future_place = at (Ptr (Future Int)) (Global 4)

abbrev mixed : Expr
mixed = at (Ptr (Struct 0)) (Global 2)

abbrev prints : List Expr → Expr
prints args = at Void (Print 0 args)

-- the number of a local
local_number : Parts (value_here (variable 0))
    (value_here (variable 4))
unfolding rule are_values shapes_within is_mixed taken_from
local_number = search (rules, opened)

-- the number of a global
global_number : Parts (value_here (place))
    (value_here (at (Ptr Int) (Global 6)))
unfolding rule are_values shapes_within is_mixed taken_from
global_number = search (rules, opened)

-- a word as a pointer
null_pointer : Parts (value_here (at (Ptr Int) (Const 0)))
    (value_here (at (Ptr Int) (Const 8)))
unfolding rule are_values shapes_within is_mixed taken_from
null_pointer = search (rules, opened)

-- a local with an address
local_with_address : Parts (value_here (array))
    (value_here (at (Array 4 Int) (Variable 1)))
unfolding rule are_values shapes_within is_mixed taken_from
local_with_address = search (rules, opened)

-- the place of a local
place_of_local : Parts (value_here (at (Ptr Int) (Auto 3)))
    (value_here (at (Ptr Int) (Auto 0)))
unfolding rule are_values shapes_within is_mixed taken_from
place_of_local = search (rules, opened)

-- the value of an assignment to a local
set_value : Parts (value_here (at Int (Set 0 (number 1))))
    (value_here (at Int (Set 0 pointer)))
unfolding rule are_values shapes_within is_mixed taken_from
set_value = search (rules, opened)

-- a local that an assignment gives a value
set_local : Parts (value_here (at (Ptr Int) (Set 2 pointer)))
    (value_here (at Int (Set 3 (number 1))))
unfolding rule are_values shapes_within is_mixed taken_from
set_local = search (rules, opened)

-- the size of an element
element_size : Parts (value_here (at (Ptr Int) (Index array x 1 (Some 4))))
    (value_here (at (Ptr Int) (Index array x 2 (Some 4))))
unfolding rule are_values shapes_within is_mixed taken_from
element_size = search (rules, opened)

-- the type of an element
element_type : Parts (value_here (at (Ptr Int) (Index pointer x 1 None)))
    (value_here (at (Ptr Uint) (Index pointer x 1 None)))
unfolding rule are_values shapes_within is_mixed taken_from
element_type = search (rules, opened)

-- the bound of an array, one more under `&`
bound_of_array : Parts (value_here (at (Ptr Int) (Index array x 1 (Some 5))))
    (value_here (at (Ptr Int) (Index array x 1 (Some 6))))
unfolding rule are_values shapes_within is_mixed taken_from
bound_of_array = search (rules, opened)

-- an index
index_is_number : Parts (value_here (at (Ptr Int) (Index pointer x 1 None)))
    (value_here (at (Ptr Int) (Index pointer pointer 1 None)))
unfolding rule are_values shapes_within is_mixed taken_from
index_is_number = search (rules, opened)

-- a member of a mixed struct
member_of_mixed : Parts (value_here (at (Ptr Int) (Read ReadXx (at (Ptr (Ptr Int)) (Member mixed 0)))))
    (value_here (at (Ptr (Ptr Int)) (Member mixed 0)))
unfolding rule are_values shapes_within is_mixed taken_from
member_of_mixed = search (rules, opened)

-- an array in a mixed struct
array_in_mixed : Parts (value_here (at Int (Read ReadXx (at (Ptr Int) (Index (at (Ptr (Array 3 Int)) (Member mixed 2)) x 1 (Some 3))))))
    (value_here (at Int (Read ReadXx (at (Ptr Int) (Index (at (Ptr (Array 3 Int)) (Member mixed 2)) x 1 (Some 4))))))
unfolding rule are_values shapes_within is_mixed taken_from
array_in_mixed = search (rules, opened)

-- where a member begins
member_begins : Parts (value_here (at (Ptr Uint) (Member (at (Ptr (Struct 1)) (Global 3)) 1)))
    (value_here (at (Ptr Uint) (Member (at (Ptr (Struct 1)) (Global 3)) 0)))
unfolding rule are_values shapes_within is_mixed taken_from
member_begins = search (rules, opened)

-- the kind of a read
read_kind : Parts (value_here (at Int (Read ReadXx place)))
    (value_here (at Int (Read WriteXf place)))
unfolding rule are_values shapes_within is_mixed taken_from
read_kind = search (rules, opened)

-- the type of a read
read_type : Parts (value_here (at Int (Read ReadXx place)))
    (value_here (at Uint (Read ReadXx place)))
unfolding rule are_values shapes_within is_mixed taken_from
read_type = search (rules, opened)

-- the kind of a write
write_kind : Parts (value_here (at Int (Write WriteXf place (number 1))))
    (value_here (at Int (Write ReadXx place (number 1))))
unfolding rule are_values shapes_within is_mixed taken_from
write_kind = search (rules, opened)

-- the value that a write gives
written_value : Parts (value_here (at (Ptr Int) (Write WriteXf pointer_place pointer)))
    (value_here (at (Ptr Int) (Write WriteXf pointer_place x)))
unfolding rule are_values shapes_within is_mixed taken_from
written_value = search (rules, opened)

-- how an assignment writes a `future` object
assignment_waits : Parts (value_here (at Int (Write WriteFf future_place x)))
    (value_here (at Int (Write WriteXf future_place x)))
unfolding rule are_values shapes_within is_mixed taken_from
assignment_waits = search (rules, opened)

-- a write of another kind is a call, and void
call_writes : Parts (value_here (at Void (Write WriteFf place x)))
    (value_here (at Int (Write WriteFf place x)))
unfolding rule are_values shapes_within is_mixed taken_from
call_writes = search (rules, opened)

-- what fetch-and-add adds to
added_place : Parts (value_here (at Int (FetchAdd place x)))
    (value_here (at (Ptr Int) (FetchAdd pointer_place x)))
unfolding rule are_values shapes_within is_mixed taken_from
added_place = search (rules, opened)

-- what fetch-and-add adds
added_value : Parts (value_here (at Int (FetchAdd place x)))
    (value_here (at Int (FetchAdd place pointer)))
unfolding rule are_values shapes_within is_mixed taken_from
added_value = search (rules, opened)

-- what is purged
purged_place : Parts (value_here (at Void (Purge place)))
    (value_here (at Void (Purge (at (Ptr (Array 10 Int)) (Global 1)))))
unfolding rule are_values shapes_within is_mixed taken_from
purged_place = search (rules, opened)

-- the operator of a compound assignment
update_operator : Parts (value_here (at Int (Update op.Add false x (number 1))))
    (value_here (at Int (Update op.Lt false x (number 1))))
unfolding rule are_values shapes_within is_mixed taken_from
update_operator = search (rules, opened)

-- a compound assignment of a pointer
update_pointer : Parts (value_here (at (Ptr Int) (Update op.Sub true pointer (number 1))))
    (value_here (at (Ptr Int) (Update op.Mul true pointer (number 1))))
unfolding rule are_values shapes_within is_mixed taken_from
update_pointer = search (rules, opened)

-- the right side of a compound assignment
update_by_number : Parts (value_here (at (Ptr Int) (Update op.Add false pointer_place x)))
    (value_here (at (Ptr Int) (Update op.Add false pointer_place pointer)))
unfolding rule are_values shapes_within is_mixed taken_from
update_by_number = search (rules, opened)

-- `-`
negated_number : Parts (value_here (at Int (Unary unary.Neg x)))
    (value_here (at (Ptr Int) (Unary unary.Neg pointer)))
unfolding rule are_values shapes_within is_mixed taken_from
negated_number = search (rules, opened)

-- the type of `~`
complement_type : Parts (value_here (at Int (Unary unary.Complement x)))
    (value_here (at Uint (Unary unary.Complement x)))
unfolding rule are_values shapes_within is_mixed taken_from
complement_type = search (rules, opened)

-- the type of `!`
not_type : Parts (value_here (at Int (Unary unary.Not pointer)))
    (value_here (at (Ptr Int) (Unary unary.Not pointer)))
unfolding rule are_values shapes_within is_mixed taken_from
not_type = search (rules, opened)

-- a cast
cast_between_numbers : Parts (value_here (at Uint (Unary unary.Cast x)))
    (value_here (at Uint (Unary unary.Cast pointer)))
unfolding rule are_values shapes_within is_mixed taken_from
cast_between_numbers = search (rules, opened)

-- a sum with a pointer
pointer_and_number : Parts (value_here (at (Ptr Int) (Binary op.Add pointer (number 1))))
    (value_here (at (Ptr Int) (Binary op.Add pointer pointer)))
unfolding rule are_values shapes_within is_mixed taken_from
pointer_and_number = search (rules, opened)

-- a difference with a pointer
pointer_difference : Parts (value_here (at Int (Binary op.Sub pointer pointer)))
    (value_here (at Int (Binary op.Sub x pointer)))
unfolding rule are_values shapes_within is_mixed taken_from
pointer_difference = search (rules, opened)

-- the common type of two numbers
common_number_type : Parts (value_here (at Uint (Binary op.Mul x (at Uint (Const 1)))))
    (value_here (at Int (Binary op.Mul x (at Uint (Const 1)))))
unfolding rule are_values shapes_within is_mixed taken_from
common_number_type = search (rules, opened)

-- the type of a shift
shift_type : Parts (value_here (at Int (Binary op.Shl x (at Uint (Const 1)))))
    (value_here (at Uint (Binary op.Shl x (at Uint (Const 1)))))
unfolding rule are_values shapes_within is_mixed taken_from
shift_type = search (rules, opened)

-- what may be compared
compared_types : Parts (value_here (at Int (Binary op.Eq pointer (at (Ptr Int) (Const 0)))))
    (value_here (at Int (Binary op.Eq pointer x)))
unfolding rule are_values shapes_within is_mixed taken_from
compared_types = search (rules, opened)

-- an operand of `&&`
and_of_scalars : Parts (value_here (at Int (And x pointer)))
    (value_here (at Int (And x (prints (x ∷ [])))))
unfolding rule are_values shapes_within is_mixed taken_from
and_of_scalars = search (rules, opened)

-- an operand of `||`
or_of_scalars : Parts (value_here (at Int (Or pointer x)))
    (value_here (at Int (Or (prints (x ∷ [])) x)))
unfolding rule are_values shapes_within is_mixed taken_from
or_of_scalars = search (rules, opened)

-- the branches of `?:`
branches_of_conditional : Parts (value_here (at (Ptr Int) (Cond x pointer pointer)))
    (value_here (at (Ptr Int) (Cond x pointer x)))
unfolding rule are_values shapes_within is_mixed taken_from
branches_of_conditional = search (rules, opened)

-- the type of a comma operator
comma_type : Parts (value_here (at (Ptr Int) (Comma x pointer)))
    (value_here (at Int (Comma x pointer)))
unfolding rule are_values shapes_within is_mixed taken_from
comma_type = search (rules, opened)

-- the function of a call
called_function : Parts (value_here (at Int (Call 0 (x ∷ []))))
    (value_here (at Int (Call 1 (x ∷ []))))
unfolding rule are_values shapes_within is_mixed taken_from
called_function = search (rules, opened)

-- how many arguments a call has
number_of_arguments : Parts (value_here (at Int (Call 0 (x ∷ []))))
    (value_here (at Int (Call 0 [])))
unfolding rule are_values shapes_within is_mixed taken_from
number_of_arguments = search (rules, opened)

-- the type of an argument
type_of_argument : Parts (value_here (at Int (Call 0 (at Uint (Const 1) ∷ []))))
    (value_here (at Int (Call 0 (pointer ∷ []))))
unfolding rule are_values shapes_within is_mixed taken_from
type_of_argument = search (rules, opened)

-- the type of a call
type_of_call : Parts (value_here (at Int (Call 0 (x ∷ []))))
    (value_here (at Uint (Call 0 (x ∷ []))))
unfolding rule are_values shapes_within is_mixed taken_from
type_of_call = search (rules, opened)

-- the text of a `printf`
known_text : Parts (value_here (prints (x ∷ [])))
    (value_here (at Void (Print 3 (x ∷ []))))
unfolding rule are_values shapes_within is_mixed taken_from
known_text = search (rules, opened)

-- how many integers a `printf` has
printed_integers : Parts (value_here (prints (x ∷ [])))
    (value_here (prints []))
unfolding rule are_values shapes_within is_mixed taken_from
printed_integers = search (rules, opened)

-- what a `printf` may print
printed_type : Parts (value_here (prints (at Uint (Const 1) ∷ [])))
    (value_here (prints (pointer ∷ [])))
unfolding rule are_values shapes_within is_mixed taken_from
printed_type = search (rules, opened)

-- a `printf` has at most 8 integers
eight_integers : Parts (value_here (at Void (Print 1 (x ∷ x ∷ x ∷ x ∷ x ∷ x ∷ x ∷ x ∷ []))))
    (value_here (at Void (Print 2 (x ∷ x ∷ x ∷ x ∷ x ∷ x ∷ x ∷ x ∷ x ∷ []))))
unfolding rule are_values shapes_within is_mixed taken_from
eight_integers = search (rules, opened)
