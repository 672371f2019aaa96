-- What the invariant of a program says of its parts.
use Rattle.std.proofs.Common.{◌≡◌, ℕ, ◌<◌, List, length, get_or, map, true, subst, arith}
use Rattle.std.specs.Prelude.{IsTrue, ◌==◌, nat_lt, slice_get, Some}
use Rattle.std.proofs.lemmas.Grind.{common_steps}
use Rattle.xc_tree.specs.declared.ty.Ty.{Ty}
use Rattle.xc_tree.specs.declared.tree.Object.{Object}
use Rattle.xc_tree.specs.declared.tree.Func.{Func}
use Rattle.xc_tree.specs.Lists.{every}
use Rattle.xc_tree.specs.Types.{struct_shapes, structs_ok, is_object}
use Rattle.xc_tree.specs.Typed.{context}
use Rattle.xc_tree.specs.Statements.{stmt_ok}
use Rattle.xc_tree.specs.Valid.{func_tests, func_ok, global_ok, format_ok, main_ok, tree_tests, tree_ok}
use Rattle.xc_tree.proofs.Lists.{pick, every_at, and_left}

-- the test of a program with this number
pub tree_test : (ss : List (List Ty)) (gs : List Object) (fs : List Func) (bs : List (List ℕ)) (loops main k : ℕ) →
    IsTrue (tree_ok ss gs fs bs loops main) → IsTrue (get_or (tree_tests ss gs fs bs loops main) k true)
unfolding tree_ok
tree_test ss gs fs bs loops main k h = pick (tree_tests ss gs fs bs loops main) k h

-- the test of a function with this number
pub func_test : (ss : List (List Ty)) (gs : List Object) (fs : List Func) (bs : List (List ℕ)) (f : Func) (k : ℕ) →
    IsTrue (func_ok ss gs fs bs f) → IsTrue (get_or (func_tests (context ss gs fs bs f.locals) f) k true)
unfolding func_ok
func_test ss gs fs bs f k h = pick (func_tests (context ss gs fs bs f.locals) f) k h

pub func_at : (ss : List (List Ty)) (gs : List Object) (fs : List Func) (bs : List (List ℕ)) (loops main i : ℕ) (d : Func) →
    IsTrue (tree_ok ss gs fs bs loops main) → i < length fs → IsTrue (func_ok ss gs fs bs (get_or fs i d))
func_at ss gs fs bs loops main i d h lt = every_at (func_ok ss gs fs bs) fs i d lt (tree_test ss gs fs bs loops main 0 h)

pub func_typed : (ss : List (List Ty)) (gs : List Object) (fs : List Func) (bs : List (List ℕ)) (f : Func) →
    IsTrue (func_ok ss gs fs bs f) → IsTrue (stmt_ok (context ss gs fs bs f.locals) f.body)
func_typed ss gs fs bs f h = func_test ss gs fs bs f 0 h

pub global_at : (ss : List (List Ty)) (gs : List Object) (fs : List Func) (bs : List (List ℕ)) (loops main i : ℕ) (d : Object) →
    IsTrue (tree_ok ss gs fs bs loops main) → i < length gs → IsTrue (global_ok (struct_shapes ss) gs (get_or gs i d))
global_at ss gs fs bs loops main i d h lt = every_at (global_ok (struct_shapes ss) gs) gs i d lt (tree_test ss gs fs bs loops main 1 h)

members_of : (ss : List (List Ty)) → IsTrue (structs_ok ss) → IsTrue (every (map (λ ms. every (map (is_object (struct_shapes ss)) ms)) ss))
unfolding structs_ok
members_of ss h = and_left _ _ h

pub members_at : (ss : List (List Ty)) (gs : List Object) (fs : List Func) (bs : List (List ℕ)) (loops main i : ℕ) (d : List Ty) →
    IsTrue (tree_ok ss gs fs bs loops main) → i < length ss → IsTrue (every (map (is_object (struct_shapes ss)) (get_or ss i d)))
members_at ss gs fs bs loops main i d h lt =
    every_at (λ ms. every (map (is_object (struct_shapes ss)) ms)) ss i d lt (members_of ss (tree_test ss gs fs bs loops main 3 h))

pub format_at : (ss : List (List Ty)) (gs : List Object) (fs : List Func) (bs : List (List ℕ)) (loops main i : ℕ) (d : List ℕ) →
    IsTrue (tree_ok ss gs fs bs loops main) → i < length bs → IsTrue (format_ok (get_or bs i d))
format_at ss gs fs bs loops main i d h lt = every_at format_ok bs i d lt (tree_test ss gs fs bs loops main 4 h)

pub main_below : (ss : List (List Ty)) (gs : List Object) (fs : List Func) (bs : List (List ℕ)) (loops main : ℕ) →
    IsTrue (tree_ok ss gs fs bs loops main) → main < length fs
main_below ss gs fs bs loops main h = let k : IsTrue (nat_lt main (length fs)) = tree_test ss gs fs bs loops main 7 h in grind (arith, common_steps)

pub main_plain : (ss : List (List Ty)) (gs : List Object) (fs : List Func) (bs : List (List ℕ)) (loops main : ℕ) (f : Func) →
    IsTrue (tree_ok ss gs fs bs loops main) → slice_get fs main ≡ Some f → f.params ≡ 0
main_plain ss gs fs bs loops main f h e =
    let k = subst (λ o. IsTrue (main_ok o)) e (tree_test ss gs fs bs loops main 8 h) in
    let plain : IsTrue (f.params == 0) = and_left (f.params == 0) _ k in
    grind (arith, common_steps)

-- for the accessors
pub ruleset part_rules = (common_steps, func_at, func_typed, global_at, members_at, format_at, main_below, main_plain)
