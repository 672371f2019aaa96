-- Trees whose forms all have code stand for straight programs.
use Rattle.std.proofs.Common.{◌≡◌, ℕ, zero, suc, ◌+◌, ◌<◌, List, [], ◌∷◌, length, map, Option, Some, None, Bool, true, false, cond, refl, sym, ap, ◌∙◌, subst, arith}
use Rattle.std.specs.Prelude.{IsTrue, ◌==◌, slice_get, take}
use Rattle.std.proofs.lemmas.Bool.{eqb-true}
use Rattle.xc_text_place.specs.declared.Span.{Span}
use Rattle.xc_word.specs.declared.memory.Cell.{Cell}
use Rattle.xc_word.specs.Cells.{fresh}
use Rattle.xc_tree.specs.declared.tree.Object.{Object}
use Rattle.xc_tree.specs.declared.tree.Func.{Func}
use Rattle.xc_tree.specs.declared.tree.Tree.{Tree}
use Rattle.xc_tree.specs.Types.{is_number, size_of}
use Rattle.xc_tree.specs.Valid.{func_ok}
use Rattle.xc_tree.specs.Around.{context_of, shapes_of}
use Rattle.xc_tree.specs.Lists.{every}
use Rattle.xc_tree.proofs.Lists.{and_left, and_right}
use Rattle.xc_tree.proofs.Parts.{tree_test, func_typed, main_below, main_plain}
use Rattle.xc_meaning.specs.Terms as old
use Rattle.xc_gen.specs.Unbuilt.{earlier, first_done, first_global, first_func, unbuilt_of}
use Rattle.xc_gen.proofs.Typed.{none_left, none_right, func_none, global_none}
use Rattle.xc_meaning_terms.specs.Terms.{Command, Formal, Function, Program}
use Rattle.xc_meaning_straight.specs.Straight.{command_for, program_for, IsStraight}
use Rattle.xc_meaning_trees.specs.Trees.{Around, around, command_of, cells_from, cells_of, formals_from, function_of, program_of}
use Rattle.xc_gen_straight.specs.Trees.{StraightTrees}
use Rattle.xc_gen_straight.proofs.Statements.{stmt_agrees}

-- ---- functions: `main` alone

named : (b : Bool) (o : Option Span) (s : Span) → cond b o (Some s) ≡ None → b ≡ true
named true o s e = refl
named false o s e = absurd cc

only_main : (main k : ℕ) (fs : List Func) (found : Option Span) → first_func main k fs found ≡ None → (i : ℕ) → i < length fs → k + i ≡ main
only_main main k [] found e i lt = absurd (omega (arith, lt))
only_main main k (f ∷ fs) found e zero lt =
    let here : Option Span = cond (k == main) (first_done (old.command_of f.body)) (Some f.name) in
    let none = none_right found here (func_none main (suc k) fs (earlier found here) e).0 in
    omega (arith, eqb-true k main (named (k == main) (first_done (old.command_of f.body)) f.name none))
only_main main k (f ∷ fs) found e (suc i) lt =
    let here : Option Span = cond (k == main) (first_done (old.command_of f.body)) (Some f.name) in
    omega (arith, only_main main (suc k) fs (earlier found here) e i (omega (arith, lt)))

-- ---- globals

cells_same : (n : ℕ) (cs : List (ℕ × Bool)) → cells_from n cs ≡ old.cells_from n cs
cells_same zero cs = refl
cells_same (suc n) [] = ap (λ l. fresh ∷ l) (cells_same n [])
cells_same (suc n) (c ∷ cs) = ap (λ l. record { value = c.0; full = c.1 } ∷ l) (cells_same n cs)

globals_same : (t : Tree) (gs : List Object) → map (cells_of t) gs ≡ map (old.cells_of t) gs
globals_same t [] = refl
globals_same t (g ∷ gs) =
    ap (λ c. c ∷ map (cells_of t) gs) (cells_same (size_of (shapes_of t) g.ty) g.init) ∙ ap (λ l. old.cells_of t g ∷ l) (globals_same t gs)

-- ---- the whole program

every_get : {X : Type 0} (p : X → Bool) (xs : List X) (i : ℕ) (x : X) → IsTrue (every (map p xs)) → slice_get xs i ≡ Some x → IsTrue (p x)
every_get p [] i x h e = absurd cc
every_get p (y ∷ xs) zero x h e = let same : y ≡ x = cc in subst (λ z. IsTrue (p z)) same (and_left _ _ h)
every_get p (y ∷ xs) (suc i) x h e = every_get p xs i x (and_right (p y) _ h) e

-- its one function
abbrev Shown : Tree → List Func → ℕ → Type 0
Shown t fs main = (map (function_of t) fs ≡ record { formals = []; body = command_for (old.body_of (slice_get fs main)) } ∷ []) × (main ≡ 0) × IsStraight (old.body_of (slice_get fs main))

one_function : (t : Tree) → unbuilt_of t ≡ None → Shown t t.funcs t.main
one_function t u = at t.funcs refl
  where
    numbers : (i : ℕ) (g : Object) → slice_get t.globals i ≡ Some g → is_number g.ty ≡ true
    numbers = (global_none t.globals None (func_none t.main 0 t.funcs (first_global t.globals None) u).0).1

    only : (i : ℕ) → i < length t.funcs → 0 + i ≡ t.main
    only = only_main t.main 0 t.funcs (first_global t.globals None) u

    there : t.main < length t.funcs
    there = main_below t.structs t.globals t.funcs t.formats t.loops t.main t.valid

    no_formals : (f : Func) → slice_get t.funcs t.main ≡ Some f → formals_from 0 (take f.params f.locals) ≡ []
    no_formals f e = ap (λ n. formals_from 0 (take n f.locals)) (main_plain t.structs t.globals t.funcs t.formats t.loops t.main f t.valid e)

    body_same : (f : Func) → slice_get t.funcs t.main ≡ Some f → IsStraight (old.command_of f.body) × (command_for (old.command_of f.body) ≡ command_of (around t f) f.body)
    body_same f e =
        let valid = every_get (func_ok t.structs t.globals t.funcs t.formats) t.funcs t.main f (tree_test t.structs t.globals t.funcs t.formats t.loops t.main 0 t.valid) e in
        stmt_agrees (context_of t f) (around t f) numbers f.body (func_typed t.structs t.globals t.funcs t.formats f valid)
        ((func_none t.main 0 t.funcs (first_global t.globals None) u).1 t.main f e (omega arith))

    at : (fs : List Func) → t.funcs ≡ fs → Shown t fs t.main
    at [] e = absurd (omega (arith, there, ap length e))
    at (f ∷ []) e =
        let first : t.main ≡ 0 = omega (arith, only 0 (omega (arith, ap length e))) in
        let is : slice_get t.funcs t.main ≡ Some f = ap (λ l. slice_get l t.main) e ∙ ap (slice_get (f ∷ [])) first in
        let same = body_same f is in
        let here : slice_get (f ∷ []) t.main ≡ Some f = ap (slice_get (f ∷ [])) first in (
          ap (λ l. record { formals = l; body = command_of (around t f) f.body } ∷ []) (no_formals f is)
              ∙ ap (λ b. record { formals = []; body = b } ∷ []) (sym same.1)
              ∙ ap (λ o. record { formals = []; body = command_for (old.body_of o) } ∷ []) (sym here),
          first,
          subst (λ o. IsStraight (old.body_of o)) (sym here) same.0,
        )
    at (f ∷ g ∷ fs) e = absurd (omega (arith, only 0 (omega (arith, ap length e)), only 1 (omega (arith, ap length e))))

pub straight_trees : StraightTrees
straight_trees t u =
    let shown = one_function t u in (
      ap (λ gs. record { globals = gs; formats = t.formats; functions = map (function_of t) t.funcs; main = t.main }) (globals_same t t.globals)
          ∙ ap (λ fs. record { globals = map (old.cells_of t) t.globals; formats = t.formats; functions = fs; main = t.main }) shown.0
          ∙ ap (λ m. record { globals = map (old.cells_of t) t.globals; formats = t.formats; functions = record { formals = []; body = command_for (old.body_of (slice_get t.funcs t.main)) } ∷ []; main = m }) shown.1,
      shown.2,
    )
