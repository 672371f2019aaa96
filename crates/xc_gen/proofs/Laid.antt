-- The code that the generator makes has a text, and is that of the program.
use Rattle.std.proofs.Common.{◌≡◌, ℕ, zero, suc, ◌+◌, ◌-◌, ◌*◌, ◌^◌, ◌<◌, ◌≤◌, List, [], ◌∷◌, length, map, get_or, Option, Some, None, true, refl, sym, ap, ◌∙◌, subst, arith}
use Rattle.std.proofs.lemmas.List.{length-map}
use Rattle.std.proofs.lemmas.List.Sums.{sum_by-cons}
use Rattle.std.proofs.lemmas.Bool.{leb-true}
use Rattle.std.specs.Prelude.{IsTrue, slice_get, sum_by, All, IsSome, is_some}
use Rattle.std.specs.Option.{option_map}
use Rattle.xc_text_format.specs.declared.Piece.{Piece}
use Rattle.xc_text_format.specs.Pieces.{pieces_of, conversions_of}
use Rattle.xc_isa.specs.declared.code.Code.{Code}
use Rattle.xc_isa.specs.declared.code.Run.{Run}
use Rattle.xc_isa.specs.declared.instr.Instr.{Instr}
use Rattle.xc_isa.specs.Texts.{IsGlobal, IsFormat, AreInOrder, HasText, cells_of as run_cells}
use Rattle.xc_tree.specs.declared.tree.Object.{Object}
use Rattle.xc_tree.specs.declared.tree.Tree.{Tree}
use Rattle.xc_tree.specs.Types.{Shape, is_number, size_of, struct_shapes}
use Rattle.xc_tree.specs.Valid.{globals_fit, format_ok}
use Rattle.xc_tree.proofs.Lists.{every_at}
use Rattle.xc_tree.proofs.Parts.{tree_test}
use Rattle.xc_meaning.specs.Terms.{Term, Number, Read, Write, Update, Unary, Binary, And, Or, Cond, Comma, Print, Terms, NoMore, More, Command, Empty, Eval, Block, Return, Commands, End, Then, cells_of, program_of}
use Rattle.xc_gen.specs.Unbuilt.{unbuilt_of}
use Rattle.xc_gen.specs.Fits.{most_globals, NamesBelow, AllNamesBelow, NamesIn, AllNamesIn}
use Rattle.xc_gen.specs.Globals.{cell_of, runs_of}
use Rattle.xc_gen.specs.Code.{waiting_for, whole_code}
use Rattle.xc_gen.proofs.Formats.{formats_agree}
use Rattle.xc_gen.proofs.Typed.{global_none, func_none, number_size, one_cell, body_good}
use Rattle.xc_gen.proofs.Whole.{OneCell, Translated}

-- ---- more globals may be named

mutual
  names_more : (n m : ℕ) (e : Term) → n ≤ m → NamesBelow n e → NamesBelow m e
  names_more n m (Number v) le h = tt
  names_more n m (Read g) le h = omega (arith, h)
  names_more n m (Write g v) le h = (omega (arith, h.0), names_more n m v le h.1)
  names_more n m (Update o u post g v) le h = (omega (arith, h.0), names_more n m v le h.1)
  names_more n m (Unary o a) le h = names_more n m a le h
  names_more n m (Binary o u a b) le h = (names_more n m a le h.0, names_more n m b le h.1)
  names_more n m (And a b) le h = (names_more n m a le h.0, names_more n m b le h.1)
  names_more n m (Or a b) le h = (names_more n m a le h.0, names_more n m b le h.1)
  names_more n m (Cond x a b) le h = (names_more n m x le h.0, names_more n m a le h.1, names_more n m b le h.2)
  names_more n m (Comma a b) le h = (names_more n m a le h.0, names_more n m b le h.1)
  names_more n m (Print f es) le h = (h.0, all_names_more n m es le h.1)
  names_more n m (Term.Unbuilt at) le h = absurd h

  all_names_more : (n m : ℕ) (es : Terms) → n ≤ m → AllNamesBelow n es → AllNamesBelow m es
  all_names_more n m NoMore le h = tt
  all_names_more n m (More e es) le h = (names_more n m e le h.0, all_names_more n m es le h.1)

mutual
  pub command_more : (n m : ℕ) (s : Command) → n ≤ m → NamesIn n s → NamesIn m s
  command_more n m Empty le h = tt
  command_more n m (Eval e) le h = names_more n m e le h
  command_more n m (Block all) le h = commands_more n m all le h
  command_more n m (Return e) le h = names_more n m e le h
  command_more n m (Command.Unbuilt at) le h = absurd h

  commands_more : (n m : ℕ) (ss : Commands) → n ≤ m → AllNamesIn n ss → AllNamesIn m ss
  commands_more n m End le h = tt
  commands_more n m (Then s ss) le h = (command_more n m s le h.0, commands_more n m ss le h.1)

-- ---- globals

abbrev Numbers : List Object → Type 0
Numbers gs = (i : ℕ) (g : Object) → slice_get gs i ≡ Some g → is_number g.ty ≡ true

numbers_rest : (g : Object) (gs : List Object) → Numbers (g ∷ gs) → Numbers gs
numbers_rest g gs h i x e = h (suc i) x e

one_each : (shapes : List Shape) (gs : List Object) → Numbers gs → sum_by (λ g. size_of shapes g.ty) gs ≡ length gs
one_each shapes [] h = refl
one_each shapes (g ∷ gs) h =
    let here = sum_by-cons (λ (g : Object). size_of shapes g.ty) g gs in
    let one = number_size shapes g.ty (h 0 g refl) in
    omega (arith, here, one, one_each shapes gs (numbers_rest g gs h))

cells_one : (t : Tree) (gs : List Object) → Numbers gs → OneCell (map (cells_of t) gs)
cells_one t [] h = tt
cells_one t (g ∷ gs) h = ((cell_of g.init, one_cell t g (h 0 g refl)), cells_one t gs (numbers_rest g gs h))

cells_run : (t : Tree) (gs : List Object) → Numbers gs → map run_cells (map runs_of gs) ≡ map (cells_of t) gs
cells_run t [] h = refl
cells_run t (g ∷ gs) h = ap (λ l. (cell_of g.init ∷ []) ∷ l) (cells_run t gs (numbers_rest g gs h)) ∙ ap (λ c. c ∷ map (cells_of t) gs) (sym (one_cell t g (h 0 g refl)))

fit_few : (shapes : List Shape) (gs : List Object) → IsTrue (globals_fit shapes gs) → sum_by (λ g. size_of shapes g.ty) gs ≤ 2 ^ 22
unfolding globals_fit
fit_few shapes gs h = leb-true (sum_by (λ g. size_of shapes g.ty) gs) (2 ^ 22) h

module _ (t : Tree) (u : unbuilt_of t ≡ None) where
  numbers : Numbers t.globals
  numbers = (global_none t.globals None (func_none t.main 0 t.funcs _ u).0).1

  pub few : length t.globals ≤ most_globals
  few = omega (arith, one_each (struct_shapes t.structs) t.globals numbers, fit_few (struct_shapes t.structs) t.globals (tree_test t.structs t.globals t.funcs t.formats t.loops t.main 2 t.valid))

  pub names : NamesIn most_globals (program_of t).body
  names = command_more (length t.globals) most_globals (program_of t).body few (body_good t u).0

  pub translated : (c : Code) → c.globals ≡ map runs_of t.globals → c.formats ≡ t.formats → c.instrs ≡ whole_code (program_of t).body → waiting_for (program_of t).body < 2 ^ 32 → Translated (program_of t) c
  translated c globals formats instrs room =
      let count : length (map (cells_of t) t.globals) ≡ length t.globals = length-map t.globals (cells_of t) in
      record {
        few = omega (arith, count, few);
        cells = cells_one t t.globals numbers;
        names = subst (λ n. NamesIn n (program_of t).body) (sym count) (body_good t u).0;
        prints = (body_good t u).1;
        room = room;
        globals = ap (map run_cells) globals ∙ cells_run t t.globals numbers;
        formats = formats;
        instrs = instrs;
      }

-- ---- the text

is_global : (g : Object) → IsGlobal (runs_of g)
is_global g = (omega arith, counts, λ i x y a b. absurd cc, omega arith)
  where
    counts : (k : ℕ) (d : Run) → k < 1 → 1 ≤ (get_or (runs_of g) k d).count
    counts zero d lt = omega arith
    counts (suc k) d lt = absurd (omega (arith, lt))

all_globals : (gs : List Object) → All IsGlobal (map runs_of gs)
all_globals [] k d lt = absurd (omega (arith, lt))
all_globals (g ∷ gs) zero d lt = is_global g
all_globals (g ∷ gs) (suc k) d lt = all_globals gs k d (omega (arith, lt))

is_format : (bytes : List ℕ) → IsTrue (format_ok bytes) → IsFormat bytes
is_format bytes h = at (pieces_of bytes) (subst (λ o. IsTrue (is_some o)) (formats_agree bytes) h)
  where
    at : (o : Option (List Piece)) → IsTrue (is_some (option_map conversions_of o)) → IsSome o
    at None h = absurd cc
    at (Some ps) h = refl

two_lines : (gs : List Object) → sum_by (λ xs. 1 + length xs) (map runs_of gs) ≡ 2 * length gs
two_lines [] = refl
two_lines (g ∷ gs) =
    let here = sum_by-cons (λ (xs : List Run). 1 + length xs) (runs_of g) (map runs_of gs) in
    omega (arith, here, two_lines gs)

no_marks : AreInOrder []
no_marks i x y a b = absurd cc

pub has_text : (t : Tree) (is : List Instr) → 2 + 2 * length t.globals + length t.formats + length is < 2 ^ 32 - 1 → HasText (map runs_of t.globals) t.formats [] is
has_text t is short = record {
  each_global = all_globals t.globals;
  each_format = λ k d lt. is_format (get_or t.formats k d) (every_at format_ok t.formats k d lt (tree_test t.structs t.globals t.funcs t.formats t.loops t.main 4 t.valid));
  in_order = no_marks;
  short = omega (arith, short, two_lines t.globals);
}
