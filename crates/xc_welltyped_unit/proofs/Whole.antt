-- A text without faults makes a well-typed tree.
use Rattle.std.proofs.Common.{◌≡◌, ℕ, zero, suc, ◌<◌, ◌≤◌, ◌^◌, List, [], ◌∷◌, map, take, length, Bool, false, refl, sym, ap, ◌∙◌, subst, arith}
use Rattle.std.specs.Prelude.{IsTrue, is_some, ◌==◌, nat_le, nat_lt, sum_by, option_and_then, Option, Some, None, slice_get}
use Rattle.std.proofs.lemmas.Bool.{lt-ltb, le-leb, leb-true, eq-eqb}
use Rattle.std.proofs.lemmas.List.Sums.{sum_by-cons}
use Rattle.xc_tree.specs.declared.ty.Ty.{Ty, Int}
use Rattle.xc_tree.specs.declared.tree.Local.{Local}
use Rattle.xc_tree.specs.declared.tree.Object.{Object}
use Rattle.xc_tree.specs.declared.tree.Func.{Func}
use Rattle.xc_tree.specs.Lists.{every}
use Rattle.xc_tree.specs.Types.{Shape, struct_shapes, size_of, same_ty}
use Rattle.xc_tree.specs.Typed.{Context, context}
use Rattle.xc_tree.specs.Valid.{all_ids, func_tests, func_ok, global_ok, globals_fit, format_ok, main_ok, tree_tests, tree_ok}
use Rattle.xc_tree.proofs.Lists.{and_left, and_right, and_both}
use Rattle.xc_raw.specs.declared.rule.Rule.{Rule}
use Rattle.xc_raw.specs.declared.rule.Rule.TheVariants as rule
use Rattle.xc_raw.specs.declared.tree.Raw.{Raw, out-Raw}
use Rattle.xc_parse_grammar.specs.Grammar.{is_item}
use Rattle.xc_type_rule.specs.Cells.{cells}
use Rattle.xc_type_names.specs.Scoped.{found_in}
use Rattle.xc_welltyped_rules.specs.Callees.{param_of, IsFunc}
use Rattle.xc_welltyped.proofs.Types.{same_ty_refl}
use Rattle.xc_type_scopes.specs.declared.env.Env.{Env}
use Rattle.xc_type_expressions.specs.declared.text.Text.{Text}
use Rattle.xc_type_unit.specs.declared.scope.FileScope.{FileScope}
use Rattle.xc_type_unit.specs.Items.{in_turn}
use Rattle.xc_type_unit.specs.Functions.{Bodies, bodies_of, main_of}
use Rattle.xc_type_unit.specs.Texts.{empty, item, items, whole_by, whole, main_in, main_faults, end_of}
use Rattle.xc_welltyped_claims.specs.Lists.{Each}
use Rattle.xc_welltyped_claims.specs.Types.{is_object_by}
use Rattle.xc_welltyped_claims.specs.Table.{struct_tys}
use Rattle.xc_welltyped_claims.specs.Env.{Into}
use Rattle.xc_welltyped_claims.specs.Shaped.{rule_in, is_token, all_of, level_ok, IsLexed, IsUnit, Spoken}
use Rattle.xc_welltyped_claims.proofs.Lists.{each_get, each_more}
use Rattle.xc_welltyped_claims.proofs.Judges.{none_left, none_right}
use Rattle.xc_welltyped_claims.proofs.Nodes.{parts_shaped, level_shaped}
use Rattle.xc_welltyped_claims.proofs.Strings.{spoken_of}
use Rattle.xc_welltyped_structs.specs.Valid.{AreValid}
use Rattle.xc_welltyped_structs.proofs.Lists.{each_with, every_of}
use Rattle.xc_welltyped_structs.proofs.Valid.{structs_valid}
use Rattle.xc_welltyped_structs.proofs.Sizes.{cells_told}
use Rattle.xc_welltyped_statements.proofs.Values.{some_of}
use Rattle.xc_welltyped_unit.proofs.Does.{item_does}
use Rattle.xc_welltyped_counts.specs.Few.{AreFew}
use Rattle.xc_welltyped_unit.specs.Files.{FuncFine, GlobalFine, FileFine, IsTyped}
use Rattle.xc_welltyped_unit.proofs.Bodies.{definitions, bodies_apart, bodies_below}
use Rattle.xc_welltyped_unit.proofs.Empty.{empty_fine}
use Rattle.xc_welltyped_unit.proofs.Counts.{items_count}
use Rattle.xc_welltyped_unit.proofs.Items.{items_done}
use Rattle.xc_welltyped_unit.proofs.Programs.{fitting, program, program_has}
use Rattle.xc_welltyped_expressions.proofs.Members.{unless_told}

-- tests ---------------------------------------------------------------------------

all_true : (bs : List Bool) → Each (λ b. IsTrue b) bs → IsTrue (every bs)
all_true [] h = refl
all_true (b ∷ bs) h = and_both b _ h.0 (all_true bs h.1)

one_true : (bs : List Bool) (n : ℕ) (b : Bool) → slice_get bs n ≡ Some b → IsTrue (every bs) → IsTrue b
one_true [] n b e h = absurd cc
one_true (c ∷ bs) zero b e h = let same : c ≡ b = cc in subst (λ x. IsTrue x) same (and_left c _ h)
one_true (c ∷ bs) (suc n) b e h = one_true bs n b e (and_right c _ h)

by_number : {A : Type 0} (p : A → Bool) (xs : List A) → ((n : ℕ) → n < length xs → (x : A) × (slice_get xs n ≡ Some x) × IsTrue (p x)) → IsTrue (every (map p xs))
by_number p [] f = refl
by_number p (x ∷ xs) f =
    let first = f 0 (omega arith) in
    let same : first.0 ≡ x = (let e = first.1 in cc) in
    and_both (p x) _ (subst (λ y. IsTrue (p y)) same first.2) (by_number p xs (λ n lt. f (suc n) (omega (arith, lt))))

-- formats ---------------------------------------------------------------------------

formats_fine : (t : Text) (raw : Raw) → IsLexed t → IsUnit t raw → Spoken t raw → IsTrue (every (map format_ok t.texts.now.formats))
formats_fine t raw lexed unit spoken = by_number format_ok t.texts.now.formats (λ n lt.
    let s = lexed.spelled n lt in
    let l = lexed.literals s.token s.literal s.found in
    let first = unit.first in
    let end = unit.end in
    let within = s.within in
    let taken : IsTrue (is_some s.literal.takes) = spoken s.token s.literal (omega (arith, first)) (omega (arith, end, within)) s.found in
    (l.bytes, subst (λ k. slice_get t.texts.now.formats k ≡ Some l.bytes) s.number l.numbered, subst (λ o. IsTrue (is_some o)) l.takes taken))

-- the function `main` ------------------------------------------------------------------

params_within : (structs : List (List Ty)) (globals : List Object) (funcs : List Func) (formats : List (List ℕ)) (f : Func) → IsTrue (func_ok structs globals funcs formats f) → IsTrue (nat_le f.params (length f.locals))
unfolding func_ok
params_within structs globals funcs formats f h = one_true (func_tests (context structs globals funcs formats f.locals) f) 7 (nat_le f.params (length f.locals)) refl h

no_params : (n : ℕ) (ls : List Local) → map param_of (take n ls) ≡ [] → n ≤ length ls → n ≡ 0
no_params zero ls e le = refl
no_params (suc n) [] e le = absurd (omega (arith, le))
no_params (suc n) (l ∷ ls) e le = absurd cc

main_fine : (f : Func) (params : List (Option Ty)) (ret : Option Ty) → IsFunc params ret f → params ≡ [] → ret ≡ Some Int → IsTrue (nat_le f.params (length f.locals)) → IsTrue (main_ok (Some f))
main_fine f params ret h none int within =
    let zero_params = no_params f.params f.locals (h.takes ∙ none) (leb-true f.params (length f.locals) within) in
    let same : f.ret ≡ Int = (let gives = h.gives in cc) in
    and_both (f.params == 0) _ (eq-eqb f.params 0 zero_params) (subst (λ r. IsTrue (same_ty r Int)) (sym same) (same_ty_refl Int))

main_named : (o : Option ℕ) (b : Bodies) (n : ℕ) → option_and_then (λ name. found_in name b) o ≡ Some n → (name : ℕ) × (o ≡ Some name) × (found_in name b ≡ Some n)
main_named None b n e = absurd cc
main_named (Some name) b n e = (name, refl, e)

-- functions and globals -------------------------------------------------------------------

funcs_ok : (t : Text) (e : Env) (cx : Context) → Into t cx e → (fs : List Func) → Each (FuncFine t e) fs → Each (λ f. length f.locals < 2 ^ 32) fs → Each (λ f. IsTrue (func_ok cx.structs cx.globals cx.funcs cx.formats f)) fs
funcs_ok t e cx i = each_with (FuncFine t e) (λ f. length f.locals < 2 ^ 32) (λ f. IsTrue (func_ok cx.structs cx.globals cx.funcs cx.formats f)) (λ f h few. h cx i few)

globals_ok : (t : Text) (e : Env) (cx : Context) → Into t cx e → (gs : List Object) → Each (GlobalFine t e) gs → Each (λ g. IsTrue (global_ok cx.shapes cx.globals g)) gs
globals_ok t e cx i = each_more (GlobalFine t e) (λ g. IsTrue (global_ok cx.shapes cx.globals g)) (λ g h. h cx i)

cells_same : (ns : List ℕ) (shapes : List Shape) → ((ty : Ty) → IsTrue (is_object_by ns ty) → cells ns ty ≡ size_of shapes ty) → (gs : List Object) → Each (λ g. IsTrue (is_object_by ns g.ty)) gs →
    sum_by (λ g. cells ns g.ty) gs ≡ sum_by (λ g. size_of shapes g.ty) gs
cells_same ns shapes same [] h = refl
cells_same ns shapes same (g ∷ gs) h =
    let one = same g.ty h.0 in
    let more = cells_same ns shapes same gs h.1 in
    let a = sum_by-cons (λ (g : Object). cells ns g.ty) g gs in
    let b = sum_by-cons (λ (g : Object). size_of shapes g.ty) g gs in
    omega (arith, one, more, a, b)

fit : (shapes : List Shape) (gs : List Object) → sum_by (λ g. size_of shapes g.ty) gs ≤ 2 ^ 22 → IsTrue (globals_fit shapes gs)
unfolding globals_fit
fit shapes gs le = le-leb (sum_by (λ g. size_of shapes g.ty) gs) (2 ^ 22) le

-- the tree ------------------------------------------------------------------------------

module _ (t : Text) (raw : Raw) (lexed : IsLexed t) (unit : IsUnit t raw) where
  abbrev nodes : List Raw
  nodes = (out-Raw raw).parts

  abbrev b : Bodies
  b = bodies_of t nodes

  module _ (s : FileScope) (f : FileFine t b s) (many : s.defined ≡ definitions t 0 nodes) (spoken : Spoken t raw) (n : ℕ) (main : main_in t b ≡ Some n) where
    abbrev structs : List (List Ty)
    structs = struct_tys s.env.structs.members

    below : (name m : ℕ) → found_in name b ≡ Some m → m < s.defined
    below name m e = let lt = bodies_below t nodes name m e in omega (arith, lt, many)

    abbrev cx : Context
    cx = program t b s f below

    has : Into t cx s.env
    has = program_has t b s f below

    table_valid : AreValid s.env.structs
    table_valid = structs_valid s.env.structs f.stands.good.table f.stands.complete

    fits_all : IsTrue (globals_fit (struct_shapes structs) s.globals)
    fits_all = fit (struct_shapes structs) s.globals
        (subst (λ k. k ≤ 2 ^ 22) (cells_same s.env.structs.sizes (struct_shapes structs) (cells_told t cx s.env f.stands.good has) s.globals f.typed)
        (fitting s.cells (sum_by (λ g. cells s.env.structs.sizes g.ty) s.globals) f.fits f.cells))

    main_there : Each (λ g. IsTrue (func_ok structs s.globals f.funcs t.texts.now.formats g)) f.funcs → (n < length f.funcs) × IsTrue (main_ok (slice_get f.funcs n))
    main_there ok =
        let named = main_named (main_of t) b n main in
        let lt = below named.0 n named.2 in
        let d = f.defined named.0 n named.2 lt in
        let m = f.mains named.0 _ named.1 d.thing in
        let within = params_within structs s.globals f.funcs t.texts.now.formats d.func (each_get (λ g. IsTrue (func_ok structs s.globals f.funcs t.texts.now.formats g)) f.funcs n d.func d.found ok) in
        let count = f.many in
        (omega (arith, lt, count), subst (λ o. IsTrue (main_ok o)) (sym d.found) (main_fine d.func d.params d.ret d.is m.0 m.1 within))

    tree_fine : AreFew structs f.funcs t.texts.now.formats → IsTrue (tree_ok structs s.globals f.funcs t.texts.now.formats s.env.loops n)
    unfolding tree_ok
    tree_fine few =
        let ok = funcs_ok t s.env cx has f.funcs f.funcs_fine few.few_locals in
        let m = main_there ok in
        let funcs = every_of (func_ok structs s.globals f.funcs t.texts.now.formats) f.funcs ok in
        let globals = every_of (global_ok (struct_shapes structs) s.globals) s.globals (globals_ok t s.env cx has s.globals f.globals_fine) in
        let formats = formats_fine t raw lexed unit spoken in
        let ids = every_of (λ id. nat_lt id s.env.loops) (all_ids f.funcs)
        (each_more (λ id. (0 ≤ id) × (id < s.env.loops)) (λ id. IsTrue (nat_lt id s.env.loops)) (λ id h. lt-ltb id s.env.loops h.1) (all_ids f.funcs) f.ids.1) in
        let named = lt-ltb n (length f.funcs) m.0 in
        let few_funcs = lt-ltb (length f.funcs) (2 ^ 32) few.few_funcs in
        let few_structs = lt-ltb (length structs) (2 ^ 32) few.few_structs in
        let few_formats = lt-ltb (length t.texts.now.formats) (2 ^ 32) few.few_formats in
        all_true (tree_tests structs s.globals f.funcs t.texts.now.formats s.env.loops n)
        (funcs, (globals, (fits_all, (table_valid.ok, (formats, (ids, (f.ids.0, (named, (m.1, (few_funcs, (few_structs, (few_formats, tt))))))))))))

    typed : AreFew structs f.funcs t.texts.now.formats → IsTyped s (main_in t b) t.texts.now.formats
    typed few = record {
      members = table_valid.typed;
      funcs = f.funcs;
      funcs_are = f.known;
      number = n;
      main_is = main;
      valid = tree_fine few;
    }

  items_of : (r : Rule) → r ≡ rule.Unit → (ps : List Raw) → IsTrue (level_ok t raw r ps) → IsTrue (all_of is_item ps)
  unfolding level_ok
  items_of rule.Unit e ps h = h
  items_of r e ps h = absurd cc

  no_token : is_token (rule_in raw) nodes ≡ false
  no_token = ap (λ r. is_token r nodes) unit.unit

  pub whole_typed : ((funcs : List Func) → (whole t raw).scope.funcs ≡ Some funcs → AreFew (struct_tys (whole t raw).scope.env.structs.members) funcs t.texts.now.formats) →
      (whole t raw).faults ≡ [] → (whole t raw).scope.env.over ≡ None → IsTyped (whole t raw).scope (main_in t b) t.texts.now.formats
  unfolding whole_by items
  whole_typed few none within =
      let a = in_turn (map (item t b) nodes) empty in
      let done = items_done t b (item_does t lexed b (bodies_apart t nodes)) nodes (parts_shaped t raw unit.shaped) (items_of (rule_in raw) unit.unit nodes (level_shaped t raw unit.shaped))
      empty (empty_fine t b) (none_left a.faults (main_faults t b) none) within in
      let main = some_of (main_in t b) (unless_told (is_some (main_in t b)) (end_of t) (none_right a.faults (main_faults t b) none)) in
      let end = typed a.scope done.0 (items_count t b nodes empty) (spoken_of t lexed raw unit.shaped no_token done.1) main.0 main.1 (few done.0.funcs done.0.known) in
      record {
        members = end.members;
        funcs = end.funcs;
        funcs_are = end.funcs_are;
        number = end.number;
        main_is = end.main_is;
        valid = end.valid;
      }
