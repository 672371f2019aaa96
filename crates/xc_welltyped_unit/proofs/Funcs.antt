-- The function that a body makes at file scope (C99 6.9.1).
use Rattle.std.proofs.Common.{◌≡◌, ℕ, zero, suc, ◌<◌, ◌≤◌, ◌^◌, List, [], ◌∷◌, ◌++◌, length, map, take, Bool, true, false, refl, sym, ap, ◌∙◌, subst, arith}
use Rattle.std.specs.Prelude.{IsTrue, ◌||◌, ◌&&◌, nat_le, Option, Some, None}
use Rattle.std.proofs.lemmas.Bool.{le-leb, lt-ltb}
use Rattle.xc_text_place.specs.declared.Span.{Span}
use Rattle.xc_tree.specs.declared.ty.Ty.{Ty}
use Rattle.xc_tree.specs.declared.stmt.Stmt.{Stmt}
use Rattle.xc_tree.specs.declared.tree.Local.{Local}
use Rattle.xc_tree.specs.declared.tree.Func.{Func}
use Rattle.xc_tree.specs.Lists.{allows, distinct, indices}
use Rattle.xc_tree.specs.Types.{is_void, is_plain, is_object}
use Rattle.xc_tree.specs.Typed.{Context, context}
use Rattle.xc_tree.specs.Walk.{loop_ids, declared}
use Rattle.xc_tree.specs.Statements.{leaving, body_ok, stmt_ok, sees_ok}
use Rattle.xc_tree.specs.Valid.{local_ok, param_ok, ret_ok, func_tests, func_ok}
use Rattle.xc_tree.proofs.Lists.{and_left, and_right, and_both}
use Rattle.xc_raw.specs.declared.tree.Raw.{Raw}
use Rattle.xc_type_rule.specs.declared.found.Known.TheVariants as known
use Rattle.xc_type_rule.specs.declared.found.Thing.{Thing}
use Rattle.xc_type_rule.specs.declared.found.Thing.TheVariants as thing
use Rattle.xc_welltyped_rules.specs.Callees.{param_of, IsFunc}
use Rattle.xc_welltyped.specs.Sound.{known_ok}
use Rattle.xc_type_scopes.specs.declared.env.Env.{Env}
use Rattle.xc_type_scopes.specs.Env.{after_function}
use Rattle.xc_type_scopes.specs.Judge.{Judge}
use Rattle.xc_type_lowering.specs.Lowered.{lowered_stmt}
use Rattle.xc_type_lowering.specs.Kept.{with_addresses, values_plain}
use Rattle.xc_type_lowering.proofs.Folded.{leaving_kept, sees_kept, ids_kept, declared_kept}
use Rattle.xc_type_lowering.proofs.Statements.{stmt_typed}
use Rattle.xc_type_expressions.specs.declared.text.Text.{Text}
use Rattle.xc_type_expressions.specs.Types.{name_fault_unless}
use Rattle.xc_type_statement_parts.specs.declared.answer.Answer.TheVariants as answer
use Rattle.xc_type_statements.specs.Stated.{statement}
use Rattle.xc_type_unit.specs.declared.heads.Head.{Head}
use Rattle.xc_type_unit.specs.declared.scope.FileScope.{FileScope}
use Rattle.xc_type_unit.specs.Functions.{Bodies, locals_of, func_of, is_first}
use Rattle.xc_type_unit.specs.Functions as functions
use Rattle.xc_welltyped_claims.specs.Lists.{Each, Fresh}
use Rattle.xc_welltyped_claims.specs.Types.{is_object_by}
use Rattle.xc_welltyped_claims.specs.Things.{HasThing}
use Rattle.xc_welltyped_claims.specs.Env.{Good, Ready, Extends, object_of, Into}
use Rattle.xc_welltyped_claims.specs.Judges.{Clean}
use Rattle.xc_welltyped_claims.specs.Shaped.{rule_in, is_block, Shaped, Spoken, IsLexed}
use Rattle.xc_welltyped_claims.proofs.Lists.{starts_same, starts_length, each_more, set_self}
use Rattle.xc_welltyped_claims.proofs.Env.{into_before}
use Rattle.xc_welltyped_claims.proofs.Judges.{none_right}
use Rattle.xc_welltyped_structs.proofs.Programs.{object_told}
use Rattle.xc_welltyped_statements.specs.Stmts.{IsStmt, AnswerFine}
use Rattle.xc_welltyped_statements.proofs.Fresh.{fresh_none, fresh_one, fresh_both}
use Rattle.xc_welltyped_structs.proofs.Sizes.{object_in}
use Rattle.xc_welltyped_statements.proofs.Theorem.{statement_fine}
use Rattle.xc_welltyped_unit.specs.Functions.{IsHead, IsBody}
use Rattle.xc_welltyped_unit.proofs.Lowered.{marks_same, objects_same, locals_many, locals_fit, params_same, params_scalar}
use Rattle.xc_welltyped_structs.proofs.Lists.{every_of}

-- the program within a function -----------------------------------------------------

-- where the function has these objects
abbrev within : Context → List Local → Context
within cx locals = context cx.structs cx.globals cx.funcs cx.formats locals

thing_within : (cx : Context) (locals : List Local) (x : Thing) → HasThing cx x → HasThing (with_addresses (within cx locals)) x
thing_within cx locals (thing.Global n None) h = tt
thing_within cx locals (thing.Global n (Some ty)) h = h
thing_within cx locals (thing.Local n ty) h = tt
thing_within cx locals (thing.Func None params ret) h = tt
thing_within cx locals (thing.Func (Some n) params ret) h = record { named = h.named; func = h.func }

into_within : (t : Text) (cx : Context) (e : Env) → length e.addressed ≡ length e.locals → Into t cx (after_function e) → Into t (with_addresses (within cx (locals_of e.locals e.addressed))) e
into_within t cx e many i = record {
  shapes = refl;
  structs = i.structs;
  complete = i.complete;
  things = λ name x h. thing_within cx (locals_of e.locals e.addressed) x (i.things name x h);
  locals = starts_same (map object_of e.locals) _ (objects_same e.locals e.addressed many);
  formats = i.formats;
  few = i.few;
}

-- results ---------------------------------------------------------------------------

result_more : (void plain few more : Bool) → (IsTrue plain → IsTrue few → IsTrue more) → IsTrue (void || (plain && few)) → IsTrue (void || more)
result_more true plain few more f h = refl
result_more false plain few more f h = f (and_left plain few h) (and_right plain few h)

answer_fine : (t : Text) (e : Env) → Good e → (o : Option Ty) (ret : Ty) → o ≡ Some ret → IsTrue (is_void ret || (is_plain ret && is_object_by e.structs.sizes ret)) → AnswerFine t e (answer.Function o)
answer_fine t e g o ret is h so a = subst (λ o. IsTrue (allows (λ ty. known_ok so (known.Value ty)) o)) (sym is)
    (result_more (is_void ret) (is_plain ret) (is_object_by e.structs.sizes ret) (is_object so.shapes ret) (λ p k. subst IsTrue (object_told t so e g a ret) k) h)

-- declarations ----------------------------------------------------------------------

-- the numbers of the parameters
fresh_indices : (n : ℕ) → Fresh 0 n (indices n)
fresh_indices zero = fresh_none 0 0
fresh_indices (suc n) = fresh_both 0 n (suc n) (indices n) (n ∷ []) (omega arith) (omega arith) (fresh_indices n) (fresh_one n (suc n) (omega arith))

-- functions -------------------------------------------------------------------------

-- `e` stands before the block and `e'` behind it
module _ (t : Text) (b : Bodies) (s : FileScope) (e : Env) (h : Head) (d : IsHead t b s e h) (e' : Env) (ready : Ready e') (x : Extends e e')
    (made : Stmt) (is : IsStmt t (answer.Function h.ret) false e e' made) (braces : IsTrue (leaving made).braces) where
  abbrev func : Func
  func = record { name = h.at; params = length e.locals; locals = locals_of e'.locals e'.addressed; ret = d.ret; body = lowered_stmt e'.addressed made }

  many : length e'.addressed ≡ length e'.locals
  many = ready.good.marks.many

  same_params : map param_of (take func.params func.locals) ≡ map (λ (l : Span × Ty). Some l.1) e.locals
  same_params = params_same e.locals e'.locals e'.addressed x.locals many

  more_locals : length e.locals ≤ length e'.locals
  more_locals = starts_length e.locals e'.locals x.locals

  func_is : IsFunc h.params h.ret func
  func_is = record { takes = same_params ∙ sym d.params; gives = d.gives }

  loops_fresh : Fresh e.loops e'.loops (loop_ids func.body)
  loops_fresh = subst (λ ids. Fresh e.loops e'.loops ids) (sym (ids_kept e'.addressed made)) is.ids

  declared_fresh : IsTrue (distinct (indices func.params ++ declared func.body))
  declared_fresh = subst (λ ds. IsTrue (distinct (indices func.params ++ ds))) (sym (declared_kept e'.addressed made))
      (fresh_both 0 (length e.locals) (length e'.locals) (indices (length e.locals)) (declared made) (omega arith) more_locals (fresh_indices (length e.locals)) is.declares).0

  module _ (cx : Context) (i : Into t cx (after_function e')) where
    abbrev inner : Context
    inner = within cx func.locals

    into : Into t (with_addresses inner) e'
    into = into_within t cx e' many i

    objects : Each (λ (l : Span × Ty). IsTrue (is_object inner.shapes l.1)) e'.locals
    objects = each_more (λ (l : Span × Ty). IsTrue (is_object_by e'.structs.sizes l.1)) (λ l. IsTrue (is_object inner.shapes l.1))
        (λ l k. object_in t (with_addresses inner) e' ready.good into l.1 k) e'.locals ready.good.locals

    locals_ok : Each (λ (l : Local). IsTrue (local_ok inner l)) func.locals
    locals_ok = locals_fit inner.shapes e'.locals e'.addressed ready.good.marks.marked objects

    plain : IsTrue (values_plain inner)
    plain = every_of (λ (l : Local). l.addressed || is_plain l.ty) func.locals
        (each_more (λ (l : Local). IsTrue (local_ok inner l)) (λ l. IsTrue (l.addressed || is_plain l.ty)) (λ l k. and_right (is_object inner.shapes l.ty) _ k) func.locals locals_ok)

    body_typed : IsTrue (stmt_ok inner func.body)
    body_typed = stmt_typed e'.addressed made inner (sym (marks_same e'.locals e'.addressed many)) plain (is.used e'.addressed (set_self e'.addressed)) (is.typed (with_addresses inner) into)

    body_leaves : IsTrue (body_ok (leaving func.body) d.ret)
    body_leaves = subst (λ l. IsTrue (body_ok l d.ret)) (sym (leaving_kept e'.addressed made)) (and_both (leaving made).braces _ braces (is.leaves (with_addresses inner) into d.ret d.gives))

    body_sees : IsTrue (sees_ok func.body (indices func.params))
    body_sees = subst IsTrue (sym (sees_kept e'.addressed made (indices func.params))) (is.sees (indices func.params) d.covers)

    params_ok : Each (λ p. IsTrue (param_ok p)) (take func.params func.locals)
    params_ok = params_scalar (take func.params func.locals) e.locals same_params d.scalars

    result_fits : IsTrue (ret_ok inner d.ret)
    result_fits = result_more (is_void d.ret) (is_plain d.ret) (is_object_by e.structs.sizes d.ret) (is_plain d.ret && is_object inner.shapes d.ret)
        (λ p k. and_both (is_plain d.ret) _ p (object_in t (with_addresses inner) e d.ready.good (into_before t (with_addresses inner) e e' x into) d.ret k)) d.given

    few_params : IsTrue (nat_le func.params (length func.locals))
    few_params = le-leb (length e.locals) (length func.locals) (subst (λ n. length e.locals ≤ n) (sym (locals_many e'.locals e'.addressed many)) more_locals)

    func_fits : length func.locals < 2 ^ 32 → IsTrue (func_ok cx.structs cx.globals cx.funcs cx.formats func)
    unfolding func_ok
    func_fits few = every_of (λ b. b) (func_tests inner func) (
      body_typed,
      (
        body_leaves,
        (
          body_sees,
          (
            declared_fresh,
            (
              every_of (local_ok inner) func.locals locals_ok,
              (
                every_of param_ok (take func.params func.locals) params_ok,
                (
                  result_fits,
                  (
                    few_params,
                    (
                      lt-ltb (length func.locals) (2 ^ 32) few,
                      tt,
                    ),
                  ),
                ),
              ),
            ),
          ),
        ),
      ),
    )

  func_known : (o : Option Stmt) → o ≡ Some made → func_of h (length e.locals) e' h.ret o ≡ Some func
  func_known o k = ap (λ r. func_of h (length e.locals) e' r o) d.gives ∙ ap (λ o. func_of h (length e.locals) e' (Some d.ret) o) k

  body_of : e'.file ≡ e.file → (o : Option Stmt) → o ≡ Some made → IsBody t e e' h (func_of h (length e.locals) e' h.ret o)
  body_of file o k = record {
    ready = ready;
    extends = x;
    file = file;
    func = func;
    known = func_known o k;
    is = func_is;
    fine = func_fits;
    ids = loops_fresh;
  }

-- the block of a function -------------------------------------------------------------

module _ (t : Text) (lexed : IsLexed t) where
  pub body_fine : (b : Bodies) (s : FileScope) (e : Env) (h : Head) → IsHead t b s e h → (block : Raw) → Shaped t block → IsTrue (is_block (rule_in block)) → (n : ℕ) → Clean (functions.bodied t b n h block) e →
      IsBody t e (functions.bodied t b n h block e).env h (functions.bodied t b n h block e).part × Spoken t block
  unfolding functions.bodied
  body_fine b s e h d block shaped is n c =
      let a = answer.Function h.ret in
      let j : Judge (Option Stmt) = (statement t block).body a false in
      let gives = answer_fine t e d.ready.good h.ret d.ret d.gives d.given in
      let clean : Clean j e = record { faultless = none_right (name_fault_unless (is_first b h.name n) h.at) (j e).faults c.faultless; within = c.within } in
      let m = (statement_fine t lexed block shaped).body is a false e d.ready gives clean in
      (body_of t b s e h d (j e).env m.ready m.extends m.holds.made m.holds.stmt m.holds.braces m.file (j e).part m.holds.known, m.holds.spoken)
