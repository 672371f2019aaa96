-- What a loop asks of its parts.
use Rattle.std.proofs.Common.{◌≡◌, ℕ, ◌+◌, ◌≤◌, List, [], ◌∷◌, ◌++◌, length, map, Bool, true, sym, ap, ◌∙◌, subst}
use Rattle.std.specs.Prelude.{IsTrue, Option, Some, None}
use Rattle.xc_text_place.specs.declared.Span.{Span}
use Rattle.xc_tree.specs.declared.ty.Ty.{Ty}
use Rattle.xc_tree.specs.declared.expr.Expr.{Expr}
use Rattle.xc_tree.specs.declared.stmt.Stmt.{Stmt}
use Rattle.xc_tree.specs.declared.stmt.LoopForm.{LoopForm}
use Rattle.xc_tree.specs.declared.stmt.StmtKind.{Loop}
use Rattle.xc_tree.specs.declared.stmt.Item.TheOpen.{StmtKind-F}
use Rattle.xc_tree.specs.Lists.{allows, joined, every}
use Rattle.xc_tree.specs.Typed.{Context, value_ok}
use Rattle.xc_tree.specs.Walk.{loop_ids, declared}
use Rattle.xc_tree.specs.Statements.{header_ok, test_ok, stmt_ok, leaving, part_ok, sight, sees, sees_all, added, sees_ok, pragmas_ok, sees_pragmas}
use Rattle.xc_tree.proofs.Lists.{and_both}
use Rattle.xc_type_scopes.specs.declared.env.Env.{Env}
use Rattle.xc_type_expressions.specs.declared.text.Text.{Text}
use Rattle.xc_type_statement_parts.specs.declared.answer.Answer.{Answer}
use Rattle.xc_type_statement_parts.specs.declared.make.Header.{Header}
use Rattle.xc_type_statement_parts.specs.declared.pragmas.Begun.{Begun}
use Rattle.xc_type_statement_parts.specs.Answers.{answer_ty}
use Rattle.xc_type_statement_parts.specs.Making.{Stmts, stmt, headed, test_alone, loop_made}
use Rattle.xc_type_lowering.specs.Accessed.{only_accessed, stmt_accessed}
use Rattle.xc_welltyped_claims.specs.Lists.{Each, StaysSet, Fresh}
use Rattle.xc_welltyped_claims.specs.Env.{Into, Covers}
use Rattle.xc_welltyped_statements.specs.Stmts.{inside}
use Rattle.xc_welltyped_statements.proofs.Folds.{IsForm}
use Rattle.xc_welltyped_statements.proofs.Fresh.{less_more, one_more, fresh_one, fresh_both}
use Rattle.xc_welltyped_structs.proofs.Lists.{every_of}

pub record Looped (t : Text) (a : Answer) (e e' : Env) (f : LoopForm) (b : Begun) (init : List Stmt) (test step : Option Expr) (s : Stmt) : Type 0 where
  pub inits : (cx : Context) → Into t cx e' → Each (λ s. IsTrue (stmt_ok cx s)) init
  pub tests : (cx : Context) → Into t cx e' → IsTrue (allows (test_ok cx) test)
  pub steps : (cx : Context) → Into t cx e' → IsTrue (allows (value_ok cx) step)
  pub body : (cx : Context) → Into t cx e' → IsTrue (stmt_ok cx s)
  pub pragmas : (cx : Context) → Into t cx e' → IsTrue (pragmas_ok cx b.pragmas)
  pub header : IsTrue (header_ok f (map leaving init) test step)
  pub leaves : (cx : Context) → Into t cx e' → (ret : Ty) → answer_ty a ≡ Some ret → IsTrue (part_ok (leaving s) (inside ret true))
  pub roots : (seen : List ℕ) → Covers seen e → IsTrue (sees_pragmas seen b.pragmas)
  pub firsts : (seen : List ℕ) → Covers seen e → IsTrue (sees_all (map sight init) seen)
  pub test_sees : (seen : List ℕ) → Covers seen e → IsTrue (allows (sees (added (map sight init) seen)) test)
  pub step_sees : (seen : List ℕ) → Covers seen e → IsTrue (allows (sees (added (map sight init) seen)) step)
  pub body_sees : (seen : List ℕ) → Covers seen e → IsTrue (sees_ok s (added (map sight init) seen))
  pub number : b.id ≡ e.loops
  pub more : e.loops + 1 ≤ e'.loops
  pub ids : Fresh (e.loops + 1) e'.loops (joined (map loop_ids init) ++ loop_ids s)
  pub declares : Fresh (length e.locals) (length e'.locals) (joined (map declared init) ++ declared s)
  pub inits_used : (flags : List Bool) → StaysSet e'.addressed flags → Each (λ s. IsTrue (stmt_accessed flags s)) init
  pub test_used : (flags : List Bool) → StaysSet e'.addressed flags → IsTrue (allows (only_accessed flags) test)
  pub step_used : (flags : List Bool) → StaysSet e'.addressed flags → IsTrue (allows (only_accessed flags) step)
  pub body_used : (flags : List Bool) → StaysSet e'.addressed flags → IsTrue (stmt_accessed flags s)

module _ (t : Text) (a : Answer) (looping : Bool) where
  pub loop_form : (e e' : Env) (f : LoopForm) (b : Begun) (init : List Stmt) (test step : Option Expr) (s : Stmt) → Looped t a e e' f b init test step s → IsForm t a looping e e' (StmtKind-F.Loop b.id f init test step s b.pragmas)
  loop_form e e' f b init test step s l = record {
    typed = λ cx i. and_both (every (map (stmt_ok cx) init)) _ (every_of (stmt_ok cx) init (l.inits cx i))
        (and_both (allows (test_ok cx) test) _ (l.tests cx i) (and_both (allows (value_ok cx) step) _ (l.steps cx i) (and_both (stmt_ok cx s) _ (l.body cx i) (l.pragmas cx i))));
    leaves = λ cx i ret h. and_both (header_ok f (map leaving init) test step) _ l.header (l.leaves cx i ret h);
    sees = λ seen c. and_both (sees_pragmas seen b.pragmas) _ (l.roots seen c) (and_both (sees_all (map sight init) seen) _ (l.firsts seen c)
        (and_both (allows (sees (added (map sight init) seen)) test) _ (l.test_sees seen c) (and_both (allows (sees (added (map sight init) seen)) step) _ (l.step_sees seen c) (l.body_sees seen c))));
    ids = fresh_both e.loops (e.loops + 1) e'.loops (b.id ∷ []) (joined (map loop_ids init) ++ loop_ids s) (less_more e.loops) l.more
        (subst (λ n. Fresh e.loops (e.loops + 1) (n ∷ [])) (sym l.number) (fresh_one e.loops (e.loops + 1) (one_more e.loops))) l.ids;
    declares = l.declares;
    used = λ flags m. and_both (every (map (stmt_accessed flags) init)) _ (every_of (stmt_accessed flags) init (l.inits_used flags m))
        (and_both (allows (only_accessed flags) test) _ (l.test_used flags m) (and_both (allows (only_accessed flags) step) _ (l.step_used flags m) (l.body_used flags m)));
  }

-- what is made of made parts
pub alone_is : (span : Span) (f : LoopForm) (b : Begun) (x : Expr) (s : Stmt) (c : Option Expr) (y : Option Stmt) → c ≡ Some x → y ≡ Some s →
    loop_made span f b (test_alone c) y ≡ Some (stmt span (Loop b.id f [] (Some x) None s b.pragmas))
unfolding loop_made test_alone headed
alone_is span f b x s c y p q = ap (λ c. loop_made span f b (test_alone c) y) p ∙ ap (λ y. loop_made span f b (test_alone (Some x)) y) q

pub header_is : (i : Stmts) (c d : Option (Option Expr)) (init : List Stmt) (test step : Option Expr) → i ≡ Some init → c ≡ Some test → d ≡ Some step →
    headed i c d ≡ Some (record { init = init; test = test; step = step })
unfolding headed
header_is i c d init test step p q r = ap (λ i. headed i c d) p ∙ (ap (λ c. headed (Some init) c d) q ∙ ap (λ d. headed (Some init) (Some test) d) r)

pub loop_is : (span : Span) (f : LoopForm) (b : Begun) (h : Header) (s : Stmt) (o : Option Header) (y : Option Stmt) → o ≡ Some h → y ≡ Some s →
    loop_made span f b o y ≡ Some (stmt span (Loop b.id f h.init h.test h.step s b.pragmas))
unfolding loop_made
loop_is span f b h s o y p q = ap (λ o. loop_made span f b o y) p ∙ ap (λ y. loop_made span f b (Some h) y) q
