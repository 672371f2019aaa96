-- `for`.
use Rattle.std.proofs.Common.{◌≡◌, ℕ, ◌≤◌, List, [], ◌∷◌, ◌++◌, length, map, Bool, true, false, refl, sym, ap, ◌∙◌, subst}
use Rattle.std.specs.Prelude.{IsTrue, ◌||◌, Option, Some, None}
use Rattle.xc_text_place.specs.declared.Span.{Span}
use Rattle.xc_tree.specs.declared.expr.Expr.{Expr}
use Rattle.xc_tree.specs.declared.stmt.Stmt.{Stmt}
use Rattle.xc_tree.specs.declared.stmt.LoopForm.TheVariants as form
use Rattle.xc_tree.specs.declared.stmt.StmtKind.{Loop, roll-StmtKind}
use Rattle.xc_tree.specs.declared.stmt.Item.TheOpen.{StmtKind-F}
use Rattle.xc_tree.specs.Lists.{allows, joined}
use Rattle.xc_tree.specs.Typed.{Context, value_ok}
use Rattle.xc_tree.specs.Walk.{loop_ids, declared}
use Rattle.xc_tree.specs.Statements.{test_ok, leaving, sight, sees, added, clause_ok}
use Rattle.xc_tree.proofs.Lists.{and_left, and_right}
use Rattle.xc_raw.specs.declared.rule.Rule.{Rule}
use Rattle.xc_raw.specs.declared.rule.Rule.TheVariants as rule
use Rattle.xc_raw.specs.declared.tree.Raw.{Raw, out-Raw}
use Rattle.xc_type_scopes.specs.declared.env.Env.{Env}
use Rattle.xc_type_scopes.specs.Env as env
use Rattle.xc_type_scopes.specs.Judge.{Judge, give, and_then, in_block}
use Rattle.xc_type_expressions.specs.declared.text.Text.{Text}
use Rattle.xc_type_statement_parts.specs.declared.answer.Answer.{Answer}
use Rattle.xc_type_statement_parts.specs.declared.make.Header.{Header}
use Rattle.xc_type_statement_parts.specs.declared.pragmas.Begun.{Begun}
use Rattle.xc_type_statement_parts.specs.Making.{Stmts, stmt, headed, loop_made}
use Rattle.xc_type_statement_parts.specs.Pragmas.{begun}
use Rattle.xc_type_statements.specs.Stated.{statement, tested, evaluated, there, under, test_clause, step_clause, clauses, repeated, for_inner, for_by}
use Rattle.xc_type_lowering.specs.Accessed.{only_accessed}
use Rattle.xc_welltyped.proofs.Types.{or_right}
use Rattle.xc_welltyped_claims.specs.Lists.{Each, StaysSet, Fresh}
use Rattle.xc_welltyped_claims.specs.Things.{InScopes, SeenThing}
use Rattle.xc_welltyped_claims.specs.Env.{Ready, Stays, Extends, Into, Covers}
use Rattle.xc_welltyped_claims.specs.Judges.{Gives}
use Rattle.xc_welltyped_claims.specs.Shaped.{rule_in, is_expr, is_sub, is_first, is_clause, is_step, is_block_item, one_at_most, is_token, level_ok, Shaped, IsLexed, Spoken}
use Rattle.xc_welltyped_claims.proofs.Lists.{set_then, starts_length}
use Rattle.xc_welltyped_claims.proofs.Env.{stays_then, stays_extends, extends_then, into_before}
use Rattle.xc_welltyped_claims.proofs.Judges.{given_self, made_of, clean_first, clean_second, clean_mapped, clean_framed}
use Rattle.xc_welltyped_claims.proofs.Nodes.{parts_shaped, level_shaped}
use Rattle.xc_welltyped_claims.proofs.Strings.{spoken_of}
use Rattle.xc_welltyped_statements.specs.Stmts.{inside, IsStmt, AreStmts, MakesFor, HasBegun}
use Rattle.xc_welltyped_statements.proofs.Passing.{passing_test, passing_step, statement_passing}
use Rattle.xc_welltyped_statements.proofs.Folds.{stmt_by, adds_by, part_leaves}
use Rattle.xc_welltyped_statements.proofs.Fresh.{fresh_both}
use Rattle.xc_welltyped_statements.proofs.Places.{answer_inside, ready_inside, covers_inside, extends_block, ready_block, covers_block, into_block, into_inside}
use Rattle.xc_welltyped_statements.proofs.Values.{test_typed}
use Rattle.xc_welltyped_statements.proofs.Simple.{covers_stays, one_spoken, MadeOne, Valued, answer_extends, tested_fine, evaluated_fine}
use Rattle.xc_welltyped_statements.proofs.Branches.{PartIs, stmt_first, under_fine}
use Rattle.xc_welltyped_statements.proofs.Looped.{Looped, loop_form, header_is, loop_is}
use Rattle.xc_welltyped_statements.proofs.Loops.{Begins, covers_begun}

-- a test or a step, or none
pub record MadeClause (t : Text) (ok : Context → Expr → Bool) (es : List Raw) (e : Env) (o : Option (Option Expr)) : Type 0 where
  pub made : Option Expr
  pub is_made : o ≡ Some made
  pub typed : (cx : Context) → Into t cx e → IsTrue (allows (ok cx) made)
  pub seen : (seen : List ℕ) → Covers seen e → IsTrue (allows (sees seen) made)
  pub used : (flags : List Bool) → StaysSet e.addressed flags → IsTrue (allows (only_accessed flags) made)
  pub spoken : Each (Spoken t) es

no_clause : (t : Text) (ok : Context → Expr → Bool) (e : Env) → MadeClause t ok [] e (Some None)
no_clause t ok e = record { made = None; is_made = refl; typed = λ cx i. refl; seen = λ seen c. refl; used = λ flags m. refl; spoken = tt }

module _ (t : Text) (valued : Valued t) where
  test_fine : (span : Span) (es : List Raw) → Each (Shaped t) es → IsTrue (one_at_most is_expr es) → Gives (MadeClause t test_ok es) (test_clause t span es)
  unfolding test_clause
  test_fine span [] h o e g c = given_self e _ g (no_clause t test_ok e)
  test_fine span (x ∷ es) h o e g c =
      let j = tested t span x in
      let m = tested_fine t valued span x h.0 (and_left _ _ o) e g (clean_mapped there j e c) in
      let v = m.holds in
      record {
        good = m.good;
        stays = m.stays;
        holds = record {
          made = Some v.made;
          is_made = ap there v.is_made;
          typed = λ cx i. test_typed t (j e).env v.ty v.made v.value v.passes cx i;
          seen = v.value.seen;
          used = v.value.used;
          spoken = one_spoken t x es (and_right (is_expr (rule_in x)) _ o) v.spoken;
        };
      }

  step_fine : (es : List Raw) → Each (Shaped t) es → IsTrue (one_at_most is_expr es) → Gives (MadeClause t value_ok es) (step_clause t es)
  unfolding step_clause
  step_fine [] h o e g c = given_self e _ g (no_clause t value_ok e)
  step_fine (x ∷ es) h o e g c =
      let j = evaluated t x in
      let m = evaluated_fine t valued x h.0 (and_left _ _ o) e g (clean_mapped there j e c) in
      let v = m.holds in
      record {
        good = m.good;
        stays = m.stays;
        holds = record {
          made = Some v.made;
          is_made = ap there v.is_made;
          typed = v.value.typed;
          seen = v.value.seen;
          used = v.value.used;
          spoken = one_spoken t x es (and_right (is_expr (rule_in x)) _ o) v.spoken;
        };
      }

-- nodes of clauses
clause_parts : (t : Text) (n : Raw) (r : Rule) (ps : List Raw) → IsTrue (is_clause r) → IsTrue (level_ok t n r ps) → IsTrue (one_at_most is_expr ps) × (is_token r ps ≡ false)
unfolding level_ok
clause_parts t n rule.Clause ps h k = (k, refl)
clause_parts t n r ps h k = absurd cc

step_parts : (t : Text) (n : Raw) (r : Rule) (ps : List Raw) → IsTrue (is_step r) → IsTrue (level_ok t n r ps) → IsTrue (one_at_most is_expr ps) × (is_token r ps ≡ false)
unfolding level_ok
step_parts t n rule.Step ps h k = (k, refl)
step_parts t n r ps h k = absurd cc

module _ (t : Text) (lexed : IsLexed t) (valued : Valued t) where
  test_of : (span : Span) (n : Raw) → PartIs t n → IsTrue (is_clause (rule_in n)) → Gives (λ e o. MadeClause t test_ok (out-Raw n).parts e o × Spoken t n) (test_clause t span (out-Raw (statement t n).node).parts)
  test_of span n h x = subst (λ k. Gives (λ e o. MadeClause t test_ok (out-Raw n).parts e o × Spoken t n) (test_clause t span (out-Raw k).parts)) (sym h.0.node_is) (λ e g c.
      let ps = clause_parts t n (rule_in n) (out-Raw n).parts x (level_shaped t n h.1) in
      let m = test_fine t valued span (out-Raw n).parts (parts_shaped t n h.1) ps.0 e g c in
      record { good = m.good; stays = m.stays; holds = (m.holds, spoken_of t lexed n h.1 ps.1 m.holds.spoken) })

  step_of : (n : Raw) → PartIs t n → IsTrue (is_step (rule_in n)) → Gives (λ e o. MadeClause t value_ok (out-Raw n).parts e o × Spoken t n) (step_clause t (out-Raw (statement t n).node).parts)
  step_of n h x = subst (λ k. Gives (λ e o. MadeClause t value_ok (out-Raw n).parts e o × Spoken t n) (step_clause t (out-Raw k).parts)) (sym h.0.node_is) (λ e g c.
      let ps = step_parts t n (rule_in n) (out-Raw n).parts x (level_shaped t n h.1) in
      let m = step_fine t valued (out-Raw n).parts (parts_shaped t n h.1) ps.0 e g c in
      record { good = m.good; stays = m.stays; holds = (m.holds, spoken_of t lexed n h.1 ps.1 m.holds.spoken) })

  -- the clauses together, one scope in which the body stands
  record MadeClauses (a : Answer) (n m k : Raw) (e e' : Env) (o : Option Header) : Type 0 where
    pub init : List Stmt
    pub test : Option Expr
    pub step : Option Expr
    pub is_made : o ≡ Some (record { init = init; test = test; step = step })
    pub between : Env
    pub ready : Ready between
    pub extends : Extends e between
    pub stays : Stays between e'
    pub stmts : AreStmts t a true e between init
    pub clause : IsTrue (clause_ok (map leaving init))
    pub tests : (cx : Context) → Into t cx e' → IsTrue (allows (test_ok cx) test)
    pub steps : (cx : Context) → Into t cx e' → IsTrue (allows (value_ok cx) step)
    pub test_sees : (seen : List ℕ) → Covers seen e' → IsTrue (allows (sees seen) test)
    pub step_sees : (seen : List ℕ) → Covers seen e' → IsTrue (allows (sees seen) step)
    pub test_used : (flags : List Bool) → StaysSet e'.addressed flags → IsTrue (allows (only_accessed flags) test)
    pub step_used : (flags : List Bool) → StaysSet e'.addressed flags → IsTrue (allows (only_accessed flags) step)
    pub spoken : Each (Spoken t) (n ∷ m ∷ k ∷ [])

  covers_before : (seen : List ℕ) (e e' : Env) → Stays e e' → Covers seen e' → Covers seen e
  covers_before seen e e' s c = subst (λ o. InScopes (SeenThing seen) o) s.own c

  first_rule : (n : Raw) → IsTrue (is_first (rule_in n)) → IsTrue (is_block_item (rule_in n) || (is_sub (rule_in n) || is_first (rule_in n)))
  first_rule n h = or_right (is_block_item (rule_in n)) _ (or_right (is_sub (rule_in n)) _ h)

  clauses_fine : (a : Answer) (span : Span) (n m k : Raw) (ns : List Raw) → PartIs t n → PartIs t m → PartIs t k → IsTrue (is_first (rule_in n)) → IsTrue (is_clause (rule_in m)) → IsTrue (is_step (rule_in k)) →
      MakesFor t a (MadeClauses a n m k) (clauses t span a (map (statement t) (n ∷ m ∷ k ∷ ns)))
  unfolding clauses
  clauses_fine a span n m k ns hn hm hk xn xm xk e r w c =
      let j1 = (statement t n).stated a true in
      let j2 = test_clause t span (out-Raw (statement t m).node).parts in
      let j3 = step_clause t (out-Raw (statement t k).node).parts in
      let k3 : Stmts → Option (Option Expr) → Option (Option Expr) → Judge (Option Header) = λ i c s. give (headed i c s) [] in
      let k2 : Stmts → Option (Option Expr) → Judge (Option Header) = λ i c. and_then j3 (k3 i c) in
      let k1 : Stmts → Judge (Option Header) = λ i. and_then j2 (k2 i) in
      let p3 = passing_step t (out-Raw (statement t k).node).parts in
      let m1 = hn.0.stated (first_rule n xn) a true e r w (clean_first j1 k1 e c (λ v f i. passing_test t span (out-Raw (statement t m).node).parts f (p3 (j2 f).env i))) in
      let e1 = (j1 e).env in
      let c1 = clean_second j1 k1 e c in
      let g2 = test_of span m hm xm e1 m1.ready.good (clean_first j2 (k2 (j1 e).part) e1 c1 (λ v. p3)) in
      let e2 = (j2 e1).env in
      let c2 = clean_second j2 (k2 (j1 e).part) e1 c1 in
      let g3 = step_of k hk xk e2 g2.good (clean_first j3 (k3 (j1 e).part (j2 e1).part) e2 c2 (λ v f i. i)) in
      let e3 = (j3 e2).env in
      let m2 = made_of e1 e2 _ m1.ready g2 in
      let m3 = made_of e2 e3 _ m2.ready g3 in
      let s = m1.holds in
      let v = g2.holds.0 in
      let q = g3.holds.0 in
      record {
        ready = m3.ready;
        extends = extends_then e e1 e3 m1.extends (extends_then e1 e2 e3 m2.extends m3.extends);
        file = m3.file ∙ m2.file ∙ m1.file;
        holds = record {
          init = s.made;
          test = v.made;
          step = q.made;
          is_made = header_is (j1 e).part (j2 e1).part (j3 e2).part s.made v.made q.made s.known v.is_made q.is_made;
          between = e1;
          ready = m1.ready;
          extends = m1.extends;
          stays = stays_then e1 e2 e3 g2.stays g3.stays;
          stmts = s.stmts;
          clause = s.clause xn;
          tests = λ cx i. v.typed cx (into_before t cx e2 e3 (stays_extends e2 e3 g3.stays) i);
          steps = q.typed;
          test_sees = λ seen d. v.seen seen (covers_before seen e2 e3 g3.stays d);
          step_sees = q.seen;
          test_used = λ flags d. v.used flags (set_then e2.addressed e3.addressed flags g3.stays.addressed d);
          step_used = q.used;
          spoken = (s.spoken, (g2.holds.1, (g3.holds.1, tt)));
        };
      }

  for_looped : (a : Answer) (e e1 e3 : Env) (b : Begun) (n m k : Raw) (o : Option Header) (h : HasBegun t e e1 b) (q : MadeClauses a n m k (env.inside e1) e3 o) (e4 : Env) (s : Stmt) → Extends e3 e4 → IsStmt t a true e3 e4 s → (sight s).adds ≡ [] → Extends (env.inside e1) e4 →
      Looped t a e (env.outside e4) form.For b q.init q.test q.step s
  for_looped a e e1 e3 b n m k o h q e4 s l f adds all =
      let e2 = env.inside e1 in
      let c2 : (seen : List ℕ) → Covers seen e → Covers seen e2 = λ seen c. covers_inside seen e1 (covers_begun t e e1 b h seen c) in
      let c3 : (seen : List ℕ) → Covers seen e → Covers (added (map sight q.init) seen) e3 = λ seen c. covers_stays (added (map sight q.init) seen) q.between e3 q.stays (q.stmts.sees seen (c2 seen c)).1 in
      let l' = extends_then q.between e3 e4 (stays_extends q.between e3 q.stays) l in
      let g = stmt_first t a true q.between e3 e4 s q.stays f in
      record {
        inits = λ cx i. q.stmts.typed cx (into_before t cx q.between e4 l' (into_block t cx e4 i));
        tests = λ cx i. q.tests cx (into_before t cx e3 e4 l (into_block t cx e4 i));
        steps = λ cx i. q.steps cx (into_before t cx e3 e4 l (into_block t cx e4 i));
        body = λ cx i. f.typed cx (into_block t cx e4 i);
        pragmas = λ cx i. h.pragmas cx (into_inside t cx e1 (into_before t cx e2 e4 all (into_block t cx e4 i)));
        header = q.clause;
        leaves = λ cx i ret r. part_leaves s (inside ret true) adds (f.leaves cx (into_block t cx e4 i) ret r);
        roots = h.sees;
        firsts = λ seen c. (q.stmts.sees seen (c2 seen c)).0;
        test_sees = λ seen c. q.test_sees _ (c3 seen c);
        step_sees = λ seen c. q.step_sees _ (c3 seen c);
        body_sees = λ seen c. f.sees _ (c3 seen c);
        number = h.id;
        more = subst (λ n. n ≤ e4.loops) h.loops all.loops;
        ids = subst (λ n. Fresh n e4.loops (joined (map loop_ids q.init) ++ loop_ids s)) h.loops
            (fresh_both e1.loops q.between.loops e4.loops (joined (map loop_ids q.init)) (loop_ids s) q.extends.loops l'.loops q.stmts.ids g.ids);
        declares = subst (λ ls. Fresh (length ls) (length e4.locals) (joined (map declared q.init) ++ declared s)) h.locals
            (fresh_both (length e1.locals) (length q.between.locals) (length e4.locals) (joined (map declared q.init)) (declared s) (starts_length e1.locals q.between.locals q.extends.locals) (starts_length q.between.locals e4.locals l'.locals) q.stmts.declares g.declares);
        inits_used = λ flags d. q.stmts.used flags (set_then q.between.addressed e4.addressed flags l'.addressed d);
        test_used = λ flags d. q.test_used flags (set_then e3.addressed e4.addressed flags l.addressed d);
        step_used = λ flags d. q.step_used flags (set_then e3.addressed e4.addressed flags l.addressed d);
        body_used = λ flags d. f.used flags d;
      }

  pub for_fine : Begins t → (a : Answer) (looping : Bool) (span : Span) (n m k x : Raw) → Each (PartIs t) (n ∷ m ∷ k ∷ x ∷ []) → IsTrue (is_first (rule_in n)) → IsTrue (is_clause (rule_in m)) → IsTrue (is_step (rule_in k)) → IsTrue (is_sub (rule_in x)) →
      MakesFor t a (MadeOne t a looping (n ∷ m ∷ k ∷ x ∷ [])) (for_by t span a (map (statement t) (n ∷ m ∷ k ∷ x ∷ [])))
  unfolding for_by for_inner repeated roll-StmtKind denote.Hole.Carrier.roll
  for_fine begins a looping span n m k x h xn xm xk xx e r w c =
      let ps = map (statement t) (n ∷ m ∷ k ∷ x ∷ []) in
      let j1 = begun t span.start in
      let j2 = clauses t span a ps in
      let j3 = under a true (statement t x) in
      let k3 : Begun → Option Header → Option Stmt → Judge (Option Stmt) = λ b h x. give (loop_made span form.For b h x) [] in
      let k2 : Begun → Option Header → Judge (Option Stmt) = λ b h. and_then j3 (k3 b h) in
      let k1 : Begun → Judge (Option Stmt) = λ b. in_block (and_then j2 (k2 b)) in
      let m1 = begins span.start e r in
      let e1 = (j1 e).env in
      let b = (j1 e).part in
      let e2 = env.inside e1 in
      let c1 = clean_framed env.inside env.outside (and_then j2 (k2 b)) e1 (λ e. refl) (clean_second j1 k1 e c) in
      let m2 = clauses_fine a span n m k (x ∷ []) h.0 h.1.0 h.1.1.0 xn xm xk e2 (ready_inside e1 m1.ready) (answer_inside t a e1 (answer_extends t a e e1 m1.extends w)) (clean_first j2 (k2 b) e2 c1 (λ v. (statement_passing t x).stated a true)) in
      let e3 = (j2 e2).env in
      let c2 = clean_second j2 (k2 b) e2 c1 in
      let m3 = under_fine t a true x h.1.1.1.0 xx e3 m2.ready (answer_extends t a e2 e3 m2.extends (answer_inside t a e1 (answer_extends t a e e1 m1.extends w))) (clean_first j3 (k3 b (j2 e2).part) e3 c2 (λ v f i. i)) in
      let e4 = (j3 e3).env in
      let q = m2.holds in
      let s = m3.holds in
      let all = extends_then e2 e3 e4 m2.extends m3.extends in
      let f = StmtKind-F.Loop b.id form.For q.init q.test q.step s.made b.pragmas in
      record {
        ready = ready_block e1 e4 all m1.ready m3.ready;
        extends = extends_then e e1 (env.outside e4) m1.extends (extends_block e1 e4 all);
        file = m3.file ∙ m2.file ∙ m1.file;
        holds = record {
          made = stmt span (Loop b.id form.For q.init q.test q.step s.made b.pragmas);
          is_made = loop_is span form.For b (record { init = q.init; test = q.test; step = q.step }) s.made _ _ q.is_made s.is_made;
          stmt = stmt_by t a looping e (env.outside e4) span f (loop_form t a looping e (env.outside e4) form.For b q.init q.test q.step s.made
              (for_looped a e e1 e3 b n m k (j2 e2).part m1.holds q e4 s.made m3.extends s.stmt s.adds all));
          adds = adds_by span f;
          covers = λ seen d. covers_block e1 e4 all seen (covers_begun t e e1 b m1.holds seen d);
          spoken = (q.spoken.0, (q.spoken.1.0, (q.spoken.1.1.0, (s.spoken.0, tt))));
        };
      }
