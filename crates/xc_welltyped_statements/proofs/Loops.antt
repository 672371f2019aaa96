-- `while` and `do`.
use Rattle.std.proofs.Common.{◌≡◌, ℕ, ◌+◌, ◌≤◌, List, [], ◌∷◌, length, map, Bool, true, refl, sym, ◌∙◌, subst, arith}
use Rattle.std.specs.Prelude.{IsTrue, Option, Some, None}
use Rattle.xc_text_place.specs.declared.Span.{Span}
use Rattle.xc_tree.specs.declared.ty.Ty.{Ty}
use Rattle.xc_tree.specs.declared.expr.Expr.{Expr}
use Rattle.xc_tree.specs.declared.stmt.Stmt.{Stmt}
use Rattle.xc_tree.specs.declared.stmt.LoopForm.{LoopForm}
use Rattle.xc_tree.specs.declared.stmt.LoopForm.TheVariants as form
use Rattle.xc_tree.specs.declared.stmt.StmtKind.{Loop, roll-StmtKind}
use Rattle.xc_tree.specs.declared.stmt.Item.TheOpen.{StmtKind-F}
use Rattle.xc_tree.specs.Types.{is_plain}
use Rattle.xc_tree.specs.Typed.{Context}
use Rattle.xc_tree.specs.Walk.{loop_ids, declared}
use Rattle.xc_tree.specs.Statements.{header_ok, sight}
use Rattle.xc_raw.specs.declared.tree.Raw.{Raw}
use Rattle.xc_type_scopes.specs.declared.env.Env.{Env}
use Rattle.xc_type_scopes.specs.Judge.{Judge, give, and_then}
use Rattle.xc_type_expressions.specs.declared.text.Text.{Text}
use Rattle.xc_type_statement_parts.specs.declared.answer.Answer.{Answer}
use Rattle.xc_type_statement_parts.specs.declared.pragmas.Begun.{Begun}
use Rattle.xc_type_statement_parts.specs.Making.{stmt, test_alone, loop_made}
use Rattle.xc_type_statement_parts.specs.Pragmas.{begun}
use Rattle.xc_type_statements.specs.Stated.{statement, tested, under, while_by, do_by}
use Rattle.xc_welltyped_claims.specs.Lists.{Each, Fresh}
use Rattle.xc_welltyped_claims.specs.Things.{InScopes, SeenThing}
use Rattle.xc_welltyped_claims.specs.Env.{Ready, Stays, Extends, Into, Covers}
use Rattle.xc_welltyped_claims.specs.Judges.{Made}
use Rattle.xc_welltyped_claims.specs.Shaped.{rule_in, is_expr, is_sub}
use Rattle.xc_welltyped_claims.proofs.Lists.{set_then, starts_length}
use Rattle.xc_welltyped_claims.proofs.Env.{stays_extends, extends_then, into_before}
use Rattle.xc_welltyped_claims.proofs.Judges.{made_of, clean_first, clean_second}
use Rattle.xc_welltyped_statements.specs.Stmts.{inside, IsStmt, MakesFor, HasBegun}
use Rattle.xc_welltyped_statements.proofs.Passing.{passing_tested, statement_passing}
use Rattle.xc_welltyped_statements.proofs.Folds.{stmt_by, adds_by, part_leaves}
use Rattle.xc_welltyped_statements.proofs.Fresh.{fresh_wider}
use Rattle.xc_welltyped_statements.proofs.Values.{IsValue, test_typed}
use Rattle.xc_welltyped_statements.proofs.Simple.{covers_stays, MadeOne, Valued, answer_extends}
use Rattle.xc_welltyped_statements.proofs.Branches.{PartIs, under_fine, test_at}
use Rattle.xc_welltyped_statements.proofs.Looped.{Looped, loop_form, alone_is}

-- assumed of pragmas
abbrev pub Begins : Text → Type 0
Begins t = (at : ℕ) (e : Env) → Ready e → Made e (begun t at e).env (HasBegun t e (begun t at e).env (begun t at e).part)

-- where a loop has begun
pub covers_begun : (t : Text) (e e' : Env) (b : Begun) → HasBegun t e e' b → (seen : List ℕ) → Covers seen e → Covers seen e'
covers_begun t e e' b h seen c = subst (λ o. InScopes (SeenThing seen) o) (sym h.own) c

module _ (t : Text) (a : Answer) where
  -- a test before a body, or one behind it
  module _ (f : LoopForm) (hd : (x : Expr) → IsTrue (header_ok f [] (Some x) None)) (e e1 : Env) (b : Begun) (h : HasBegun t e e1 b) where
    ids_from : (e3 : Env) (s : Stmt) → Fresh e1.loops e3.loops (loop_ids s) → Fresh (e.loops + 1) e3.loops (loop_ids s)
    ids_from e3 s = subst (λ n. Fresh n e3.loops (loop_ids s)) h.loops

    declares_from : (e3 : Env) (s : Stmt) → Fresh (length e1.locals) (length e3.locals) (declared s) → Fresh (length e.locals) (length e3.locals) (declared s)
    declares_from e3 s = subst (λ l. Fresh (length l) (length e3.locals) (declared s)) h.locals

    pub while_looped : (e2 e3 : Env) (ty : Ty) (x : Expr) (s : Stmt) → Stays e1 e2 → Extends e2 e3 → IsValue t e2 ty x → IsTrue (is_plain ty) → IsStmt t a true e2 e3 s → (sight s).adds ≡ [] → Looped t a e e3 f b [] (Some x) None s
    while_looped e2 e3 ty x s k l v p g q =
        let back : (cx : Context) → Into t cx e3 → Into t cx e1 = λ cx i. into_before t cx e1 e3 (extends_then e1 e2 e3 (stays_extends e1 e2 k) l) i in
        let c1 : (seen : List ℕ) → Covers seen e → Covers seen e2 = λ seen c. covers_stays seen e1 e2 k (covers_begun t e e1 b h seen c) in
        record {
          inits = λ cx i. tt;
          tests = λ cx i. test_typed t e2 ty x v p cx (into_before t cx e2 e3 l i);
          steps = λ cx i. refl;
          body = λ cx i. g.typed cx i;
          pragmas = λ cx i. h.pragmas cx (back cx i);
          header = hd x;
          leaves = λ cx i ret r. part_leaves s (inside ret true) q (g.leaves cx i ret r);
          roots = λ seen c. h.sees seen c;
          firsts = λ seen c. refl;
          test_sees = λ seen c. v.seen seen (c1 seen c);
          step_sees = λ seen c. refl;
          body_sees = λ seen c. g.sees seen (c1 seen c);
          number = h.id;
          more = subst (λ n. n ≤ e3.loops) (k.loops ∙ h.loops) l.loops;
          ids = ids_from e3 s (subst (λ n. Fresh n e3.loops (loop_ids s)) k.loops g.ids);
          declares = declares_from e3 s (subst (λ q. Fresh (length q) (length e3.locals) (declared s)) k.locals g.declares);
          inits_used = λ flags m. tt;
          test_used = λ flags m. v.used flags (set_then e2.addressed e3.addressed flags l.addressed m);
          step_used = λ flags m. refl;
          body_used = λ flags m. g.used flags m;
        }

    pub do_looped : (e2 e3 : Env) (ty : Ty) (x : Expr) (s : Stmt) → Extends e1 e2 → Stays e2 e3 → IsValue t e3 ty x → IsTrue (is_plain ty) → IsStmt t a true e1 e2 s → (sight s).adds ≡ [] → ((seen : List ℕ) → Covers seen e1 → Covers seen e2) → Looped t a e e3 f b [] (Some x) None s
    do_looped e2 e3 ty x s l k v p g q cs =
        let k' = stays_extends e2 e3 k in
        let le : e1.loops ≤ e3.loops = (extends_then e1 e2 e3 l k').loops in
        record {
          inits = λ cx i. tt;
          tests = λ cx i. test_typed t e3 ty x v p cx i;
          steps = λ cx i. refl;
          body = λ cx i. g.typed cx (into_before t cx e2 e3 k' i);
          pragmas = λ cx i. h.pragmas cx (into_before t cx e1 e3 (extends_then e1 e2 e3 l k') i);
          header = hd x;
          leaves = λ cx i ret r. part_leaves s (inside ret true) q (g.leaves cx (into_before t cx e2 e3 k' i) ret r);
          roots = λ seen c. h.sees seen c;
          firsts = λ seen c. refl;
          test_sees = λ seen c. v.seen seen (covers_stays seen e2 e3 k (cs seen (covers_begun t e e1 b h seen c)));
          step_sees = λ seen c. refl;
          body_sees = λ seen c. g.sees seen (covers_begun t e e1 b h seen c);
          number = h.id;
          more = subst (λ n. n ≤ e3.loops) h.loops le;
          ids = ids_from e3 s (fresh_wider e1.loops e3.loops e1.loops e2.loops (loop_ids s) (omega arith) k'.loops g.ids);
          declares = declares_from e3 s (fresh_wider (length e1.locals) (length e3.locals) (length e1.locals) (length e2.locals) (declared s) (omega arith) (starts_length e2.locals e3.locals k'.locals) g.declares);
          inits_used = λ flags m. tt;
          test_used = λ flags m. v.used flags m;
          step_used = λ flags m. refl;
          body_used = λ flags m. g.used flags (set_then e2.addressed e3.addressed flags k'.addressed m);
        }

module _ (t : Text) (valued : Valued t) (begins : Begins t) (a : Answer) (looping : Bool) (span : Span) where
  pub while_fine : (n m : Raw) → Each (PartIs t) (n ∷ m ∷ []) → IsTrue (is_expr (rule_in n)) → IsTrue (is_sub (rule_in m)) →
      MakesFor t a (MadeOne t a looping (n ∷ m ∷ [])) (while_by t span a (map (statement t) (n ∷ m ∷ [])))
  unfolding while_by roll-StmtKind denote.Hole.Carrier.roll
  while_fine n m h x y e r w c =
      let j1 = begun t span.start in
      let j2 = tested t span (statement t n).node in
      let j3 = under a true (statement t m) in
      let k3 : Begun → Option Expr → Option Stmt → Judge (Option Stmt) = λ b c x. give (loop_made span form.While b (test_alone c) x) [] in
      let k2 : Begun → Option Expr → Judge (Option Stmt) = λ b c. and_then j3 (k3 b c) in
      let k1 : Begun → Judge (Option Stmt) = λ b. and_then j2 (k2 b) in
      let m1 = begins span.start e r in
      let e1 = (j1 e).env in
      let b = (j1 e).part in
      let c1 = clean_second j1 k1 e c in
      let g = test_at t valued span n h.0 x e1 m1.ready.good (clean_first j2 (k2 b) e1 c1 (λ v. (statement_passing t m).stated a true)) in
      let e2 = (j2 e1).env in
      let c2 = clean_second j2 (k2 b) e1 c1 in
      let m2 = made_of e1 e2 _ m1.ready g in
      let x12 = extends_then e e1 e2 m1.extends m2.extends in
      let m3 = under_fine t a true m h.1.0 y e2 m2.ready (answer_extends t a e e2 x12 w) (clean_first j3 (k3 b (j2 e1).part) e2 c2 (λ v f i. i)) in
      let e3 = (j3 e2).env in
      let v = g.holds in
      let s = m3.holds in
      let f = StmtKind-F.Loop b.id form.While [] (Some v.made) None s.made b.pragmas in
      record {
        ready = m3.ready;
        extends = extends_then e e2 e3 x12 m3.extends;
        file = m3.file ∙ m2.file ∙ m1.file;
        holds = record {
          made = stmt span (Loop b.id form.While [] (Some v.made) None s.made b.pragmas);
          is_made = alone_is span form.While b v.made s.made _ _ v.is_made s.is_made;
          stmt = stmt_by t a looping e e3 span f (loop_form t a looping e e3 form.While b [] (Some v.made) None s.made
              (while_looped t a form.While (λ x. refl) e e1 b m1.holds e2 e3 v.ty v.made s.made g.stays m3.extends v.value v.passes s.stmt s.adds));
          adds = adds_by span f;
          covers = λ seen q. s.covers seen (covers_stays seen e1 e2 g.stays (covers_begun t e e1 b m1.holds seen q));
          spoken = (v.spoken, (s.spoken.0, tt));
        };
      }

  pub do_fine : (m n : Raw) → Each (PartIs t) (m ∷ n ∷ []) → IsTrue (is_sub (rule_in m)) → IsTrue (is_expr (rule_in n)) →
      MakesFor t a (MadeOne t a looping (m ∷ n ∷ [])) (do_by t span a (map (statement t) (m ∷ n ∷ [])))
  unfolding do_by roll-StmtKind denote.Hole.Carrier.roll
  do_fine m n h y x e r w c =
      let j1 = begun t span.start in
      let j2 = under a true (statement t m) in
      let j3 = tested t span (statement t n).node in
      let k3 : Begun → Option Stmt → Option Expr → Judge (Option Stmt) = λ b x c. give (loop_made span form.Do b (test_alone c) x) [] in
      let k2 : Begun → Option Stmt → Judge (Option Stmt) = λ b x. and_then j3 (k3 b x) in
      let k1 : Begun → Judge (Option Stmt) = λ b. and_then j2 (k2 b) in
      let m1 = begins span.start e r in
      let e1 = (j1 e).env in
      let b = (j1 e).part in
      let c1 = clean_second j1 k1 e c in
      let m2 = under_fine t a true m h.0 y e1 m1.ready (answer_extends t a e e1 m1.extends w) (clean_first j2 (k2 b) e1 c1 (λ v. passing_tested t span (statement t n).node)) in
      let e2 = (j2 e1).env in
      let c2 = clean_second j2 (k2 b) e1 c1 in
      let g = test_at t valued span n h.1.0 x e2 m2.ready.good (clean_first j3 (k3 b (j2 e1).part) e2 c2 (λ v f i. i)) in
      let e3 = (j3 e2).env in
      let m3 = made_of e2 e3 _ m2.ready g in
      let v = g.holds in
      let s = m2.holds in
      let f = StmtKind-F.Loop b.id form.Do [] (Some v.made) None s.made b.pragmas in
      record {
        ready = m3.ready;
        extends = extends_then e e1 e3 m1.extends (extends_then e1 e2 e3 m2.extends m3.extends);
        file = m3.file ∙ m2.file ∙ m1.file;
        holds = record {
          made = stmt span (Loop b.id form.Do [] (Some v.made) None s.made b.pragmas);
          is_made = alone_is span form.Do b v.made s.made _ _ v.is_made s.is_made;
          stmt = stmt_by t a looping e e3 span f (loop_form t a looping e e3 form.Do b [] (Some v.made) None s.made
              (do_looped t a form.Do (λ x. refl) e e1 b m1.holds e2 e3 v.ty v.made s.made m2.extends g.stays v.value v.passes s.stmt s.adds s.covers));
          adds = adds_by span f;
          covers = λ seen q. covers_stays seen e2 e3 g.stays (s.covers seen (covers_begun t e e1 b m1.holds seen q));
          spoken = (s.spoken.0, (v.spoken, tt));
        };
      }
