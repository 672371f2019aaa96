-- Statements one behind another, and one by itself.
use Rattle.std.proofs.Common.{◌≡◌, ℕ, List, [], ◌∷◌, ◌++◌, length, map, Bool, true, refl, sym, subst}
use Rattle.std.specs.Prelude.{IsTrue}
use Rattle.std.proofs.lemmas.List.{append-nil}
use Rattle.xc_tree.specs.declared.stmt.Stmt.{Stmt}
use Rattle.xc_tree.specs.Lists.{joined}
use Rattle.xc_tree.specs.Walk.{loop_ids, declared}
use Rattle.xc_tree.specs.Statements.{leaves_ok, sight, sees_all, added, stmt_ok}
use Rattle.xc_tree.proofs.Lists.{and_left, and_right, and_both}
use Rattle.xc_type_scopes.specs.declared.env.Env.{Env}
use Rattle.xc_type_expressions.specs.declared.text.Text.{Text}
use Rattle.xc_type_statement_parts.specs.declared.answer.Answer.{Answer}
use Rattle.xc_type_lowering.specs.Accessed.{stmt_accessed}
use Rattle.xc_welltyped_claims.specs.Lists.{Fresh}
use Rattle.xc_welltyped_claims.specs.Things.{InScopes, SeenThing}
use Rattle.xc_welltyped_claims.specs.Env.{Extends, Covers}
use Rattle.xc_welltyped_claims.proofs.Lists.{each_both, set_then, starts_length}
use Rattle.xc_welltyped_claims.proofs.Env.{into_before}
use Rattle.xc_welltyped_statements.specs.Stmts.{inside, AreStmts, IsStmt}
use Rattle.xc_welltyped_statements.proofs.Fresh.{fresh_none, fresh_both, joined_both}

-- sight ---------------------------------------------------------------------------

sees_both : (xs ys : List Stmt) (seen : List ℕ) → IsTrue (sees_all (map sight xs) seen) → IsTrue (sees_all (map sight ys) (added (map sight xs) seen)) → IsTrue (sees_all (map sight (xs ++ ys)) seen)
sees_both [] ys seen h k = k
sees_both (x ∷ xs) ys seen h k = and_both ((sight x).ok seen) _ (and_left _ _ h) (sees_both xs ys ((sight x).adds ++ seen) (and_right ((sight x).ok seen) _ h) k)

added_both : (xs ys : List Stmt) (seen : List ℕ) → added (map sight (xs ++ ys)) seen ≡ added (map sight ys) (added (map sight xs) seen)
added_both [] ys seen = refl
added_both (x ∷ xs) ys seen = added_both xs ys ((sight x).adds ++ seen)

module _ (t : Text) (a : Answer) (looping : Bool) where
  pub stmts_none : (e e' : Env) → e'.own ≡ e.own → AreStmts t a looping e e' []
  stmts_none e e' same = record {
    typed = λ cx i. tt;
    leaves = λ cx i ret h. tt;
    sees = λ seen c. (refl, subst (λ o. InScopes (SeenThing seen) o) (sym same) c);
    ids = fresh_none e.loops e'.loops;
    declares = fresh_none (length e.locals) (length e'.locals);
    used = λ flags m. tt;
  }

  -- one list behind the other
  pub stmts_both : (b c d : Env) (xs ys : List Stmt) → Extends b c → Extends c d → AreStmts t a looping b c xs → AreStmts t a looping c d ys → AreStmts t a looping b d (xs ++ ys)
  stmts_both b c d xs ys s s' f g = record {
    typed = λ cx i. each_both (λ s. IsTrue (stmt_ok cx s)) xs ys (f.typed cx (into_before t cx c d s' i)) (g.typed cx i);
    leaves = λ cx i ret h. each_both (λ s. IsTrue (leaves_ok s (inside ret looping))) xs ys (f.leaves cx (into_before t cx c d s' i) ret h) (g.leaves cx i ret h);
    sees = λ seen k. let first = f.sees seen k in let second = g.sees (added (map sight xs) seen) first.1 in
        (sees_both xs ys seen first.0 second.0, subst (λ l. Covers l d) (sym (added_both xs ys seen)) second.1);
    ids = subst (λ l. Fresh b.loops d.loops l) (sym (joined_both loop_ids xs ys)) (fresh_both b.loops c.loops d.loops _ _ s.loops s'.loops f.ids g.ids);
    declares = subst (λ l. Fresh (length b.locals) (length d.locals) l) (sym (joined_both declared xs ys))
        (fresh_both (length b.locals) (length c.locals) (length d.locals) _ _ (starts_length b.locals c.locals s.locals) (starts_length c.locals d.locals s'.locals) f.declares g.declares);
    used = λ flags m. each_both (λ s. IsTrue (stmt_accessed flags s)) xs ys (f.used flags (set_then c.addressed d.addressed flags s'.addressed m)) (g.used flags m);
  }

  -- one by itself
  pub stmt_alone : (e e' : Env) (s : Stmt) → AreStmts t a looping e e' (s ∷ []) → IsStmt t a looping e e' s
  stmt_alone e e' s f = record {
    typed = λ cx i. (f.typed cx i).0;
    leaves = λ cx i ret h. (f.leaves cx i ret h).0;
    sees = λ seen c. and_left _ _ (f.sees seen c).0;
    ids = subst (λ l. Fresh e.loops e'.loops l) (append-nil (loop_ids s)) f.ids;
    declares = subst (λ l. Fresh (length e.locals) (length e'.locals) l) (append-nil (declared s)) f.declares;
    used = λ flags m. (f.used flags m).0;
  }

  pub stmts_alone : (e e' : Env) (s : Stmt) → ((seen : List ℕ) → Covers seen e → Covers ((sight s).adds ++ seen) e') → IsStmt t a looping e e' s → AreStmts t a looping e e' (s ∷ [])
  stmts_alone e e' s k f = record {
    typed = λ cx i. (f.typed cx i, tt);
    leaves = λ cx i ret h. (f.leaves cx i ret h, tt);
    sees = λ seen c. (and_both ((sight s).ok seen) true (f.sees seen c) refl, k seen c);
    ids = subst (λ l. Fresh e.loops e'.loops l) (sym (append-nil (loop_ids s))) f.ids;
    declares = subst (λ l. Fresh (length e.locals) (length e'.locals) l) (sym (append-nil (declared s))) f.declares;
    used = λ flags m. (f.used flags m, tt);
  }

  -- begun where pragmas and counts alone differ
  pub stmts_from : (e b e' : Env) (ss : List Stmt) → b.own ≡ e.own → b.loops ≡ e.loops → b.locals ≡ e.locals → AreStmts t a looping b e' ss → AreStmts t a looping e e' ss
  stmts_from e b e' ss own loops locals f = record {
    typed = f.typed;
    leaves = f.leaves;
    sees = λ seen c. f.sees seen (subst (λ o. InScopes (SeenThing seen) o) (sym own) c);
    ids = subst (λ n. Fresh n e'.loops (joined (map loop_ids ss))) loops f.ids;
    declares = subst (λ l. Fresh (length l) (length e'.locals) (joined (map declared ss))) locals f.declares;
    used = f.used;
  }
