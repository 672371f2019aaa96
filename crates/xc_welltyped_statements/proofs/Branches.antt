-- Statements under others, and `if`.
use Rattle.std.proofs.Common.{◌≡◌, ℕ, ◌≤◌, List, [], ◌∷◌, ◌++◌, length, map, Bool, true, false, refl, sym, ap, ◌∙◌, subst}
use Rattle.std.specs.Prelude.{IsTrue, ◌||◌, Option, Some, None}
use Rattle.std.proofs.lemmas.List.{append-nil}
use Rattle.xc_text_place.specs.declared.Span.{Span}
use Rattle.xc_tree.specs.declared.ty.Ty.{Ty}
use Rattle.xc_tree.specs.declared.expr.Expr.{Expr}
use Rattle.xc_tree.specs.declared.stmt.Stmt.{Stmt}
use Rattle.xc_tree.specs.declared.stmt.StmtKind.{If, roll-StmtKind}
use Rattle.xc_tree.specs.declared.stmt.Item.TheOpen.{StmtKind-F}
use Rattle.xc_tree.specs.Types.{is_plain}
use Rattle.xc_tree.specs.Walk.{loop_ids, declared}
use Rattle.xc_tree.specs.Statements.{test_ok, stmt_ok, leaving, part_ok, sight, sees, sees_ok}
use Rattle.xc_tree.proofs.Lists.{and_left, and_right, and_both}
use Rattle.xc_raw.specs.declared.tree.Raw.{Raw}
use Rattle.xc_parse_grammar.specs.Grammar.{is_stmt}
use Rattle.xc_type_scopes.specs.declared.env.Env.{Env}
use Rattle.xc_type_scopes.specs.Judge.{Judge, give, and_then}
use Rattle.xc_type_expressions.specs.declared.text.Text.{Text}
use Rattle.xc_type_statement_parts.specs.declared.answer.Answer.{Answer}
use Rattle.xc_type_statement_parts.specs.Making.{Stmts, stmt, single, if_made}
use Rattle.xc_type_statements.specs.Stated.{statement, tested, under, there, else_by, if_by}
use Rattle.xc_type_lowering.specs.Accessed.{only_accessed, stmt_accessed}
use Rattle.xc_welltyped.proofs.Types.{or_right}
use Rattle.xc_welltyped_claims.specs.Lists.{Each, Fresh}
use Rattle.xc_welltyped_claims.specs.Env.{Stays, Extends, Covers}
use Rattle.xc_welltyped_claims.specs.Judges.{Gives}
use Rattle.xc_welltyped_claims.specs.Shaped.{rule_in, is_block_item, is_first, is_expr, is_sub, one_at_most, Shaped, Spoken}
use Rattle.xc_welltyped_claims.proofs.Lists.{set_then, starts_length}
use Rattle.xc_welltyped_claims.proofs.Env.{extends_then, into_before}
use Rattle.xc_welltyped_claims.proofs.Judges.{made_self, made_of, clean_first, clean_second, clean_mapped}
use Rattle.xc_welltyped_statements.specs.Stmts.{inside, IsStmt, AreStmts, MadeStmts, PartFine, MakesFor}
use Rattle.xc_welltyped_statements.proofs.Passing.{passing_else, statement_passing, each_map}
use Rattle.xc_welltyped_statements.specs.Stmts.{PartPassing}
use Rattle.xc_welltyped_statements.proofs.Folds.{IsForm, stmt_by, adds_by, part_leaves}
use Rattle.xc_welltyped_statements.proofs.Fresh.{fresh_both}
use Rattle.xc_welltyped_statements.proofs.Values.{IsValue, test_typed}
use Rattle.xc_welltyped_statements.proofs.Joins.{stmt_alone}
use Rattle.xc_welltyped_statements.proofs.Simple.{covers_stays, one_spoken, MadeValue, MadeOne, Valued, answer_behind, answer_extends, tested_fine}

-- a part of a statement, whose node has its shape
abbrev pub PartIs : Text → Raw → Type 0
PartIs t n = PartFine t n (statement t n) × Shaped t n

pub all_passing : (t : Text) (ns : List Raw) → Each PartPassing (map (statement t) ns)
all_passing t ns = each_map PartPassing (statement t) ns (every ns)
  where
    every : (ns : List Raw) → Each (λ n. PartPassing (statement t n)) ns
    every [] = tt
    every (n ∷ ns) = (statement_passing t n, every ns)

-- behind an expression
pub stmt_first : (t : Text) (a : Answer) (looping : Bool) (b d e : Env) (s : Stmt) → Stays b d → IsStmt t a looping d e s → IsStmt t a looping b e s
stmt_first t a looping b d e s k f = record {
  typed = f.typed;
  leaves = f.leaves;
  sees = λ seen c. f.sees seen (covers_stays seen b d k c);
  ids = subst (λ n. Fresh n e.loops (loop_ids s)) k.loops f.ids;
  declares = subst (λ l. Fresh (length l) (length e.locals) (declared s)) k.locals f.declares;
  used = f.used;
}

module _ (t : Text) (a : Answer) (looping : Bool) where
  alone : (n : Raw) (e e' : Env) (o : Stmts) → MadeStmts t n a looping e e' o → IsTrue (is_stmt (rule_in n) || is_sub (rule_in n)) → MadeOne t a looping (n ∷ []) e e' (single o)
  unfolding single
  alone n e e' o m h =
      let one = m.single h in
      let f : AreStmts t a looping e e' (one.0 ∷ []) = subst (λ l. AreStmts t a looping e e' l) one.1 m.stmts in
      record {
        made = one.0;
        is_made = ap single (m.known ∙ ap Some one.1);
        stmt = stmt_alone t a looping e e' one.0 f;
        adds = one.2;
        covers = λ seen c. subst (λ l. Covers (l ++ seen) e') one.2 (f.sees seen c).1;
        spoken = (m.spoken, tt);
      }

  pub under_fine : (n : Raw) → PartIs t n → IsTrue (is_sub (rule_in n)) → MakesFor t a (MadeOne t a looping (n ∷ [])) (under a looping (statement t n))
  under_fine n h x e r w c =
      let j = (statement t n).stated a looping in
      let m = h.0.stated (or_right (is_block_item (rule_in n)) _ (or_left_sub (is_sub (rule_in n)) (is_first (rule_in n)) x)) a looping e r w (clean_mapped single j e c) in
      record { ready = m.ready; extends = m.extends; file = m.file; holds = alone n e (j e).env (j e).part m.holds (or_right (is_stmt (rule_in n)) _ x) }
    where
      or_left_sub : (b d : Bool) → IsTrue b → IsTrue (b || d)
      or_left_sub true d h = refl
      or_left_sub false d h = absurd cc

  -- ---- `if`

  module _ (b d e : Env) (ty : Ty) (x : Expr) (s : Stmt) (k : Stays b d) (l : Extends d e) (v : IsValue t d ty x) (p : IsTrue (is_plain ty)) (f : IsStmt t a looping d e s) (q : (sight s).adds ≡ []) where
    first : IsStmt t a looping b e s
    first = stmt_first t a looping b d e s k f

    pub if_alone : IsForm t a looping b e (StmtKind-F.If x s None)
    if_alone = record {
      typed = λ cx i. and_both (test_ok cx x) _ (test_typed t d ty x v p cx (into_before t cx d e l i)) (and_both (stmt_ok cx s) true (f.typed cx i) refl);
      leaves = λ cx i ret h. and_both (part_ok (leaving s) (inside ret looping)) true (part_leaves s (inside ret looping) q (f.leaves cx i ret h)) refl;
      sees = λ seen c. and_both (sees seen x) _ (v.seen seen (covers_stays seen b d k c)) (and_both (sees_ok s seen) true (first.sees seen c) refl);
      ids = subst (λ l. Fresh b.loops e.loops l) (sym (append-nil (loop_ids s))) first.ids;
      declares = subst (λ l. Fresh (length b.locals) (length e.locals) l) (sym (append-nil (declared s))) first.declares;
      used = λ flags m. and_both (only_accessed flags x) _ (v.used flags (set_then d.addressed e.addressed flags l.addressed m)) (and_both (stmt_accessed flags s) true (f.used flags m) refl);
    }

    pub if_both : (e' : Env) (o : Stmt) → Extends e e' → ((seen : List ℕ) → Covers seen d → Covers seen e) → IsStmt t a looping e e' o → (sight o).adds ≡ [] → IsForm t a looping b e' (StmtKind-F.If x s (Some o))
    if_both e' o l' cs g r = record {
      typed = λ cx i. and_both (test_ok cx x) _ (test_typed t d ty x v p cx (into_before t cx d e' (extends_then d e e' l l') i))
          (and_both (stmt_ok cx s) _ (f.typed cx (into_before t cx e e' l' i)) (g.typed cx i));
      leaves = λ cx i ret h. and_both (part_ok (leaving s) (inside ret looping)) _ (part_leaves s (inside ret looping) q (f.leaves cx (into_before t cx e e' l' i) ret h)) (part_leaves o (inside ret looping) r (g.leaves cx i ret h));
      sees = λ seen c. and_both (sees seen x) _ (v.seen seen (covers_stays seen b d k c)) (and_both (sees_ok s seen) _ (first.sees seen c) (g.sees seen (cs seen (covers_stays seen b d k c))));
      ids = fresh_both b.loops e.loops e'.loops _ _ (subst (λ n. n ≤ e.loops) k.loops l.loops) l'.loops first.ids g.ids;
      declares = fresh_both (length b.locals) (length e.locals) (length e'.locals) _ _ (subst (λ q. length q ≤ length e.locals) k.locals (starts_length d.locals e.locals l.locals)) (starts_length e.locals e'.locals l'.locals) first.declares g.declares;
      used = λ flags m. let m' = set_then e.addressed e'.addressed flags l'.addressed m in
          and_both (only_accessed flags x) _ (v.used flags (set_then d.addressed e.addressed flags l.addressed m')) (and_both (stmt_accessed flags s) _ (f.used flags m') (g.used flags m));
    }

  -- what stands behind `else`, or nothing
  pub record MadeElse (ns : List Raw) (e e' : Env) (o : Option (Option Stmt)) : Type 0 where
    pub made : Option Stmt
    pub is_made : o ≡ Some made
    pub form : (b d : Env) (ty : Ty) (x : Expr) (s : Stmt) → Stays b d → Extends d e → IsValue t d ty x → IsTrue (is_plain ty) → IsStmt t a looping d e s → (sight s).adds ≡ [] → ((seen : List ℕ) → Covers seen d → Covers seen e) → IsForm t a looping b e' (StmtKind-F.If x s made)
    pub covers : (seen : List ℕ) → Covers seen e → Covers seen e'
    pub spoken : Each (Spoken t) ns

  pub else_fine : (ns : List Raw) → Each (PartIs t) ns → IsTrue (one_at_most is_sub ns) → MakesFor t a (MadeElse ns) (else_by a looping (map (statement t) ns))
  unfolding else_by
  else_fine [] h o e r w c = made_self e _ r (record { made = None; is_made = refl; form = λ b d ty x s k l v p f q cs. if_alone b d e ty x s k l v p f q; covers = λ seen c. c; spoken = tt })
  else_fine (n ∷ ns) h o e r w c =
      let j = under a looping (statement t n) in
      let e' = (j e).env in
      let m = under_fine n h.0 (and_left _ _ o) e r w (clean_mapped there j e c) in
      record {
        ready = m.ready;
        extends = m.extends;
        file = m.file;
        holds = record {
          made = Some m.holds.made;
          is_made = ap there m.holds.is_made;
          form = λ b d ty x s k l v p f q cs. if_both b d e ty x s k l v p f q e' m.holds.made m.extends cs m.holds.stmt m.holds.adds;
          covers = m.holds.covers;
          spoken = one_spoken t n ns (and_right (is_sub (rule_in n)) _ o) m.holds.spoken.0;
        };
      }

module _ (t : Text) (valued : Valued t) where
  pub test_at : (span : Span) (n : Raw) → PartIs t n → IsTrue (is_expr (rule_in n)) → Gives (MadeValue t n is_plain) (tested t span (statement t n).node)
  test_at span n h x = subst (λ k. Gives (MadeValue t n is_plain) (tested t span k)) (sym h.0.node_is) (tested_fine t valued span n h.1 x)

  module _ (a : Answer) (looping : Bool) where
    if_is : (span : Span) (x : Expr) (s : Stmt) (o : Option Stmt) (c : Option Expr) (y : Option Stmt) (z : Option (Option Stmt)) → c ≡ Some x → y ≡ Some s → z ≡ Some o → if_made span c y z ≡ Some (stmt span (If x s o))
    unfolding if_made
    if_is span x s o c y z p q r = ap (λ c. if_made span c y z) p ∙ (ap (λ y. if_made span (Some x) y z) q ∙ ap (λ z. if_made span (Some x) (Some s) z) r)

    pub if_fine : (span : Span) (n m : Raw) (ns : List Raw) → Each (PartIs t) (n ∷ m ∷ ns) → IsTrue (is_expr (rule_in n)) → IsTrue (is_sub (rule_in m)) → IsTrue (one_at_most is_sub ns) →
        MakesFor t a (MadeOne t a looping (n ∷ m ∷ ns)) (if_by t span a looping (map (statement t) (n ∷ m ∷ ns)))
    unfolding if_by roll-StmtKind denote.Hole.Carrier.roll
    if_fine span n m ns h x y o e r w c =
        let others = map (statement t) ns in
        let passing = passing_else a looping others (all_passing t ns) in
        let j1 = tested t span (statement t n).node in
        let j2 = under a looping (statement t m) in
        let j3 = else_by a looping others in
        let k3 : Option Expr → Option Stmt → Option (Option Stmt) → Judge (Option Stmt) = λ c x y. give (if_made span c x y) [] in
        let k2 : Option Expr → Option Stmt → Judge (Option Stmt) = λ c x. and_then j3 (k3 c x) in
        let k1 : Option Expr → Judge (Option Stmt) = λ c. and_then j2 (k2 c) in
        let g = test_at span n h.0 x e r.good (clean_first j1 k1 e c (λ v f i. (statement_passing t m).stated a looping f (passing (j2 f).env i))) in
        let e1 = (j1 e).env in
        let c1 = clean_second j1 k1 e c in
        let m1 = made_of e e1 _ r g in
        let m2 = under_fine t a looping m h.1.0 y e1 m1.ready (answer_behind t a e e1 g.stays w) (clean_first j2 (k2 (j1 e).part) e1 c1 (λ v. passing)) in
        let e2 = (j2 e1).env in
        let c2 = clean_second j2 (k2 (j1 e).part) e1 c1 in
        let m3 = else_fine t a looping ns h.1.1 o e2 m2.ready (answer_extends t a e e2 (extends_then e e1 e2 m1.extends m2.extends) w) (clean_first j3 (k3 (j1 e).part (j2 e1).part) e2 c2 (λ v f i. i)) in
        let e3 = (j3 e2).env in
        let f = StmtKind-F.If g.holds.made m2.holds.made m3.holds.made in
        record {
          ready = m3.ready;
          extends = extends_then e e1 e3 m1.extends (extends_then e1 e2 e3 m2.extends m3.extends);
          file = m3.file ∙ m2.file ∙ m1.file;
          holds = record {
            made = stmt span (If g.holds.made m2.holds.made m3.holds.made);
            is_made = if_is span g.holds.made m2.holds.made m3.holds.made _ _ _ g.holds.is_made m2.holds.is_made m3.holds.is_made;
            stmt = stmt_by t a looping e e3 span f (m3.holds.form e e1 g.holds.ty g.holds.made m2.holds.made g.stays m2.extends g.holds.value g.holds.passes m2.holds.stmt m2.holds.adds m2.holds.covers);
            adds = adds_by span f;
            covers = λ seen k. m3.holds.covers seen (m2.holds.covers seen (covers_stays seen e e1 g.stays k));
            spoken = (g.holds.spoken, (m2.holds.spoken.0, m3.holds.spoken));
          };
        }
