-- Statements, by their nodes.
use Rattle.std.proofs.Common.{◌≡◌, List, [], ◌∷◌, ◌++◌, map, Bool, true, false, refl, sym, ap, ◌∙◌, subst}
use Rattle.std.specs.Prelude.{IsTrue, ◌||◌, Option, Some, None}
use Rattle.xc_text_place.specs.declared.Span.{Span}
use Rattle.xc_tree.specs.declared.stmt.Stmt.{Stmt}
use Rattle.xc_tree.specs.declared.expr.Expr.{Expr}
use Rattle.xc_tree.specs.declared.stmt.StmtKind.{Eval, Break, Continue, roll-StmtKind}
use Rattle.xc_tree.specs.declared.stmt.Item.TheOpen.{StmtKind-F}
use Rattle.xc_tree.specs.Statements as tree
use Rattle.xc_tree.specs.Statements.{Leaving, clause_ok}
use Rattle.xc_tree.proofs.Lists.{and_left, and_right}
use Rattle.xc_raw.specs.declared.rule.Rule.{Rule}
use Rattle.xc_raw.specs.declared.rule.Rule.TheVariants as rule
use Rattle.xc_raw.specs.declared.tree.Raw.{Raw, out-Raw}
use Rattle.xc_parse_grammar.specs.Grammar.{is_stmt}
use Rattle.xc_type_scopes.specs.declared.env.Env.{Env}
use Rattle.xc_type_scopes.specs.Env as env
use Rattle.xc_type_scopes.specs.Judge.{Judge, give, mapped, framed}
use Rattle.xc_type_expressions.specs.declared.text.Text.{Text}
use Rattle.xc_type_expressions.specs.Judged.{judged, span_in}
use Rattle.xc_type_statement_parts.specs.declared.answer.Answer.{Answer}
use Rattle.xc_type_statement_parts.specs.Making.{Stmts, stmt, one, eval_made}
use Rattle.xc_type_statement_parts.specs.Declarations.{declaration}
use Rattle.xc_type_statements.specs.Stated.{statement, stated_by, stmt_by, plain_by, enclosed, in_order, clause_by, eval_by, return_by, leaving, future_by, evaluated}
use Rattle.xc_welltyped.proofs.Types.{or_left, or_right}
use Rattle.xc_welltyped_claims.specs.Lists.{Each}
use Rattle.xc_welltyped_claims.specs.Env.{Covers}
use Rattle.xc_welltyped_claims.specs.Judges.{Makes}
use Rattle.xc_welltyped_claims.specs.Roles.{RoleFine}
use Rattle.xc_welltyped_claims.specs.Shaped.{rule_in, is_specs, is_expr, is_pragma, is_block, is_block_item, is_sub, is_first, is_clause, is_step, none_of, one_at_most, all_of, ends_in_stmt, is_token, level_ok, Shaped, IsLexed, Spoken}
use Rattle.xc_welltyped_claims.proofs.Env.{extends_self}
use Rattle.xc_welltyped_claims.proofs.Judges.{made_self, clean_mapped}
use Rattle.xc_welltyped_claims.proofs.Nodes.{by_parts, parts_shaped, level_shaped}
use Rattle.xc_welltyped_claims.proofs.Strings.{spoken_of}
use Rattle.xc_welltyped_statements.specs.Stmts.{MadeStmts, MadeBody, PartFine, MakesFor}
use Rattle.xc_welltyped_statements.proofs.Passing.{statement_is}
use Rattle.xc_welltyped_statements.proofs.Folds.{leaving_by}
use Rattle.xc_welltyped_statements.proofs.Places.{ready_noted, extends_noted, ready_past, answer_past, made_past}
use Rattle.xc_welltyped_statements.proofs.Joins.{stmts_none, stmts_alone, stmts_from}
use Rattle.xc_welltyped_statements.proofs.Simple.{none_spoken, MadeOne, Valued, GivenUsed, eval_fine, break_fine, continue_fine, return_fine}
use Rattle.xc_welltyped_statements.proofs.Branches.{PartIs, if_fine}
use Rattle.xc_welltyped_statements.proofs.Pragmas.{begun_fine}
use Rattle.xc_welltyped_statements.proofs.Loops.{while_fine, do_fine}
use Rattle.xc_welltyped_statements.proofs.Fors.{for_fine}
use Rattle.xc_welltyped_statements.proofs.Declarations.{MadeDecls, LocalInitsFine, PromiseKept, clause_all, declaration_fine}
use Rattle.xc_welltyped_statements.proofs.Blocks.{is_stated, sub_stated, order_fine, enclosed_fine, block_fine}

-- assumed of `future` statements
abbrev pub FutureFine : Text → Type 0
FutureFine t = (node p b : Raw) → p ∷ b ∷ [] ≡ (out-Raw node).parts → IsTrue (level_ok t node rule.Future (p ∷ b ∷ [])) → PartIs t p → PartIs t b → (a : Answer) (looping : Bool) →
    MakesFor t a (MadeOne t a looping (p ∷ b ∷ [])) (future_by t node (map (statement t) (p ∷ b ∷ [])))

stmt_only : (r : Rule) → IsTrue (is_stmt r) → IsTrue (is_pragma r || is_first r) → ⊥
stmt_only rule.Pragma h k = let no : false ≡ true = h in cc
stmt_only rule.ForDeclaration h k = let no : false ≡ true = h in cc
stmt_only rule.Clause h k = let no : false ≡ true = h in cc
stmt_only r h k = let no : false ≡ true = k in cc

stmt_token : (r : Rule) (ps : List Raw) → IsTrue (is_stmt r) → is_token r ps ≡ false
stmt_token rule.Prim ps h = absurd (let no : false ≡ true = h in cc)
stmt_token r ps h = refl

stmt_rest : (b : Bool) → IsTrue (b || (false || false)) → IsTrue b
stmt_rest true h = refl
stmt_rest false h = h

block_level : (t : Text) (n : Raw) (r : Rule) (ps : List Raw) → IsTrue (is_block r) → IsTrue (level_ok t n r ps) → IsTrue (all_of is_block_item ps) × (is_token r ps ≡ false)
unfolding level_ok
block_level t n rule.Block ps h k = (k, refl)
block_level t n r ps h k = absurd (let no : false ≡ true = h in cc)

module _ (t : Text) (a : Answer) (looping : Bool) where
  one_from : (ns : List Raw) (e e' : Env) (o : Option Stmt) → MadeOne t a looping ns (env.past_pragmas e) e' o → MadeOne t a looping ns e e' o
  one_from ns e e' o m = let f = m.stmt in record {
    made = m.made;
    is_made = m.is_made;
    stmt = record { typed = f.typed; leaves = f.leaves; sees = f.sees; ids = f.ids; declares = f.declares; used = f.used };
    adds = m.adds;
    covers = m.covers;
    spoken = m.spoken;
  }

  -- what is no loop: the pragmas before it are passed
  past_fine : (ns : List Raw) (j : Judge (Option Stmt)) → MakesFor t a (MadeOne t a looping ns) j → MakesFor t a (MadeOne t a looping ns) (framed env.past_pragmas (λ e. e) j)
  past_fine ns j f e r w c =
      let e0 = env.past_pragmas e in
      let m = f e0 (ready_past e r) (answer_past t a e w) (record { faultless = c.faultless; within = c.within }) in
      made_past e (j e0).env _ (record { ready = m.ready; extends = m.extends; file = m.file; holds = one_from ns e (j e0).env (j e0).part m.holds })

  -- a statement as a list of one
  one_fine : (n : Raw) → IsTrue (is_stmt (rule_in n)) → Shaped t n → IsLexed t → (ns : List Raw) → ns ≡ (out-Raw n).parts → (j : Judge (Option Stmt)) → MakesFor t a (MadeOne t a looping ns) j → MakesFor t a (MadeStmts t n a looping) (mapped one j)
  unfolding one
  one_fine n x h lexed ns p j f e r w c =
      let m = f e r w (clean_mapped one j e c) in
      let e' = (j e).env in
      let s = m.holds in
      record {
        ready = m.ready;
        extends = m.extends;
        file = m.file;
        holds = record {
          made = s.made ∷ [];
          known = ap one s.is_made;
          stmts = stmts_alone t a looping e e' s.made (λ seen d. subst (λ l. Covers (l ++ seen) e') (sym s.adds) (s.covers seen d)) s.stmt;
          single = λ k. (s.made, refl, s.adds);
          none = λ k. absurd (stmt_only (rule_in n) x (or_left (is_pragma (rule_in n)) _ k));
          clause = λ k. absurd (stmt_only (rule_in n) x (or_right (is_pragma (rule_in n)) _ k));
          spoken = spoken_of t lexed n h (stmt_token (rule_in n) (out-Raw n).parts x) (subst (λ l. Each (Spoken t) l) p s.spoken);
        };
      }

module _ (t : Text) (lexed : IsLexed t) (valued : Valued t) (role_fine : (node : Raw) → Shaped t node → RoleFine t node (judged t node)) (kept : PromiseKept)
    (inits_fine : LocalInitsFine t) (given_used : GivenUsed) (future_fine : FutureFine t) where
  module _ (a : Answer) (looping : Bool) where
    abbrev MakesOne : List Raw → Judge (Option Stmt) → Type 0
    MakesOne ns j = MakesFor t a (MadeOne t a looping ns) j

    shapes : (ns : List Raw) → Each (PartIs t) ns → Each (Shaped t) ns
    shapes [] h = tt
    shapes (n ∷ ns) h = (h.0.1, shapes ns h.1)

    eval_at : (n : Raw) (qs : List Raw) → qs ≡ (out-Raw n).parts → Each (PartIs t) qs → IsTrue (one_at_most is_expr qs) → MakesOne qs (eval_by t (span_in t n) (out-Raw n).parts)
    eval_at n qs p h x = subst (λ l. MakesOne qs (eval_by t (span_in t n) l)) p (λ e r w c. eval_fine t valued a looping (span_in t n) qs (shapes qs h) x e r c)

    return_at : (n : Raw) (qs : List Raw) → qs ≡ (out-Raw n).parts → Each (PartIs t) qs → IsTrue (one_at_most is_expr qs) → MakesOne qs (return_by t (span_in t n) a (out-Raw n).parts)
    return_at n qs p h x = subst (λ l. MakesOne qs (return_by t (span_in t n) a l)) p (return_fine t valued a looping given_used (span_in t n) qs (shapes qs h) x)

    none_made : (ns : List Raw) (j : Judge (Option Stmt)) → IsTrue (none_of ns) → MakesOne [] j → MakesOne ns j
    none_made [] j h f = f
    none_made (n ∷ ns) j h f = absurd (let no : false ≡ true = h in cc)

    if_at : (n : Raw) (qs : List Raw) → Each (PartIs t) qs → IsTrue (level_ok t n rule.If qs) → MakesOne qs (plain_by t n rule.If (map (statement t) qs) a looping)
    unfolding level_ok plain_by
    if_at n [] h k = absurd (let no : false ≡ true = k in cc)
    if_at n (x ∷ []) h k = absurd (let no : false ≡ true = k in cc)
    if_at n (x ∷ y ∷ zs) h k = let l = and_right (is_expr (rule_in x)) _ k in if_fine t valued a looping (span_in t n) x y zs h (and_left _ _ k) (and_left _ _ l) (and_right (is_sub (rule_in y)) _ l)

    while_at : (n : Raw) (qs : List Raw) → Each (PartIs t) qs → IsTrue (level_ok t n rule.While qs) → MakesOne qs (stmt_by t n rule.While (map (statement t) qs) a looping)
    unfolding level_ok stmt_by
    while_at n [] h k = absurd (let no : false ≡ true = k in cc)
    while_at n (x ∷ []) h k = absurd (let no : false ≡ true = k in cc)
    while_at n (x ∷ y ∷ []) h k = while_fine t valued (begun_fine t) a looping (span_in t n) x y h (and_left _ _ k) (and_right (is_expr (rule_in x)) _ k)
    while_at n (x ∷ y ∷ z ∷ zs) h k = absurd (let no : false ≡ true = k in cc)

    do_at : (n : Raw) (qs : List Raw) → Each (PartIs t) qs → IsTrue (level_ok t n rule.Do qs) → MakesOne qs (stmt_by t n rule.Do (map (statement t) qs) a looping)
    unfolding level_ok stmt_by
    do_at n [] h k = absurd (let no : false ≡ true = k in cc)
    do_at n (x ∷ []) h k = absurd (let no : false ≡ true = k in cc)
    do_at n (x ∷ y ∷ []) h k = do_fine t valued (begun_fine t) a looping (span_in t n) x y h (and_left _ _ k) (and_right (is_sub (rule_in x)) _ k)
    do_at n (x ∷ y ∷ z ∷ zs) h k = absurd (let no : false ≡ true = k in cc)

    for_at : (n : Raw) (qs : List Raw) → Each (PartIs t) qs → IsTrue (level_ok t n rule.For qs) → MakesOne qs (stmt_by t n rule.For (map (statement t) qs) a looping)
    unfolding level_ok stmt_by
    for_at n [] h k = absurd (let no : false ≡ true = k in cc)
    for_at n (x ∷ []) h k = absurd (let no : false ≡ true = k in cc)
    for_at n (x ∷ y ∷ []) h k = absurd (let no : false ≡ true = k in cc)
    for_at n (x ∷ y ∷ z ∷ []) h k = absurd (let no : false ≡ true = k in cc)
    for_at n (x ∷ y ∷ z ∷ b ∷ []) h k =
        let k1 = and_right (is_first (rule_in x)) _ k in
        let k2 = and_right (is_clause (rule_in y)) _ k1 in
        for_fine t lexed valued (begun_fine t) a looping (span_in t n) x y z b h (and_left _ _ k) (and_left _ _ k1) (and_left _ _ k2) (and_right (is_step (rule_in z)) _ k2)
    for_at n (x ∷ y ∷ z ∷ b ∷ d ∷ ds) h k = absurd (let no : false ≡ true = k in cc)

    future_at : (n : Raw) (qs : List Raw) → qs ≡ (out-Raw n).parts → Each (PartIs t) qs → IsTrue (level_ok t n rule.Future qs) → MakesOne qs (plain_by t n rule.Future (map (statement t) qs) a looping)
    unfolding level_ok plain_by
    future_at n [] p h k = absurd (let no : false ≡ true = k in cc)
    future_at n (x ∷ []) p h k = absurd (let no : false ≡ true = k in cc)
    future_at n (x ∷ y ∷ []) p h k = future_fine n x y p k h.0 h.1.0 a looping
    future_at n (x ∷ y ∷ z ∷ zs) p h k = absurd (let no : false ≡ true = k in cc)

    plain_at : (n : Raw) (r : Rule) (qs : List Raw) → qs ≡ (out-Raw n).parts → Each (PartIs t) qs → IsTrue (level_ok t n r qs) → IsTrue (is_stmt r) → MakesOne qs (stmt_by t n r (map (statement t) qs) a looping)
    unfolding level_ok stmt_by plain_by
    plain_at n rule.While qs p h k x = while_at n qs h k
    plain_at n rule.Do qs p h k x = do_at n qs h k
    plain_at n rule.For qs p h k x = for_at n qs h k
    plain_at n rule.Block qs p h k x = past_fine t a looping qs _ (block_fine t a looping (span_in t n) qs h k)
    plain_at n rule.Eval qs p h k x = past_fine t a looping qs _ (eval_at n qs p h k)
    plain_at n rule.If qs p h k x = past_fine t a looping qs _ (if_at n qs h k)
    plain_at n rule.Return qs p h k x = past_fine t a looping qs _ (return_at n qs p h k)
    plain_at n rule.Break qs p h k x = past_fine t a looping qs _ (none_made qs (leaving (span_in t n) Break looping) k (λ e r w c. break_fine t valued a looping (span_in t n) e r c))
    plain_at n rule.Continue qs p h k x = past_fine t a looping qs _ (none_made qs (leaving (span_in t n) Continue looping) k (λ e r w c. continue_fine t valued a looping (span_in t n) e r c))
    plain_at n rule.Future qs p h k x = past_fine t a looping qs _ (future_at n qs p h k)
    plain_at n r qs p h k x = absurd (let no : false ≡ true = x in cc)

    -- ---- what is no statement

    spoken_at : (n : Raw) (r : Rule) (qs : List Raw) → rule_in n ≡ r → qs ≡ (out-Raw n).parts → Shaped t n → is_token r qs ≡ false → Each (Spoken t) qs → Spoken t n
    spoken_at n r qs e p h x s = spoken_of t lexed n h (subst (λ l. is_token (rule_in n) l ≡ false) p (subst (λ r. is_token r qs ≡ false) (sym e) x)) (subst (λ l. Each (Spoken t) l) p s)

    abbrev MakesStmts : Raw → Judge Stmts → Type 0
    MakesStmts n j = MakesFor t a (MadeStmts t n a looping) j

    pragma_at : (n : Raw) (qs : List Raw) → rule_in n ≡ rule.Pragma → qs ≡ (out-Raw n).parts → Shaped t n → IsTrue (none_of qs) → MakesStmts n (framed (env.with_pragma (span_in t n)) (λ e. e) (give (Some []) []))
    pragma_at n qs q p h k e r w c =
        let before = e.before ++ span_in t n ∷ [] in
        record {
          ready = ready_noted e.loops before e.notes e.over e r;
          extends = extends_noted e.loops before e.notes e.over e (extends_self e).loops;
          file = refl;
          holds = record {
            made = [];
            known = refl;
            stmts = stmts_none t a looping e (env.with_pragma (span_in t n) e) refl;
            single = λ x. absurd (let no : false ≡ true = subst (λ r. IsTrue (is_stmt r || is_sub r)) q x in cc);
            none = λ x. refl;
            clause = λ x. refl;
            spoken = spoken_at n rule.Pragma qs q p h refl (none_spoken t qs k);
          };
        }

    clause_is : (n : Raw) (r : Rule) → rule_in n ≡ r → (e e' : Env) (o : Stmts) (ns : List Raw) → MadeDecls t a looping ns e e' o → (is_stmt r || is_sub r) ≡ false → is_pragma r ≡ false → Spoken t n → MadeStmts t n a looping e e' o
    clause_is n r q e e' o ns m x y s = record {
      made = m.made;
      known = m.known;
      stmts = m.stmts;
      single = λ k. absurd (let no : false ≡ true = sym x ∙ subst (λ r. IsTrue (is_stmt r || is_sub r)) q k in cc);
      none = λ k. absurd (let no : false ≡ true = sym y ∙ subst (λ r. IsTrue (is_pragma r)) q k in cc);
      clause = λ k. clause_all (map tree.leaving m.made) m.declare;
      spoken = s;
    }

    declaration_at : (n : Raw) (qs : List Raw) → qs ≡ (out-Raw n).parts → Each (PartIs t) qs → IsTrue (level_ok t n rule.ForDeclaration qs) → Makes (MadeDecls t a looping qs) (declaration t (out-Raw n).parts)
    unfolding level_ok
    declaration_at n [] p h k = absurd (let no : false ≡ true = k in cc)
    declaration_at n (s ∷ ds) p h k = subst (λ l. Makes (MadeDecls t a looping (s ∷ ds)) (declaration t l)) p
        (declaration_fine t lexed role_fine kept inits_fine a looping s ds (shapes (s ∷ ds) h) (and_left _ _ k) (and_right (is_specs (rule_in s)) _ k))

    same_level : (n : Raw) (qs : List Raw) → IsTrue (level_ok t n rule.Declaration qs) → IsTrue (level_ok t n rule.ForDeclaration qs)
    unfolding level_ok
    same_level n [] k = k
    same_level n (s ∷ ds) k = k

    first_at : (n : Raw) (qs : List Raw) → rule_in n ≡ rule.ForDeclaration → qs ≡ (out-Raw n).parts → Shaped t n → Each (PartIs t) qs → IsTrue (level_ok t n rule.ForDeclaration qs) → MakesStmts n (declaration t (out-Raw n).parts)
    first_at n qs q p h ps k e r w c =
        let j = declaration t (out-Raw n).parts in
        let m = declaration_at n qs p ps k e r c in
        record { ready = m.ready; extends = m.extends; file = m.file; holds = clause_is n rule.ForDeclaration q e (j e).env (j e).part qs m.holds refl refl (spoken_at n rule.ForDeclaration qs q p h refl m.holds.spoken) }

    local_at : (n : Raw) (qs : List Raw) → rule_in n ≡ rule.Declaration → qs ≡ (out-Raw n).parts → Shaped t n → Each (PartIs t) qs → IsTrue (level_ok t n rule.Declaration qs) → MakesStmts n (framed env.past_pragmas (λ e. e) (declaration t (out-Raw n).parts))
    local_at n qs q p h ps k e r w c =
        let j = declaration t (out-Raw n).parts in
        let e0 = env.past_pragmas e in
        let m = declaration_at n qs p ps (same_level n qs k) e0 (ready_past e r) (record { faultless = c.faultless; within = c.within }) in
        let d = m.holds in
        let e' = (j e0).env in
        let x : MadeDecls t a looping qs e e' (j e0).part = record { made = d.made; known = d.known; stmts = stmts_from t a looping e e0 e' d.made refl refl refl d.stmts; declare = d.declare; spoken = d.spoken } in
        made_past e e' _ (record { ready = m.ready; extends = m.extends; file = m.file; holds = clause_is n rule.Declaration q e e' (j e0).part qs x refl refl (spoken_at n rule.Declaration qs q p h refl d.spoken) })

    sub_at : (n : Raw) (qs : List Raw) → rule_in n ≡ rule.Sub → qs ≡ (out-Raw n).parts → Shaped t n → Each (PartIs t) qs → IsTrue (ends_in_stmt qs) → MakesStmts n (in_order a looping (map (statement t) qs))
    sub_at n qs q p h ps k e r w c =
        let m = order_fine t a looping qs ps (sub_stated qs k) e r w c in
        let s = m.holds in
        record {
          ready = m.ready;
          extends = m.extends;
          file = m.file;
          holds = record {
            made = s.made;
            known = s.known;
            stmts = s.stmts;
            single = λ x. s.single k;
            none = λ x. absurd (let no : false ≡ true = subst (λ r. IsTrue (is_pragma r)) q x in cc);
            clause = λ x. absurd (let no : false ≡ true = subst (λ r. IsTrue (is_first r)) q x in cc);
            spoken = spoken_at n rule.Sub qs q p h refl s.spoken;
          };
        }

    eval_leaves : (span : Span) (o : Option Expr) (s : Stmt) → eval_made span o ≡ Some s → IsTrue (tree.leaving s).evaluates
    unfolding eval_made roll-StmtKind denote.Hole.Carrier.roll
    eval_leaves span None s h = absurd cc
    eval_leaves span (Some x) s h =
        let same : stmt span (Eval x) ≡ s = cc in
        subst (λ s. IsTrue (tree.leaving s).evaluates) same (ap (λ (l : Leaving). l.evaluates) (leaving_by span (StmtKind-F.Eval x)))

    clause_one : (s : Stmt) → IsTrue (tree.leaving s).evaluates → IsTrue (clause_ok (map tree.leaving (s ∷ [])))
    clause_one s h = or_right (tree.leaving s).declares _ h

    clause_list : (n : Raw) (qs : List Raw) → rule_in n ≡ rule.Clause → Shaped t n → (Each (Spoken t) qs → Spoken t n) → Each (PartIs t) qs → IsTrue (one_at_most is_expr qs) → MakesStmts n (clause_by t (span_in t n) qs)
    unfolding clause_by eval_by one
    clause_list n [] q h s ps k e r w c = made_self e _ r (record {
      made = [];
      known = refl;
      stmts = stmts_none t a looping e e refl;
      single = λ x. absurd (let no : false ≡ true = subst (λ r. IsTrue (is_stmt r || is_sub r)) q x in cc);
      none = λ x. refl;
      clause = λ x. refl;
      spoken = s tt;
    })
    clause_list n (y ∷ ys) q h s ps k e r w c =
        let span = span_in t n in
        let j = evaluated t y in
        let m = eval_fine t valued a looping span (y ∷ ys) (shapes (y ∷ ys) ps) k e r (record { faultless = c.faultless; within = c.within }) in
        let e' = (j e).env in
        let d = m.holds in
        record {
          ready = m.ready;
          extends = m.extends;
          file = m.file;
          holds = record {
            made = d.made ∷ [];
            known = ap one d.is_made;
            stmts = stmts_alone t a looping e e' d.made (λ seen z. subst (λ l. Covers (l ++ seen) e') (sym d.adds) (d.covers seen z)) d.stmt;
            single = λ x. absurd (let no : false ≡ true = subst (λ r. IsTrue (is_stmt r || is_sub r)) q x in cc);
            none = λ x. absurd (let no : false ≡ true = subst (λ r. IsTrue (is_pragma r)) q x in cc);
            clause = λ x. clause_one d.made (eval_leaves span (j e).part d.made d.is_made);
            spoken = s d.spoken;
          };
        }

    clause_at : (n : Raw) (qs : List Raw) → rule_in n ≡ rule.Clause → qs ≡ (out-Raw n).parts → Shaped t n → Each (PartIs t) qs → IsTrue (one_at_most is_expr qs) → MakesStmts n (clause_by t (span_in t n) (out-Raw n).parts)
    clause_at n qs q p h ps k = subst (λ l. MakesStmts n (clause_by t (span_in t n) l)) p (clause_list n qs q h (spoken_at n rule.Clause qs q p h refl) ps k)

    -- ---- nodes

    stmt_at : (n : Raw) (r : Rule) (qs : List Raw) → rule_in n ≡ r → qs ≡ (out-Raw n).parts → Shaped t n → IsTrue (level_ok t n r qs) → Each (PartIs t) qs → IsTrue (is_stmt r) → MakesStmts n (mapped one (stmt_by t n r (map (statement t) qs) a looping))
    stmt_at n r qs q p h k ps x = one_fine t a looping n (subst (λ r. IsTrue (is_stmt r)) (sym q) x) h lexed qs p (stmt_by t n r (map (statement t) qs) a looping) (plain_at n r qs p ps k x)

    stated_at : (n : Raw) (r : Rule) (qs : List Raw) → rule_in n ≡ r → qs ≡ (out-Raw n).parts → Shaped t n → IsTrue (level_ok t n r qs) → Each (PartIs t) qs → IsTrue (is_stated r) → MakesStmts n (stated_by t n r (map (statement t) qs) a looping)
    unfolding level_ok stated_by
    stated_at n rule.Pragma qs q p h k ps x = pragma_at n qs q p h k
    stated_at n rule.Declaration qs q p h k ps x = local_at n qs q p h ps k
    stated_at n rule.ForDeclaration qs q p h k ps x = first_at n qs q p h ps k
    stated_at n rule.Clause qs q p h k ps x = clause_at n qs q p h ps k
    stated_at n rule.Sub qs q p h k ps x = sub_at n qs q p h ps k
    stated_at n r qs q p h k ps x = stmt_at n r qs q p h k ps (stmt_rest (is_stmt r) x)

    body_at : (n : Raw) → Shaped t n → Each (PartIs t) (out-Raw n).parts → IsTrue (is_block (rule_in n)) → MakesFor t a (MadeBody t n a looping) (enclosed (span_in t n) a looping (map (statement t) (out-Raw n).parts))
    body_at n h ps x e r w c =
        let l = block_level t n (rule_in n) (out-Raw n).parts x (level_shaped t n h) in
        let m = enclosed_fine t a looping (span_in t n) (out-Raw n).parts ps l.0 e r w c in
        let s = m.holds in
        record { ready = m.ready; extends = m.extends; file = m.file; holds = record { made = s.made; known = s.is_made; stmt = s.stmt; braces = s.braces; spoken = spoken_of t lexed n h l.1 s.spoken } }

  part_is : (ns : List Raw) → Each (λ n. Shaped t n → PartFine t n (statement t n)) ns → Each (Shaped t) ns → Each (PartIs t) ns
  part_is [] f h = tt
  part_is (n ∷ ns) f h = ((f.0 h.0, h.0), part_is ns f.1 h.1)

  pub statement_fine : (node : Raw) → Shaped t node → PartFine t node (statement t node)
  statement_fine = by_parts (λ n. Shaped t n → PartFine t n (statement t n)) (λ n f h.
      let ps = part_is (out-Raw n).parts f (parts_shaped t n h) in
      subst (PartFine t n) (sym (statement_is t n)) (record {
        node_is = refl;
        stated = λ x a looping. stated_at a looping n (rule_in n) (out-Raw n).parts refl refl h (level_shaped t n h) ps x;
        body = λ x a looping. body_at a looping n h ps x;
      }))
