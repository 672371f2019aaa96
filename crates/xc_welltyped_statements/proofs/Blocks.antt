-- Statements in order, and blocks.
use Rattle.std.proofs.Common.{◌≡◌, List, [], ◌∷◌, ◌++◌, map, Bool, refl, sym, ap, ◌∙◌}
use Rattle.std.specs.Prelude.{IsTrue, ◌||◌, Option, Some}
use Rattle.std.proofs.lemmas.List.{append-nil}
use Rattle.xc_text_place.specs.declared.Span.{Span}
use Rattle.xc_tree.specs.declared.stmt.Stmt.{Stmt}
use Rattle.xc_tree.specs.declared.stmt.StmtKind.{Block, roll-StmtKind}
use Rattle.xc_tree.specs.declared.stmt.Item.TheOpen.{StmtKind-F}
use Rattle.xc_tree.specs.Lists.{every}
use Rattle.xc_tree.specs.Typed.{Context}
use Rattle.xc_tree.specs.Statements.{Inside, Leaving, leaving, stmt_ok, leaves_ok, sight}
use Rattle.xc_tree.proofs.Lists.{and_left, and_right, and_both}
use Rattle.xc_raw.specs.declared.rule.Rule.{Rule}
use Rattle.xc_raw.specs.declared.rule.Rule.TheVariants as rule
use Rattle.xc_raw.specs.declared.tree.Raw.{Raw}
use Rattle.xc_parse_grammar.specs.Grammar.{is_stmt}
use Rattle.xc_type_scopes.specs.declared.env.Env.{Env}
use Rattle.xc_type_scopes.specs.Env as env
use Rattle.xc_type_scopes.specs.Judge.{Judge, give, and_then, in_block}
use Rattle.xc_type_expressions.specs.declared.text.Text.{Text}
use Rattle.xc_type_statement_parts.specs.declared.answer.Answer.{Answer}
use Rattle.xc_type_statement_parts.specs.Making.{Stmts, stmt, followed, block_made}
use Rattle.xc_type_statements.specs.Stated.{statement, in_order, enclosed}
use Rattle.xc_type_lowering.specs.Accessed.{stmt_accessed}
use Rattle.xc_welltyped.proofs.Types.{or_left}
use Rattle.xc_welltyped_claims.specs.Lists.{Each}
use Rattle.xc_welltyped_claims.specs.Env.{Into}
use Rattle.xc_welltyped_claims.specs.Shaped.{rule_in, is_pragma, is_block_item, is_sub, is_first, ends_in_stmt, all_of, Spoken}
use Rattle.xc_welltyped_claims.proofs.Env.{extends_then}
use Rattle.xc_welltyped_claims.proofs.Judges.{made_self, clean_first, clean_second, clean_framed}
use Rattle.xc_welltyped_statements.specs.Stmts.{inside, IsStmt, AreStmts, MakesFor}
use Rattle.xc_welltyped_statements.proofs.Passing.{passing_order}
use Rattle.xc_welltyped_statements.proofs.Folds.{IsForm, stmt_by, adds_by, leaving_by}
use Rattle.xc_welltyped_statements.proofs.Places.{into_as, ready_past, extends_past, answer_inside, ready_inside, covers_inside, extends_block, ready_block, covers_block, into_block}
use Rattle.xc_welltyped_statements.proofs.Joins.{stmts_none, stmts_both}
use Rattle.xc_welltyped_statements.proofs.Simple.{MadeOne, answer_extends}
use Rattle.xc_welltyped_statements.proofs.Branches.{PartIs, all_passing}
use Rattle.xc_welltyped_structs.proofs.Lists.{every_of}

-- what may stand in order
abbrev pub is_stated : Rule → Bool
is_stated r = is_block_item r || (is_sub r || is_first r)

abbrev pub Single : List Stmt → Type 0
Single made = (s : Stmt) × (made ≡ s ∷ []) × ((sight s).adds ≡ [])

pub record MadeOrder (t : Text) (a : Answer) (looping : Bool) (ns : List Raw) (e e' : Env) (o : Stmts) : Type 0 where
  pub made : List Stmt
  pub known : o ≡ Some made
  pub stmts : AreStmts t a looping e e' made
  pub single : IsTrue (ends_in_stmt ns) → Single made
  pub spoken : Each (Spoken t) ns

-- a block: what it is where its scope has begun
pub record MadeBlock (t : Text) (a : Answer) (looping : Bool) (ns : List Raw) (e e' : Env) (o : Option Stmt) : Type 0 where
  pub made : Stmt
  pub is_made : o ≡ Some made
  pub stmt : IsStmt t a looping e e' made
  pub adds : (sight made).adds ≡ []
  pub braces : IsTrue (leaving made).braces
  pub spoken : Each (Spoken t) ns

stmt_item : (r : Rule) → IsTrue (is_stmt r) → IsTrue (is_block_item r)
stmt_item rule.Pragma h = refl
stmt_item rule.Declaration h = refl
stmt_item r h = h

pragma_item : (r : Rule) → IsTrue (is_pragma r) → IsTrue (is_block_item r)
pragma_item rule.Pragma h = refl
pragma_item r h = absurd cc

pub items_stated : (ns : List Raw) → IsTrue (all_of is_block_item ns) → Each (λ n. IsTrue (is_stated (rule_in n))) ns
items_stated [] h = tt
items_stated (n ∷ ns) h = (or_left (is_block_item (rule_in n)) _ (and_left _ _ h), items_stated ns (and_right (is_block_item (rule_in n)) _ h))

pub sub_stated : (ns : List Raw) → IsTrue (ends_in_stmt ns) → Each (λ n. IsTrue (is_stated (rule_in n))) ns
sub_stated [] h = tt
sub_stated (n ∷ []) h = (or_left (is_block_item (rule_in n)) _ (stmt_item (rule_in n) h), tt)
sub_stated (n ∷ m ∷ ns) h = (or_left (is_block_item (rule_in n)) _ (pragma_item (rule_in n) (and_left _ _ h)), sub_stated (m ∷ ns) (and_right (is_pragma (rule_in n)) _ h))

every_twice : (ss : List Stmt) (w : Inside) → Each (λ s. IsTrue (leaves_ok s w)) ss → IsTrue (every (map (λ (l : Leaving). l.ok w) (map leaving ss)))
every_twice [] w h = refl
every_twice (s ∷ ss) w h = and_both (leaves_ok s w) _ h.0 (every_twice ss w h.1)

module _ (t : Text) (a : Answer) (looping : Bool) where
  followed_both : (xs ys : List Stmt) (x y : Stmts) → x ≡ Some xs → y ≡ Some ys → followed x y ≡ Some (xs ++ ys)
  unfolding followed
  followed_both xs ys x y p q = ap (λ x. followed x y) p ∙ ap (λ y. followed (Some xs) y) q

  single_at : (n : Raw) (ns : List Raw) (xs ys : List Stmt) → (IsTrue (is_stmt (rule_in n) || is_sub (rule_in n)) → Single xs) → (IsTrue (is_pragma (rule_in n)) → xs ≡ []) →
      (ns ≡ [] → ys ≡ []) → (IsTrue (ends_in_stmt ns) → Single ys) → IsTrue (ends_in_stmt (n ∷ ns)) → Single (xs ++ ys)
  single_at n [] xs ys f g z k h =
      let one = f (or_left (is_stmt (rule_in n)) _ h) in
      (one.0, ap (λ l. xs ++ l) (z refl) ∙ (append-nil xs ∙ one.1), one.2)
  single_at n (m ∷ ns) xs ys f g z k h =
      let one = k (and_right (is_pragma (rule_in n)) _ h) in
      (one.0, ap (λ l. l ++ ys) (g (and_left _ _ h)) ∙ one.1, one.2)

  none_of_none : (ns : List Raw) (e e' : Env) (o : Stmts) (made : List Stmt) → o ≡ Some made → (ns ≡ [] → o ≡ Some []) → ns ≡ [] → made ≡ []
  none_of_none ns e e' o made p f z = by (sym p ∙ f z)
    where
      by : Some made ≡ Some [] → made ≡ []
      by q = cc

  order_none : (ns : List Raw) (e : Env) → ns ≡ [] → (in_order a looping (map (statement t) ns) e).part ≡ Some []
  unfolding in_order
  order_none [] e z = refl
  order_none (n ∷ ns) e z = absurd cc

  pub order_fine : (ns : List Raw) → Each (PartIs t) ns → Each (λ n. IsTrue (is_stated (rule_in n))) ns → MakesFor t a (MadeOrder t a looping ns) (in_order a looping (map (statement t) ns))
  unfolding in_order
  order_fine [] h x e r w c = made_self e _ r (record { made = []; known = refl; stmts = stmts_none t a looping e e refl; single = λ k. absurd cc; spoken = tt })
  order_fine (n ∷ ns) h x e r w c =
      let ps = map (statement t) ns in
      let j1 = (statement t n).stated a looping in
      let j2 = in_order a looping ps in
      let k2 : Stmts → Stmts → Judge Stmts = λ x xs. give (followed x xs) [] in
      let k1 : Stmts → Judge Stmts = λ x. and_then j2 (k2 x) in
      let m1 = h.0.0.stated x.0 a looping e r w (clean_first j1 k1 e c (λ v. passing_order a looping ps (all_passing t ns))) in
      let e1 = (j1 e).env in
      let c1 = clean_second j1 k1 e c in
      let m2 = order_fine ns h.1 x.1 e1 m1.ready (answer_extends t a e e1 m1.extends w) (clean_first j2 (k2 (j1 e).part) e1 c1 (λ v f i. i)) in
      let e2 = (j2 e1).env in
      let s = m1.holds in
      let q = m2.holds in
      record {
        ready = m2.ready;
        extends = extends_then e e1 e2 m1.extends m2.extends;
        file = m2.file ∙ m1.file;
        holds = record {
          made = s.made ++ q.made;
          known = followed_both s.made q.made (j1 e).part (j2 e1).part s.known q.known;
          stmts = stmts_both t a looping e e1 e2 s.made q.made m1.extends m2.extends s.stmts q.stmts;
          single = single_at n ns s.made q.made s.single s.none (none_of_none ns e1 e2 (j2 e1).part q.made q.known (order_none ns e1)) q.single;
          spoken = (s.spoken, q.spoken);
        };
      }

  block_form : (e e' : Env) (ss : List Stmt) → AreStmts t a looping e e' ss → IsForm t a looping e (env.past_pragmas e') (StmtKind-F.Block ss)
  block_form e e' ss f =
      let back : (cx : Context) → Into t cx (env.past_pragmas e') → Into t cx e' = λ cx i. into_as t cx (env.past_pragmas e') e' refl refl refl i in
      record {
        typed = λ cx i. every_of (stmt_ok cx) ss (f.typed cx (back cx i));
        leaves = λ cx i ret h. every_twice ss (inside ret looping) (f.leaves cx (back cx i) ret h);
        sees = λ seen c. (f.sees seen c).0;
        ids = f.ids;
        declares = f.declares;
        used = λ flags m. every_of (stmt_accessed flags) ss (f.used flags m);
      }

  block_is : (span : Span) (ss : List Stmt) (x : Stmts) → x ≡ Some ss → block_made span x ≡ Some (stmt span (Block ss))
  unfolding block_made
  block_is span ss x p = ap (block_made span) p

  pub enclosed_fine : (span : Span) (ns : List Raw) → Each (PartIs t) ns → IsTrue (all_of is_block_item ns) → MakesFor t a (MadeBlock t a looping ns) (enclosed span a looping (map (statement t) ns))
  unfolding enclosed roll-StmtKind denote.Hole.Carrier.roll
  enclosed_fine span ns h x e r w c =
      let j = in_order a looping (map (statement t) ns) in
      let m = order_fine ns h (items_stated ns x) e r w (record { faultless = c.faultless; within = c.within }) in
      let e' = (j e).env in
      let s = m.holds in
      record {
        ready = ready_past e' m.ready;
        extends = extends_then e e' (env.past_pragmas e') m.extends (extends_past e');
        file = m.file;
        holds = record {
          made = stmt span (Block s.made);
          is_made = block_is span s.made (j e).part s.known;
          stmt = stmt_by t a looping e (env.past_pragmas e') span (StmtKind-F.Block s.made) (block_form e e' s.made s.stmts);
          adds = adds_by span (StmtKind-F.Block s.made);
          braces = ap (λ (l : Leaving). l.braces) (leaving_by span (StmtKind-F.Block s.made));
          spoken = s.spoken;
        };
      }

  pub block_fine : (span : Span) (ns : List Raw) → Each (PartIs t) ns → IsTrue (all_of is_block_item ns) → MakesFor t a (MadeOne t a looping ns) (in_block (enclosed span a looping (map (statement t) ns)))
  block_fine span ns h x e r w c =
      let j = enclosed span a looping (map (statement t) ns) in
      let e1 = env.inside e in
      let m = enclosed_fine span ns h x e1 (ready_inside e r) (answer_inside t a e w) (clean_framed env.inside env.outside j e (λ e. refl) c) in
      let e2 = (j e1).env in
      let s = m.holds in
      let f = s.stmt in
      record {
        ready = ready_block e e2 m.extends r m.ready;
        extends = extends_block e e2 m.extends;
        file = m.file;
        holds = record {
          made = s.made;
          is_made = s.is_made;
          stmt = record {
            typed = λ cx i. f.typed cx (into_block t cx e2 i);
            leaves = λ cx i ret q. f.leaves cx (into_block t cx e2 i) ret q;
            sees = λ seen q. f.sees seen (covers_inside seen e q);
            ids = f.ids;
            declares = f.declares;
            used = f.used;
          };
          adds = s.adds;
          covers = λ seen q. covers_block e e2 m.extends seen q;
          spoken = s.spoken;
        };
      }
