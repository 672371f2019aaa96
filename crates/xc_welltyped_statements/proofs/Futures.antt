-- `future` statements.
use Rattle.std.proofs.Common.{◌≡◌, ℕ, ◌<◌, ◌≤◌, List, [], ◌∷◌, ◌++◌, length, map, Bool, true, false, refl, sym, ap, ◌∙◌, subst, arith}
use Rattle.std.specs.Prelude.{IsTrue, not, Option, Some, None, option_and_then}
use Rattle.xc_text_place.specs.declared.Span.{Span}
use Rattle.xc_tree.specs.declared.ty.Ty.{Ty, out-Ty}
use Rattle.xc_tree.specs.declared.ty.Ty.TheOpen.{Ty-F}
use Rattle.xc_tree.specs.declared.expr.Expr.{Expr}
use Rattle.xc_tree.specs.declared.stmt.Stmt.{Stmt}
use Rattle.xc_tree.specs.declared.stmt.Capture.{Capture}
use Rattle.xc_tree.specs.declared.stmt.StmtKind.{Future, roll-StmtKind}
use Rattle.xc_tree.specs.declared.stmt.Item.TheOpen.{StmtKind-F}
use Rattle.xc_tree.specs.Lists.{every, allows, passes}
use Rattle.xc_tree.specs.Types.{base_at, future_of, future_at, future_under}
use Rattle.xc_tree.specs.Typed.{Context, expr_ok}
use Rattle.xc_tree.specs.Walk.{loop_ids, declared}
use Rattle.xc_tree.specs.Statements.{capture_ok, leaving, body_ok, sees}
use Rattle.xc_tree.proofs.Lists.{and_left, and_right, and_both}
use Rattle.xc_raw.specs.declared.rule.Rule.TheVariants as rule
use Rattle.xc_raw.specs.declared.tree.Raw.{Raw, out-Raw}
use Rattle.xc_type_rule.specs.declared.found.Found.{Found}
use Rattle.xc_type_rule.specs.declared.found.Known.{Known}
use Rattle.xc_type_rule.specs.declared.found.Known.TheVariants as known
use Rattle.xc_type_rule.specs.declared.found.Thing.{Thing}
use Rattle.xc_type_rule.specs.Least.{fault_unless}
use Rattle.xc_type_rule.specs.Tests.{is_unknown}
use Rattle.xc_raw_parts.specs.Names.{captured_names}
use Rattle.xc_type_scopes.specs.declared.env.Env.{Env}
use Rattle.xc_type_scopes.specs.Env as env
use Rattle.xc_type_scopes.specs.Env.{has_address_at}
use Rattle.xc_type_scopes.specs.Judge.{Judge, give, and_then, mapped}
use Rattle.xc_type_expressions.specs.declared.text.Text.{Text}
use Rattle.xc_type_expressions.specs.Judged.{span_in}
use Rattle.xc_type_statement_parts.specs.declared.answer.Answer.{Answer}
use Rattle.xc_type_statement_parts.specs.declared.answer.Answer.TheVariants as answer
use Rattle.xc_type_statement_parts.specs.declared.futures.Copied.{Copied}
use Rattle.xc_type_statement_parts.specs.Answers.{answer_ty}
use Rattle.xc_type_statement_parts.specs.Making.{stmt, future_made}
use Rattle.xc_type_statement_parts.specs.Futures as futures
use Rattle.xc_type_statements.specs.Stated.{statement, future_by}
use Rattle.xc_type_lowering.specs.Accessed.{only_accessed, use_of}
use Rattle.xc_welltyped.specs.Sound.{known_ok, Stands, IsPlace}
use Rattle.xc_welltyped.proofs.Objects.{base_ok}
use Rattle.xc_welltyped.proofs.Types.{pointee_of}
use Rattle.xc_welltyped.proofs.Whole.{kept}
use Rattle.xc_welltyped_locals.specs.Seen.{MadeSeen}
use Rattle.xc_welltyped_locals.specs.Used.{IsUsedPlace, UsedAs}
use Rattle.xc_welltyped_claims.specs.Lists.{StaysSet, Fresh}
use Rattle.xc_welltyped_claims.specs.Things.{IsTag, OwnThing}
use Rattle.xc_welltyped_claims.specs.Env.{Good, Ready, Stays, Extends, Into, Covers}
use Rattle.xc_welltyped_claims.specs.Judges.{Clean, Gives}
use Rattle.xc_welltyped_claims.specs.Found.{Fine}
use Rattle.xc_welltyped_claims.specs.Shaped.{rule_in, is_place, is_block, level_ok, Shaped, IsLexed, Spoken}
use Rattle.xc_welltyped_claims.proofs.Lists.{set_then, starts_length}
use Rattle.xc_welltyped_claims.proofs.Env.{point, at_point, stays_extends, extends_then, into_before}
use Rattle.xc_welltyped_claims.proofs.Judges.{made_of, clean_first, clean_second}
use Rattle.xc_welltyped_statements.specs.Stmts.{IsStmt, AnswerFine, MakesFor}
use Rattle.xc_welltyped_statements.proofs.Passing.{passing_begins, passing_copied, statement_passing}
use Rattle.xc_welltyped_statements.proofs.Folds.{IsForm, stmt_by, adds_by}
use Rattle.xc_welltyped_statements.proofs.Fresh.{fresh_both}
use Rattle.xc_welltyped_statements.proofs.Places.{into_as, answer_as}
use Rattle.xc_welltyped_statements.proofs.Values.{some_of, one_made}
use Rattle.xc_welltyped_statements.proofs.Simple.{covers_stays, MadeOne, Valued, answer_behind, answer_extends}
use Rattle.xc_welltyped_statements.proofs.Branches.{PartIs}
use Rattle.xc_welltyped_statements.proofs.Objects.{own_more}
use Rattle.xc_welltyped_statements.proofs.Reached.{PlacesFine, placed_fine}
use Rattle.xc_welltyped_statements.proofs.Copies.{ObjectGrows, copies_fine}
use Rattle.xc_welltyped_statements.proofs.Threads.{numbers, self_has, MadeCopies, copied_fine}
use Rattle.xc_welltyped_structs.proofs.Lists.{every_of}
use Rattle.xc_welltyped_structs.proofs.Grown.{scopes_more}

-- what is waited for ------------------------------------------------------------------

base_of : (ty of : Ty) (y : Ty-F Ty) → future_at y ≡ Some of → base_at ty y ≡ Some of
base_of ty of (Ty-F.Future u) h = h
base_of ty of Ty-F.Int h = absurd cc
base_of ty of Ty-F.Uint h = absurd cc
base_of ty of (Ty-F.Ptr to) h = absurd cc
base_of ty of Ty-F.Void h = absurd cc
base_of ty of (Ty-F.Array n u) h = absurd cc
base_of ty of (Ty-F.Struct s) h = absurd cc
base_of ty of (Ty-F.Sync u) h = absurd cc

lies_of : (of : Ty) (y : Ty-F Ty) → future_at y ≡ Some of → has_address_at y ≡ true
lies_of of (Ty-F.Future u) h = refl
lies_of of Ty-F.Int h = absurd cc
lies_of of Ty-F.Uint h = absurd cc
lies_of of (Ty-F.Ptr to) h = absurd cc
lies_of of Ty-F.Void h = absurd cc
lies_of of (Ty-F.Array n u) h = absurd cc
lies_of of (Ty-F.Struct s) h = absurd cc
lies_of of (Ty-F.Sync u) h = absurd cc

pub record MadeAwaited (t : Text) (p : Raw) (e : Env) (o : Option Expr × Answer) : Type 0 where
  pub made : Expr
  pub is_made : o.0 ≡ Some made
  pub of : Ty
  pub answer : o.1 ≡ answer.Future (Some of)
  pub typed : (cx : Context) → Into t cx e → IsTrue (expr_ok cx made)
  pub under : (cx : Context) → Into t cx e → future_under made.ty ≡ Some of
  pub seen : (seen : List ℕ) → Covers seen e → IsTrue (sees seen made)
  pub used : (flags : List Bool) → StaysSet e.addressed flags → IsTrue (only_accessed flags made)
  pub gives : AnswerFine t e o.1
  pub spoken : Spoken t p

place_sort : (k : Known) → IsTrue (not (is_unknown k)) → IsTrue (futures.may_be_future k) → (ty : Ty) × (w : Bool) × (of : Ty) × (k ≡ known.Place ty w) × (future_of ty ≡ Some of)
place_sort (known.Unknown place) h m = absurd (let no : false ≡ true = h in cc)
place_sort (known.Value ty) h m = absurd (let no : false ≡ true = m in cc)
place_sort (known.Place ty w) h m = let x = some_of (future_of ty) m in (ty, w, x.0, refl, x.1)

module _ (t : Text) (lexed : IsLexed t) (valued : Valued t) (places : PlacesFine t) where
  awaited_of : (p : Raw) (f : Found) (e : Env) → Fine t e f → IsTrue (futures.may_be_future f.known) → Spoken t p → MadeAwaited t p e (f.made, answer.Future (futures.waits_for f.known))
  awaited_of p f e h m s =
      let k = place_sort f.known h.whole.known m in
      let ty = k.0 in
      let x = one_made f.made h.whole.made in
      let stands : (cx : Context) → Into t cx e → IsPlace cx ty k.1 x.0 = λ cx i.
      subst (λ o. Stands cx (known.Place ty k.1) o) x.1 (subst (λ y. Stands cx y f.made) k.3 (h.sound (point cx e) (at_point t cx e i)).made) in
      let waits : futures.waits_for f.known ≡ Some k.2 = ap futures.waits_for k.3 ∙ k.4 in
      record {
        made = x.0;
        is_made = x.1;
        of = k.2;
        answer = ap answer.Future waits;
        typed = λ cx i. (stands cx i).made.ok;
        under = λ cx i. ap future_under (stands cx i).made.own ∙ (ap (λ o. option_and_then future_of o) (pointee_of ty) ∙ k.4);
        seen = λ seen c. subst (λ o. MadeSeen seen o) x.1 (h.seen seen c);
        used = λ flags d.
            let u : IsUsedPlace flags (length e.locals) ty x.0 = subst (λ o. UsedAs flags (length e.locals) (known.Place ty k.1) o) x.1 (subst (λ y. UsedAs flags (length e.locals) y f.made) k.3 (h.used flags d)) in
            and_both (not (use_of flags x.0).place) _ (ap not (u.lies (lies_of k.2 (out-Ty ty) k.4))) u.ok;
        gives = λ so a. subst (λ o. IsTrue (allows (λ ty. known_ok so (known.Value ty)) o)) (sym waits)
            (base_ok so ty k.2 (base_of ty k.2 (out-Ty ty) k.4) (subst (λ y. IsTrue (known_ok so y)) k.3 (h.sound so a).known));
        spoken = s;
      }

  awaited_fine : (span : Span) (p : Raw) → Shaped t p → IsTrue (is_place (rule_in p)) → Gives (MadeAwaited t p) (futures.awaited t span p)
  unfolding futures.awaited
  awaited_fine span p h x e g c =
      let j = futures.placed t p in
      let k : Found → Judge (Option Expr × Answer) = λ f. give (f.made, answer.Future (futures.waits_for f.known)) (fault_unless (futures.may_be_future f.known) span) in
      let m = placed_fine t valued places lexed p h x e g (clean_first j k e c (λ v f i. i)) in
      let c1 = clean_second j k e c in
      record { good = m.good; stays = m.stays; holds = awaited_of p (j e).part (j e).env m.holds.0 (kept span (futures.may_be_future (j e).part.known) c1.faultless) m.holds.1 }

-- bodies ----------------------------------------------------------------------------------

good_future : (e : Env) → Good e → Good (env.in_future e)
good_future e g = record { table = g.table; layout = g.layout; file = g.file; own = (tt, tt); file_tags = g.file_tags; own_tags = (tt, tt); locals = g.locals; marks = g.marks }

ready_future : (e : Env) → Ready e → Ready (env.in_future e)
ready_future e r = record { good = good_future e r.good; complete = r.complete; within = refl }

into_future : (t : Text) (cx : Context) (e : Env) → Into t cx (env.in_future e) → Into t cx e
into_future t cx e i = into_as t cx (env.in_future e) e refl refl refl i

answer_future : (t : Text) (a : Answer) (e : Env) → AnswerFine t e a → AnswerFine t (env.in_future e) a
answer_future t a e = answer_as t a e (env.in_future e) refl refl refl

module _ (e e' : Env) (s : Extends (env.in_future e) e') where
  abbrev behind : Env
  behind = env.after_future (env.outside_of e) e'

  extends_behind : Extends e behind
  extends_behind = record { file = s.file; own = refl; scopes = refl; own_tags = refl; structs = s.structs; locals = s.locals; addressed = s.addressed; loops = s.loops }

  own_behind : (x : Thing) → OwnThing e.locals x → OwnThing e'.locals x
  own_behind x h = subst (λ l. OwnThing l x) (sym s.locals.1) (own_more e.locals s.locals.0 x h)

  tag_behind : (n : ℕ) → IsTag e.structs.sizes n → IsTag e'.structs.sizes n
  tag_behind n h = let le = starts_length e.structs.sizes e'.structs.sizes (s.structs.added, s.structs.sizes) in less n _ _ h le
    where
      less : (a b c : ℕ) → a < b → b ≤ c → a < c
      less a b c h k = omega (arith, h, k)

  ready_behind : Ready e → Ready e' → Ready behind
  ready_behind r r' = let g = r'.good in record {
    good = record {
      table = g.table;
      layout = g.layout;
      file = g.file;
      own = scopes_more (OwnThing e.locals) (OwnThing e'.locals) own_behind e.own r.good.own;
      file_tags = g.file_tags;
      own_tags = scopes_more (IsTag e.structs.sizes) (IsTag e'.structs.sizes) tag_behind e.own_tags r.good.own_tags;
      locals = g.locals;
      marks = record { many = g.marks.many; marked = g.marks.marked };
    };
    complete = r'.complete;
    within = r.within;
  }

into_behind : (t : Text) (cx : Context) (e e' : Env) → Into t cx (env.after_future (env.outside_of e) e') → Into t cx e'
into_behind t cx e e' i = into_as t cx (env.after_future (env.outside_of e) e') e' refl refl refl i

module _ (t : Text) (a : Answer) (looping : Bool) (p : Raw) (e e1 e2 f3 f4 : Env) (k1 : Stays e e1) (k2 : Stays e1 e2) (x3 : Extends (env.in_future e2) f3) (x4 : Extends f3 f4)
    (o : Option Expr × Answer) (w : MadeAwaited t p e1 o) (cs : Option (List Capture)) (q : MadeCopies t e2 (env.in_future e2) f3 cs) (s : Stmt) (f : IsStmt t o.1 false f3 f4 s) (b : IsTrue (leaving s).braces) where
  abbrev after : Env
  after = env.after_future (env.outside_of e2) f4

  into_four : (cx : Context) → Into t cx after → Into t cx f4
  into_four cx i = into_behind t cx e2 f4 i

  into_three : (cx : Context) → Into t cx after → Into t cx f3
  into_three cx i = into_before t cx f3 f4 x4 (into_four cx i)

  into_two : (cx : Context) → Into t cx after → Into t cx e2
  into_two cx i = into_future t cx e2 (into_before t cx (env.in_future e2) f3 x3 (into_three cx i))

  into_one : (cx : Context) → Into t cx after → Into t cx e1
  into_one cx i = into_before t cx e1 e2 (stays_extends e1 e2 k2) (into_two cx i)

  same_loops : f3.loops ≡ e.loops
  same_loops = q.loops ∙ (k2.loops ∙ k1.loops)

  same_locals : e2.locals ≡ e.locals
  same_locals = k2.locals ∙ k1.locals

  set_four : (flags : List Bool) → StaysSet f4.addressed flags → StaysSet e2.addressed flags
  set_four flags d = set_then e2.addressed f3.addressed flags x3.addressed (set_then f3.addressed f4.addressed flags x4.addressed d)

  future_form : IsForm t a looping e after (StmtKind-F.Future w.made q.made s)
  future_form = record {
    typed = λ cx i. and_both (expr_ok cx w.made) _ (w.typed cx (into_one cx i)) (and_both (every (map (capture_ok cx) q.made)) _ (every_of (capture_ok cx) q.made (q.fits cx (into_two cx i) (into_three cx i))) (f.typed cx (into_four cx i)));
    leaves = λ cx i ret r. subst (λ u. IsTrue (passes (body_ok (leaving s)) u)) (sym (w.under cx (into_one cx i))) (and_both (leaving s).braces _ b (f.leaves cx (into_four cx i) w.of (ap answer_ty w.answer)));
    sees = λ seen c.
        let c1 = covers_stays seen e e1 k1 c in
        and_both (sees seen w.made) _ (w.seen seen c1) (and_both (every (map (λ c. sees seen c.from) q.made)) _ (every_of (λ c. sees seen c.from) q.made (q.seen seen (covers_stays seen e1 e2 k2 c1)))
        (f.sees (numbers q.made) (q.covers (numbers q.made) (self_has (numbers q.made)) (tt, tt))));
    ids = subst (λ n. Fresh n f4.loops (loop_ids s)) same_loops f.ids;
    declares = subst (λ ls. Fresh (length ls) (length f4.locals) (numbers q.made ++ declared s)) same_locals
        (fresh_both (length e2.locals) (length f3.locals) (length f4.locals) (numbers q.made) (declared s) (starts_length e2.locals f3.locals x3.locals) (starts_length f3.locals f4.locals x4.locals) q.fresh f.declares);
    used = λ flags d.
        let d2 = set_four flags d in
        and_both (only_accessed flags w.made) _ (w.used flags (set_then e1.addressed e2.addressed flags k2.addressed d2))
        (and_both (every (map (λ c. only_accessed flags c.from) q.made)) _ (every_of (λ c. only_accessed flags c.from) q.made (q.used flags d2)) (f.used flags d));
  }

future_is : (span : Span) (x : Expr) (cs : List Capture) (s : Stmt) (o : Option Expr) (c : Option (List Capture)) (y : Option Stmt) → o ≡ Some x → c ≡ Some cs → y ≡ Some s → future_made span o c y ≡ Some (stmt span (Future x cs s))
unfolding future_made
future_is span x cs s o c y p q r = ap (λ o. future_made span o c y) p ∙ (ap (λ c. future_made span (Some x) c y) q ∙ ap (λ y. future_made span (Some x) (Some cs) y) r)

module _ (t : Text) (lexed : IsLexed t) (valued : Valued t) (places : PlacesFine t) (grows : ObjectGrows) where
  pub future_fine : (node p b : Raw) → p ∷ b ∷ [] ≡ (out-Raw node).parts → IsTrue (level_ok t node rule.Future (p ∷ b ∷ [])) → PartIs t p → PartIs t b → (a : Answer) (looping : Bool) →
      MakesFor t a (MadeOne t a looping (p ∷ b ∷ [])) (future_by t node (map (statement t) (p ∷ b ∷ [])))
  unfolding level_ok future_by futures.begins futures.threaded roll-StmtKind denote.Hole.Carrier.roll
  future_fine node p b same k hp hb a looping e r w c =
      let span = span_in t node in
      let l = and_right (is_place (rule_in p)) _ k in
      let names = and_right (is_block (rule_in b)) _ l in
      let j1 = futures.awaited t span (statement t p).node in
      let body : Answer → Judge (Option Stmt) = λ a. (statement t b).body a false in
      let j2 : Option Expr × Answer → Judge (Option (List Capture) × Option Stmt) = λ f. futures.begins t node (body f.1) in
      let k2 : Option Expr × Answer → Option (List Capture) × Option Stmt → Judge (Option Stmt) = λ f b. give (future_made span f.0 b.0 b.1) [] in
      let k1 : Option Expr × Answer → Judge (Option Stmt) = λ f. and_then (j2 f) (k2 f) in
      let g1 = (subst (λ n. Gives (MadeAwaited t p) (futures.awaited t span n)) (sym hp.0.node_is) (awaited_fine t lexed valued places span p hp.1 (and_left _ _ k))) e r.good
      (clean_first j1 k1 e c (λ f. passing_begins t node (body f.1) ((statement_passing t b).body f.1 false))) in
      let e1 = (j1 e).env in
      let o = (j1 e).part in
      let m1 = made_of e e1 _ r g1 in
      let c1 = clean_first (j2 o) (k2 o) e1 (clean_second j1 k1 e c) (λ v f i. i) in
      let j3 = futures.copies t (captured_names t.tokens.now node) in
      let k3 : List Copied → Judge (Option (List Capture) × Option Stmt) = λ cs. futures.threaded cs (body o.1) in
      let p3 : (cs : List Copied) (e : Env) → (k3 cs e).env.over ≡ None → e.over ≡ None = λ cs f i. passing_copied cs (env.in_future f) ((statement_passing t b).body o.1 false (futures.copied cs (env.in_future f)).env i) in
      let g2 = copies_fine t places grows (captured_names t.tokens.now node) names e1 m1.ready.good (clean_first j3 k3 e1 c1 p3) in
      let e2 = (j3 e1).env in
      let cs = (j3 e1).part in
      let m2 = made_of e1 e2 _ m1.ready g2 in
      let f2 = env.in_future e2 in
      let c3 = clean_second j3 k3 e1 c1 in
      let j4 = futures.copied cs in
      let k4 : Option (List Capture) → Judge (Option (List Capture) × Option Stmt) = λ captures. mapped (λ b. (captures, b)) (body o.1) in
      let d3 : Clean (and_then j4 k4) f2 = record { faultless = c3.faultless; within = c3.within } in
      let m3 = copied_fine t e2 cs g2.holds f2 (ready_future e2 m2.ready) refl (clean_first j4 k4 f2 d3 (λ v. (statement_passing t b).body o.1 false)) in
      let f3 = (j4 f2).env in
      let d4 = clean_second j4 k4 f2 d3 in
      let a2 = answer_behind t o.1 e1 e2 g2.stays g1.holds.gives in
      let m4 = hb.0.body (and_left _ _ l) o.1 false f3 m3.ready (answer_extends t o.1 f2 f3 m3.extends (answer_future t o.1 e2 a2)) (record { faultless = d4.faultless; within = d4.within }) in
      let f4 = (body o.1 f3).env in
      let all = extends_then f2 f3 f4 m3.extends m4.extends in
      let q = m3.holds in
      let s = m4.holds in
      let v = g1.holds in
      let form = StmtKind-F.Future v.made q.made s.made in
      let e5 = env.after_future (env.outside_of e2) f4 in
      record {
        ready = ready_behind e2 f4 all m2.ready m4.ready;
        extends = extends_then e e2 e5 (extends_then e e1 e2 m1.extends m2.extends) (extends_behind e2 f4 all);
        file = m4.file ∙ m3.file ∙ m2.file ∙ m1.file;
        holds = record {
          made = stmt span (Future v.made q.made s.made);
          is_made = future_is span v.made q.made s.made _ _ _ v.is_made q.known s.known;
          stmt = stmt_by t a looping e e5 span form (future_form t a looping p e e1 e2 f3 f4 g1.stays g2.stays m3.extends m4.extends o v (j4 f2).part q s.made s.stmt s.braces);
          adds = adds_by span form;
          covers = λ seen z. covers_stays seen e1 e2 g2.stays (covers_stays seen e e1 g1.stays z);
          spoken = (v.spoken, (s.spoken, tt));
        };
      }
