-- Statements of expressions alone.
use Rattle.std.proofs.Common.{◌≡◌, ℕ, List, [], ◌∷◌, length, Bool, true, refl, sym, ap, subst}
use Rattle.std.specs.Prelude.{IsTrue, not, ◌&&◌, Option, Some, None, option_map}
use Rattle.xc_text_place.specs.declared.Span.{Span}
use Rattle.xc_tree.specs.declared.ty.Ty.{Ty}
use Rattle.xc_tree.specs.declared.expr.Expr.{Expr}
use Rattle.xc_tree.specs.declared.stmt.Stmt.{Stmt}
use Rattle.xc_tree.specs.declared.stmt.StmtKind.{Eval, Return, Break, Continue, roll-StmtKind}
use Rattle.xc_tree.specs.declared.stmt.Item.TheOpen.{StmtKind-F}
use Rattle.xc_tree.specs.Lists.{allows}
use Rattle.xc_tree.specs.Types.{is_void, is_plain, fits}
use Rattle.xc_tree.specs.Statements.{sight}
use Rattle.xc_tree.proofs.Lists.{and_left, and_right}
use Rattle.xc_raw.specs.declared.tree.Raw.{Raw}
use Rattle.xc_type_rule.specs.declared.found.Found.{Found}
use Rattle.xc_type_rule.specs.declared.found.Known.{Known}
use Rattle.xc_type_rule.specs.declared.found.Known.TheVariants as known
use Rattle.xc_type_rule.specs.Least.{fault_unless}
use Rattle.xc_type_rule.specs.Nulls.{given}
use Rattle.xc_type_rule.specs.Tests.{may_be}
use Rattle.xc_type_rule_operators.specs.Operators.{suited}
use Rattle.xc_type_scopes.specs.declared.env.Env.{Env}
use Rattle.xc_type_scopes.specs.Judge.{Judge, give, and_then}
use Rattle.xc_type_expressions.specs.declared.text.Text.{Text}
use Rattle.xc_type_expressions.specs.Roles.{value}
use Rattle.xc_type_expressions.specs.Judged.{judged, span_in}
use Rattle.xc_type_statement_parts.specs.declared.answer.Answer.{Answer}
use Rattle.xc_type_statement_parts.specs.declared.answer.Answer.TheVariants as answer
use Rattle.xc_type_statement_parts.specs.Answers.{answer_ty, may_be_given, may_be_absent, returned_value, return_part, return_faults}
use Rattle.xc_type_statement_parts.specs.Making.{stmt, eval_made}
use Rattle.xc_type_statements.specs.Stated.{tested, evaluated, eval_by, return_by, leaving}
use Rattle.xc_welltyped.specs.Sound.{Point, known_ok}
use Rattle.xc_welltyped.proofs.Nulls.{given_sound}
use Rattle.xc_welltyped.proofs.Whole.{kept, given_whole}
use Rattle.xc_welltyped_locals.proofs.SeenValues.{given_seen}
use Rattle.xc_welltyped_locals.specs.Used.{IsUsed}
use Rattle.xc_welltyped_claims.specs.Lists.{Each}
use Rattle.xc_welltyped_claims.specs.Things.{InScopes, SeenThing}
use Rattle.xc_welltyped_claims.specs.Env.{Stays, Extends, At, Covers}
use Rattle.xc_welltyped_claims.specs.Judges.{Gives, Makes}
use Rattle.xc_welltyped_claims.specs.Found.{Fine}
use Rattle.xc_welltyped_claims.specs.Shaped.{rule_in, is_expr, none_of, one_at_most, Shaped, Spoken}
use Rattle.xc_welltyped_claims.proofs.Env.{stays_extends, sound_behind, at_before, point}
use Rattle.xc_welltyped_claims.proofs.Judges.{given_self, gives_then, made_self, made_of, clean_first, clean_second, clean_mapped}
use Rattle.xc_welltyped_statements.specs.Stmts.{IsStmt, AnswerFine, MakesFor}
use Rattle.xc_welltyped_statements.proofs.Folds.{Form, IsForm, stmt_by, adds_by}
use Rattle.xc_welltyped_statements.proofs.Fresh.{fresh_none}
use Rattle.xc_welltyped_statements.proofs.Values.{IsValue, has_value}

pub covers_stays : (seen : List ℕ) (e e' : Env) → Stays e e' → Covers seen e → Covers seen e'
covers_stays seen e e' s c = subst (λ o. InScopes (SeenThing seen) o) (sym s.own) c

-- a value that a part makes
pub record MadeValue (t : Text) (node : Raw) (p : Ty → Bool) (e : Env) (o : Option Expr) : Type 0 where
  pub made : Expr
  pub is_made : o ≡ Some made
  pub ty : Ty
  pub passes : IsTrue (p ty)
  pub value : IsValue t e ty made
  pub spoken : Spoken t node

-- a statement that a part makes: it adds no name to what is seen
pub record MadeOne (t : Text) (a : Answer) (looping : Bool) (ns : List Raw) (e e' : Env) (o : Option Stmt) : Type 0 where
  pub made : Stmt
  pub is_made : o ≡ Some made
  pub stmt : IsStmt t a looping e e' made
  pub adds : (sight made).adds ≡ []
  pub covers : (seen : List ℕ) → Covers seen e → Covers seen e'
  pub spoken : Each (Spoken t) ns

-- at most one part speaks
pub none_spoken : (t : Text) (ns : List Raw) → IsTrue (none_of ns) → Each (Spoken t) ns
none_spoken t [] h = tt
none_spoken t (n ∷ ns) h = absurd cc

pub one_spoken : (t : Text) (n : Raw) (ns : List Raw) → IsTrue (none_of ns) → Spoken t n → Each (Spoken t) (n ∷ ns)
one_spoken t n ns h s = (s, none_spoken t ns h)

-- assumed of expressions
abbrev pub Valued : Text → Type 0
Valued t = (node : Raw) → Shaped t node → IsTrue (is_expr (rule_in node)) → Gives (λ e f. Fine t e f × Spoken t node) (value (judged t node))

abbrev pub GivenUsed : Type 0
GivenUsed = (flags : List Bool) (count : ℕ) (to : Ty) (f : Found) → IsUsed flags count f → IsUsed flags count (given to f)

-- a type stays as it is
pub answer_extends : (t : Text) (a : Answer) (e e' : Env) → Extends e e' → AnswerFine t e a → AnswerFine t e' a
answer_extends t a e e' s h so at = by (answer_ty a) (h (point so.cx e) (at_before t so e e' s at))
  where
    by : (o : Option Ty) → IsTrue (allows (λ ty. known_ok (point so.cx e) (known.Value ty)) o) → IsTrue (allows (λ ty. known_ok so (known.Value ty)) o)
    by None k = refl
    by (Some ty) k = (sound_behind t so e e' s at (record { known = known.Value ty; made = None }) (record { known = k; made = tt })).known

pub answer_behind : (t : Text) (a : Answer) (e e' : Env) → Stays e e' → AnswerFine t e a → AnswerFine t e' a
answer_behind t a e e' s = answer_extends t a e e' (stays_extends e e' s)

module _ (t : Text) (valued : Valued t) where
  module _ (p : Ty → Bool) (node : Raw) (h : Shaped t node) (x : IsTrue (is_expr (rule_in node))) where
    picked : (span : Span) → Gives (MadeValue t node p) (and_then (value (judged t node)) (λ v. give v.made (fault_unless (may_be p v.known) span)))
    picked span = gives_then (λ e f. Fine t e f × Spoken t node) (MadeValue t node p) (value (judged t node)) (λ v. give v.made (fault_unless (may_be p v.known) span))
        (λ v e k. k) (valued node h x)
        (λ f e g k c. given_self e _ g (
        let v = has_value t e p f k.0 (kept span (may_be p f.known) c.faultless) in
        record { made = v.made; is_made = v.is_made; ty = v.ty; passes = v.passes; value = v.value; spoken = k.1 }))

  pub tested_fine : (span : Span) (node : Raw) → Shaped t node → IsTrue (is_expr (rule_in node)) → Gives (MadeValue t node is_plain) (tested t span node)
  unfolding tested
  tested_fine span node h x = picked is_plain node h x span

  pub evaluated_fine : (node : Raw) → Shaped t node → IsTrue (is_expr (rule_in node)) → Gives (MadeValue t node (λ ty. true)) (evaluated t node)
  unfolding evaluated
  evaluated_fine node h x = picked (λ ty. true) node h x (span_in t node)

  module _ (a : Answer) (looping : Bool) where
    -- forms that have at most a value
    eval_form : (e e' : Env) (ty : Ty) (x : Expr) → Stays e e' → IsValue t e' ty x → IsForm t a looping e e' (StmtKind-F.Eval x)
    eval_form e e' ty x s v = record {
      typed = v.typed;
      leaves = λ cx i ret h. refl;
      sees = λ seen c. v.seen seen (covers_stays seen e e' s c);
      ids = fresh_none e.loops e'.loops;
      declares = fresh_none (length e.locals) (length e'.locals);
      used = v.used;
    }

    empty_form : (e : Env) → IsForm t a looping e e StmtKind-F.Empty
    empty_form e = record {
      typed = λ cx i. refl;
      leaves = λ cx i ret h. refl;
      sees = λ seen c. refl;
      ids = fresh_none e.loops e.loops;
      declares = fresh_none (length e.locals) (length e.locals);
      used = λ flags m. refl;
    }

    one_of : (ns : List Raw) (e : Env) (span : Span) (k : Form) → (sight (stmt span (roll-StmtKind k))).adds ≡ [] → Each (Spoken t) ns → IsForm t a looping e e k → MadeOne t a looping ns e e (Some (stmt span (roll-StmtKind k)))
    one_of ns e span k adds s f = record { made = stmt span (roll-StmtKind k); is_made = refl; stmt = stmt_by t a looping e e span k f; adds = adds; covers = λ seen c. c; spoken = s }

    pub eval_fine : (span : Span) (es : List Raw) → Each (Shaped t) es → IsTrue (one_at_most is_expr es) → Makes (MadeOne t a looping es) (eval_by t span es)
    unfolding eval_by eval_made roll-StmtKind denote.Hole.Carrier.roll
    eval_fine span [] h o e r c = made_self e _ r (one_of [] e span StmtKind-F.Empty (adds_by span StmtKind-F.Empty) tt (empty_form e))
    eval_fine span (x ∷ es) h o e r c =
        let g = evaluated_fine x h.0 (and_left _ _ o) e r.good (clean_mapped (eval_made span) (evaluated t x) e c) in
        let e' = (evaluated t x e).env in
        let v = g.holds in
        made_of e e' _ r (record {
          good = g.good;
          stays = g.stays;
          holds = record {
            made = stmt span (Eval v.made);
            is_made = ap (eval_made span) v.is_made;
            stmt = stmt_by t a looping e e' span (StmtKind-F.Eval v.made) (eval_form e e' v.ty v.made g.stays v.value);
            adds = adds_by span (StmtKind-F.Eval v.made);
            covers = λ seen k. covers_stays seen e e' g.stays k;
            spoken = one_spoken t x es (and_right (is_expr (rule_in x)) _ o) v.spoken;
          };
        })

    jump_form : (e : Env) → IsTrue looping → IsForm t a looping e e StmtKind-F.Break
    jump_form e h = record {
      typed = λ cx i. refl;
      leaves = λ cx i ret k. h;
      sees = λ seen c. refl;
      ids = fresh_none e.loops e.loops;
      declares = fresh_none (length e.locals) (length e.locals);
      used = λ flags m. refl;
    }

    next_form : (e : Env) → IsTrue looping → IsForm t a looping e e StmtKind-F.Continue
    next_form e h = record {
      typed = λ cx i. refl;
      leaves = λ cx i ret k. h;
      sees = λ seen c. refl;
      ids = fresh_none e.loops e.loops;
      declares = fresh_none (length e.locals) (length e.locals);
      used = λ flags m. refl;
    }

    pub break_fine : (span : Span) → Makes (MadeOne t a looping []) (leaving span Break looping)
    unfolding roll-StmtKind denote.Hole.Carrier.roll
    break_fine span e r c = made_self e _ r (one_of [] e span StmtKind-F.Break (adds_by span StmtKind-F.Break) tt (jump_form e (kept span looping c.faultless)))

    pub continue_fine : (span : Span) → Makes (MadeOne t a looping []) (leaving span Continue looping)
    unfolding roll-StmtKind denote.Hole.Carrier.roll
    continue_fine span e r c = made_self e _ r (one_of [] e span StmtKind-F.Continue (adds_by span StmtKind-F.Continue) tt (next_form e (kept span looping c.faultless)))

    -- `return;`
    absent_is : (b : Answer) → IsTrue (may_be_absent b) → (ret : Ty) → answer_ty b ≡ Some ret → IsTrue (is_void ret)
    absent_is (answer.Function o) h ret k = subst (λ o. IsTrue (allows is_void o)) k h
    absent_is (answer.Future o) h ret k = absurd cc

    absent_form : (e : Env) → IsTrue (may_be_absent a) → IsForm t a looping e e (StmtKind-F.Return None)
    absent_form e h = record {
      typed = λ cx i. refl;
      leaves = λ cx i ret k. absent_is a h ret k;
      sees = λ seen c. refl;
      ids = fresh_none e.loops e.loops;
      declares = fresh_none (length e.locals) (length e.locals);
      used = λ flags m. refl;
    }

    module _ (given_used : GivenUsed) where
      suited_fine : (o : Option Ty) (e : Env) (f : Found) → ((so : Point) → At t so e → IsTrue (allows (λ ty. known_ok so (known.Value ty)) o)) → Fine t e f → Fine t e (suited o f)
      unfolding suited
      suited_fine None e f h k = k
      suited_fine (Some to) e f h k = record {
        whole = given_whole to f k.whole;
        sound = λ so p. given_sound so to f (h so p) (k.sound so p);
        seen = λ seen c. given_seen seen to f (k.seen seen c);
        used = λ flags m. given_used flags (length e.locals) to f (k.used flags m);
      }

      -- what a type asks of a value
      abbrev answers : Option Ty → Ty → Bool
      answers None ty = is_plain ty
      answers (Some ret) ty = not (is_void ret) && fits ret ty

      may_answer : (o : Option Ty) (f : Found) → IsTrue (may_be_given o f.known) → IsTrue (may_be (answers o) f.known)
      unfolding may_be
      may_answer None f h = h
      may_answer (Some ret) f h = by f.known h
        where
          by : (k : Known) → IsTrue (not (is_void ret) && may_be (fits ret) k) → IsTrue (may_be (answers (Some ret)) k)
          by (known.Unknown place) m = refl
          by (known.Value ty) m = m
          by (known.Place ty within) m = and_right (not (is_void ret)) _ m

      return_form : (e e' : Env) (ty : Ty) (x : Expr) → Stays e e' → IsValue t e' ty x → IsTrue (answers (answer_ty a) ty) → IsForm t a looping e e' (StmtKind-F.Return (Some x))
      return_form e e' ty x s v h = record {
        typed = v.typed;
        leaves = λ cx i ret k. subst (λ u. IsTrue (fits ret u)) (sym (v.own cx i)) (and_right (not (is_void ret)) _ (subst (λ o. IsTrue (answers o ty)) k h));
        sees = λ seen c. v.seen seen (covers_stays seen e e' s c);
        ids = fresh_none e.loops e'.loops;
        declares = fresh_none (length e.locals) (length e'.locals);
        used = v.used;
      }

      pub return_fine : (span : Span) (es : List Raw) → Each (Shaped t) es → IsTrue (one_at_most is_expr es) → MakesFor t a (MadeOne t a looping es) (return_by t span a es)
      unfolding return_by roll-StmtKind denote.Hole.Carrier.roll
      return_fine span [] h o e r w c = made_self e _ r (one_of [] e span (StmtKind-F.Return None) (adds_by span (StmtKind-F.Return None)) tt (absent_form e (kept span (may_be_absent a) c.faultless)))
      return_fine span (x ∷ es) h o e r w c =
          let k : Found → Judge (Option Stmt) = λ v. give (return_part span a v) (return_faults span a v) in
          let j = value (judged t x) in
          let g = valued x h.0 (and_left _ _ o) e r.good (clean_first j k e c (λ v f i. i)) in
          let e' = (j e).env in
          let f = (j e).part in
          let d = clean_second j k e c in
          let fine = suited_fine (answer_ty a) e' f (answer_behind t a e e' g.stays w) g.holds.0 in
          let v = has_value t e' (answers (answer_ty a)) (returned_value a f) fine (may_answer (answer_ty a) (returned_value a f) (kept span (may_be_given (answer_ty a) (returned_value a f).known) d.faultless)) in
          made_of e e' _ r (record {
            good = g.good;
            stays = g.stays;
            holds = record {
              made = stmt span (Return (Some v.made));
              is_made = ap (option_map (λ e. stmt span (Return (Some e)))) v.is_made;
              stmt = stmt_by t a looping e e' span (StmtKind-F.Return (Some v.made)) (return_form e e' v.ty v.made g.stays v.value v.passes);
              adds = adds_by span (StmtKind-F.Return (Some v.made));
              covers = λ seen k. covers_stays seen e e' g.stays k;
              spoken = one_spoken t x es (and_right (is_expr (rule_in x)) _ o) g.holds.1;
            };
          })
