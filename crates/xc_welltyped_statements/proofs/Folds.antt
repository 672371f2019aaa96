-- A statement, by its form.
use Rattle.std.proofs.Common.{◌≡◌, ℕ, List, [], Bool, true, refl, sym, ap, ◌∙◌, subst}
use Rattle.std.specs.Prelude.{IsTrue, not, length, Some}
use Rattle.xc_text_place.specs.declared.Span.{Span}
use Rattle.xc_tree.specs.declared.ty.Ty.{Ty}
use Rattle.xc_tree.specs.declared.stmt.Stmt.{Stmt}
use Rattle.xc_tree.specs.declared.stmt.StmtKind.{StmtKind, roll-StmtKind, out-StmtKind}
use Rattle.xc_tree.specs.declared.stmt.Item.{Item}
use Rattle.xc_tree.specs.declared.stmt.Item.TheOpen.{StmtKind-F, Item-F}
use Rattle.xc_tree.specs.declared.stmt.Item.TheFolds.{fold-Stmt, fold-StmtKind, fold-Item, map-StmtKind, fold_out-Stmt, fold_out-StmtKind, fold-roll-StmtKind}
use Rattle.xc_tree.specs.Walk.{of_item, ids_step, declared_step}
use Rattle.xc_tree.specs.Typed.{Context}
use Rattle.xc_tree.specs.Statements.{Inside, Leaving, leaves_nothing, leave_step, leaving, leaves_ok, part_ok, Sight, sees_nothing, sight_step, sight, Labelled, label_step, stmt_step}
use Rattle.xc_tree.proofs.Lists.{and_both}
use Rattle.xc_type_scopes.specs.declared.env.Env.{Env}
use Rattle.xc_type_expressions.specs.declared.text.Text.{Text}
use Rattle.xc_type_statement_parts.specs.declared.answer.Answer.{Answer}
use Rattle.xc_type_statement_parts.specs.Answers.{answer_ty}
use Rattle.xc_type_statement_parts.specs.Making.{stmt}
use Rattle.xc_type_lowering.specs.Accessed.{accessed_step}
use Rattle.xc_welltyped_claims.specs.Lists.{StaysSet, Fresh}
use Rattle.xc_welltyped_claims.specs.Env.{Into, Covers}
use Rattle.xc_welltyped_statements.specs.Stmts.{inside, IsStmt}

abbrev pub Form : Type 0
Form = StmtKind-F Item StmtKind Stmt

module _ (I A : Type 0) (item : Item-F I A A → I) (rule : StmtKind-F I A A → A) where
  -- what is told of the parts of a form
  abbrev pub told : Form → StmtKind-F I A A
  told k = map-StmtKind Item StmtKind Stmt I A A (fold-Item I A A item rule (λ s. s.kind)) (fold-StmtKind I A A item rule (λ s. s.kind)) (fold-Stmt I A A item rule (λ s. s.kind)) k

  pub told_is : (span : Span) (k : Form) → fold-Stmt I A A item rule (λ s. s.kind) (stmt span (roll-StmtKind k)) ≡ rule (told k)
  told_is span k = fold_out-Stmt I A A item rule (λ s. s.kind) (stmt span (roll-StmtKind k)) ∙ fold-roll-StmtKind I A A item rule (λ s. s.kind) k

  told_out : (s : Stmt) → fold-Stmt I A A item rule (λ s. s.kind) s ≡ rule (told (out-StmtKind s.kind))
  told_out s = fold_out-Stmt I A A item rule (λ s. s.kind) s ∙ fold_out-StmtKind I A A item rule (λ s. s.kind) s.kind

-- what is told of the types of parts, of what they leave, see, repeat and declare, and of how places stand in them
abbrev pub typed_parts : Context → Form → StmtKind-F Labelled Bool Bool
typed_parts cx = told Labelled Bool label_step (stmt_step cx)

abbrev pub leaving_parts : Form → StmtKind-F Leaving Leaving Leaving
leaving_parts = told Leaving Leaving (of_item leaves_nothing) leave_step

abbrev pub sight_parts : Form → StmtKind-F Sight Sight Sight
sight_parts = told Sight Sight (of_item sees_nothing) sight_step

abbrev pub id_parts : Form → StmtKind-F (List ℕ) (List ℕ) (List ℕ)
id_parts = told (List ℕ) (List ℕ) (of_item []) ids_step

abbrev pub declared_parts : Form → StmtKind-F (List ℕ) (List ℕ) (List ℕ)
declared_parts = told (List ℕ) (List ℕ) (of_item []) declared_step

abbrev pub accessed_parts : List Bool → Form → StmtKind-F Bool Bool Bool
accessed_parts flags = told Bool Bool (of_item true) (accessed_step flags)

-- what is claimed of a statement, of its form
pub record IsForm (t : Text) (a : Answer) (looping : Bool) (e e' : Env) (k : Form) : Type 0 where
  pub typed : (cx : Context) → Into t cx e' → IsTrue (stmt_step cx (typed_parts cx k))
  pub leaves : (cx : Context) → Into t cx e' → (ret : Ty) → answer_ty a ≡ Some ret → IsTrue ((leave_step (leaving_parts k)).ok (inside ret looping))
  pub sees : (seen : List ℕ) → Covers seen e → IsTrue ((sight_step (sight_parts k)).ok seen)
  pub ids : Fresh e.loops e'.loops (ids_step (id_parts k))
  pub declares : Fresh (length e.locals) (length e'.locals) (declared_step (declared_parts k))
  pub used : (flags : List Bool) → StaysSet e'.addressed flags → IsTrue (accessed_step flags (accessed_parts flags k))

pub leaving_by : (span : Span) (k : Form) → leaving (stmt span (roll-StmtKind k)) ≡ leave_step (leaving_parts k)
leaving_by span k = told_is Leaving Leaving (of_item leaves_nothing) leave_step span k

sight_by : (span : Span) (k : Form) → sight (stmt span (roll-StmtKind k)) ≡ sight_step (sight_parts k)
sight_by span k = told_is Sight Sight (of_item sees_nothing) sight_step span k

pub adds_by : (span : Span) (k : Form) → (sight (stmt span (roll-StmtKind k))).adds ≡ (sight_step (sight_parts k)).adds
adds_by span k = ap (λ (g : Sight). g.adds) (sight_by span k)

pub stmt_by : (t : Text) (a : Answer) (looping : Bool) (e e' : Env) (span : Span) (k : Form) → IsForm t a looping e e' k → IsStmt t a looping e e' (stmt span (roll-StmtKind k))
stmt_by t a looping e e' span k f = record {
  typed = λ cx i. subst IsTrue (sym (told_is Labelled Bool label_step (stmt_step cx) span k)) (f.typed cx i);
  leaves = λ cx i ret h. subst (λ (l : Leaving). IsTrue (l.ok (inside ret looping))) (sym (leaving_by span k)) (f.leaves cx i ret h);
  sees = λ seen c. subst (λ (g : Sight). IsTrue (g.ok seen)) (sym (sight_by span k)) (f.sees seen c);
  ids = subst (λ l. Fresh e.loops e'.loops l) (sym (told_is (List ℕ) (List ℕ) (of_item []) ids_step span k)) f.ids;
  declares = subst (λ l. Fresh (length e.locals) (length e'.locals) l) (sym (told_is (List ℕ) (List ℕ) (of_item []) declared_step span k)) f.declares;
  used = λ flags m. subst IsTrue (sym (told_is Bool Bool (of_item true) (accessed_step flags) span k)) (f.used flags m);
}

-- what adds no name is no declaration
form_stands : (k : Form) → (sight_step (sight_parts k)).adds ≡ [] → IsTrue (not (leave_step (leaving_parts k)).declares)
form_stands (StmtKind-F.Declare x init) h = absurd cc
form_stands k h = refl

stands : (s : Stmt) → (sight s).adds ≡ [] → IsTrue (not (leaving s).declares)
stands s h =
    let k = out-StmtKind s.kind in
    subst (λ (l : Leaving). IsTrue (not l.declares)) (sym (told_out Leaving Leaving (of_item leaves_nothing) leave_step s))
    (form_stands k (sym (ap (λ (g : Sight). g.adds) (told_out Sight Sight (of_item sees_nothing) sight_step s)) ∙ h))

pub part_leaves : (s : Stmt) (w : Inside) → (sight s).adds ≡ [] → IsTrue (leaves_ok s w) → IsTrue (part_ok (leaving s) w)
part_leaves s w h k = and_both (not (leaving s).declares) _ (stands s h) k
