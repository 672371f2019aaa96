-- What an initialiser without faults gives a global object.
use Rattle.std.proofs.Common.{ℕ, List, [], Bool, true}
use Rattle.std.specs.Prelude.{IsTrue, Option, Some}
use Rattle.xc_tree.specs.declared.ty.Ty.{Ty}
use Rattle.xc_raw.specs.declared.tree.Raw.{Raw}
use Rattle.xc_type_rule.specs.declared.found.Found.{Found}
use Rattle.xc_type_rule.specs.Nulls.{given}
use Rattle.xc_type_initialiser_objects.specs.declared.inits.Inits.{Inits}
use Rattle.xc_type_initialiser_objects.specs.Words.{global_words}
use Rattle.xc_type_scopes.specs.declared.env.Env.{Env}
use Rattle.xc_type_scopes.specs.Judge.{Judge, give}
use Rattle.xc_type_expressions.specs.declared.text.Text.{Text}
use Rattle.xc_type_expressions.specs.Roles.{value}
use Rattle.xc_type_expressions.specs.Judged.{judged}
use Rattle.xc_type_initialisers.specs.Initialisers.{whole_object, global_inits}
use Rattle.xc_welltyped_locals.specs.Used.{IsUsed}
use Rattle.xc_welltyped_claims.specs.Types.{is_object_by}
use Rattle.xc_welltyped_claims.specs.Env.{Good, AreComplete}
use Rattle.xc_welltyped_claims.specs.Judges.{Clean, Given, Gives}
use Rattle.xc_welltyped_claims.specs.Found.{Fine}
use Rattle.xc_welltyped_claims.specs.Shaped.{rule_in, is_expr, is_init, Shaped, IsLexed, Spoken}
use Rattle.xc_welltyped_claims.specs.Roles.{RoleFine}
use Rattle.xc_welltyped_claims.proofs.Judges.{passing_give, clean_first}
use Rattle.xc_welltyped_statements.specs.Inits.{GlobalInits}
use Rattle.xc_welltyped_statements.proofs.Sized.{object_stays}
use Rattle.xc_welltyped_statements.proofs.Fitted.{ObjectTold}
use Rattle.xc_welltyped_statements.proofs.Declarations.{PromiseKept}
use Rattle.xc_welltyped_statements.proofs.Parts.{CellsTold, StructsTold}
use Rattle.xc_welltyped_statements.proofs.Initialisers.{whole_fine}
use Rattle.xc_welltyped_statements.proofs.Lasting.{lasting_fine}
use Rattle.xc_welltyped_statements.proofs.Filled.{global_given}

module _ (t : Text) (lexed : IsLexed t) (role_fine : (node : Raw) → Shaped t node → RoleFine t node (judged t node))
    (valued_fine : (node : Raw) → Shaped t node → IsTrue (is_expr (rule_in node)) → Gives (λ e f. Fine t e f × Spoken t node) (value (judged t node)))
    (object_told : ObjectTold t) (cells_told : CellsTold t) (structs_told : StructsTold t) (promise_kept : PromiseKept)
    (given_used : (flags : List Bool) (count : ℕ) (to : Ty) (f : Found) → IsUsed flags count f → IsUsed flags count (given to f)) where
  pub global_inits_fine : (node : Raw) → Shaped t node → IsTrue (is_init (rule_in node)) → (ty : Ty) (e : Env) → Good e → AreComplete e.structs.sizes →
      IsTrue (is_object_by e.structs.sizes ty) → Clean (global_inits t node (Some ty)) e →
      Given e (global_inits t node (Some ty) e).env (GlobalInits t (global_inits t node (Some ty) e).env ty (global_inits t node (Some ty) e).part × Spoken t node)
  unfolding global_inits
  global_inits_fine node shaped h ty e good complete object c =
      let j : Judge Inits = whole_object t node true (Some ty) in
      let f : Inits → Judge (Option (List (ℕ × ℕ))) = λ is. give (global_words is) [] in
      let r = whole_fine t lexed valued_fine object_told cells_told structs_told promise_kept given_used (lasting_fine t role_fine) true node shaped h ty e good complete object
      (clean_first j f e c (λ is. passing_give (global_words is) [])) in
      record {
        good = r.good;
        stays = r.stays;
        holds = (global_given t cells_told (j e).env r.good ty (object_stays e.structs (j e).env.structs r.stays.structs ty object) (j e).part r.holds.0, r.holds.1);
      }
