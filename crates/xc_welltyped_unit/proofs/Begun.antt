-- The first cells of an object at file scope.
use Rattle.std.proofs.Common.{List, [], ◌∷◌, true, sym, subst}
use Rattle.std.specs.Prelude.{IsTrue}
use Rattle.xc_tree.specs.declared.ty.Ty.{Ty}
use Rattle.xc_tree.specs.Types.{cell_of}
use Rattle.xc_tree.specs.Typed.{Context}
use Rattle.xc_tree.specs.Valid.{cells_from}
use Rattle.xc_tree.proofs.Lists.{and_left, and_right}
use Rattle.xc_raw.specs.declared.tree.Raw.{Raw}
use Rattle.xc_type_initialiser_objects.specs.Cells.{Cell}
use Rattle.xc_type_scopes.specs.declared.env.Env.{Env}
use Rattle.xc_type_expressions.specs.declared.text.Text.{Text}
use Rattle.xc_type_unit.specs.Globals as globals
use Rattle.xc_welltyped_claims.specs.Lists.{Each}
use Rattle.xc_welltyped_claims.specs.Types.{is_object_by}
use Rattle.xc_welltyped_claims.specs.Env.{Good, AreComplete, Into}
use Rattle.xc_welltyped_claims.specs.Judges.{Clean, Given}
use Rattle.xc_welltyped_claims.specs.Shaped.{rule_in, is_init, one_at_most, Shaped, Spoken, IsLexed}
use Rattle.xc_welltyped_claims.proofs.Judges.{given_self}
use Rattle.xc_welltyped_statements.proofs.Simple.{one_spoken}
use Rattle.xc_welltyped_statements.proofs.Starts.{started_fine}
use Rattle.xc_welltyped_statements.proofs.Inits.{global_inits_fine}

-- they are cells of an object of this type
abbrev pub AreCells : Text → Env → Ty → List Cell → Type 0
AreCells t e ty cs = (cx : Context) → Into t cx e → IsTrue (cells_from cx.globals (cell_of cx.shapes ty) 0 cs)

module _ (t : Text) (lexed : IsLexed t) where
  pub begun_fine : (is : List Raw) → Each (Shaped t) is → IsTrue (one_at_most is_init is) → (ty : Ty) (e : Env) → Good e → AreComplete e.structs.sizes → IsTrue (is_object_by e.structs.sizes ty) →
      Clean (globals.begun t true ty is) e → Given e (globals.begun t true ty is e).env (AreCells t (globals.begun t true ty is e).env ty (globals.begun t true ty is e).part × Each (Spoken t) is)
  unfolding globals.begun
  begun_fine [] h x ty e g c w = λ cl. given_self e _ g (started_fine t e g ty w, tt)
  begun_fine (i ∷ is) h x ty e g c w = λ cl.
      let m = global_inits_fine t lexed i h.0 (and_left (is_init (rule_in i)) _ x) ty e g c w (record { faultless = cl.faultless; within = cl.within }) in
      let told = m.holds.0 in
      record {
        good = m.good;
        stays = m.stays;
        holds = (
          (λ cx j. subst (λ o. IsTrue (cells_from cx.globals (cell_of cx.shapes ty) 0 (globals.filled o))) (sym told.known) (told.cells cx j)),
          one_spoken t i is (and_right (is_init (rule_in i)) _ x) m.holds.1,
        );
      }
