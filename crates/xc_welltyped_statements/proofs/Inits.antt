-- What initialisers without faults give objects.
use Rattle.std.specs.Prelude.{IsTrue, Some}
use Rattle.xc_tree.specs.declared.ty.Ty.{Ty}
use Rattle.xc_raw.specs.declared.tree.Raw.{Raw}
use Rattle.xc_type_scopes.specs.declared.env.Env.{Env}
use Rattle.xc_type_expressions.specs.declared.text.Text.{Text}
use Rattle.xc_type_expressions.specs.Judged.{judged}
use Rattle.xc_type_initialisers.specs.Initialisers.{initialiser, global_inits}
use Rattle.xc_welltyped_locals.proofs.UsedValues.{given_used}
use Rattle.xc_welltyped_claims.specs.Types.{is_object_by}
use Rattle.xc_welltyped_claims.specs.Env.{Good, AreComplete}
use Rattle.xc_welltyped_claims.specs.Judges.{Clean, Given}
use Rattle.xc_welltyped_claims.specs.Shaped.{rule_in, is_init, Shaped, IsLexed, Spoken}
use Rattle.xc_welltyped_structs.proofs.Promises.{promise_kept}
use Rattle.xc_welltyped_structs.proofs.Programs.{object_told, cells_told}
use Rattle.xc_welltyped_expressions.proofs.Parts.{value_fine}
use Rattle.xc_welltyped_expressions.proofs.Roles.{role_fine}
use Rattle.xc_welltyped_statements.specs.Inits.{InitialiserFine, GlobalInits}
use Rattle.xc_welltyped_statements.proofs.Simple.{Valued}
use Rattle.xc_welltyped_statements.proofs.Declarations.{LocalInitsFine}
use Rattle.xc_welltyped_statements.proofs.Levels.{structs_told}
use Rattle.xc_welltyped_statements.proofs.Lasting.{lasting_fine}
use Rattle.xc_welltyped_statements.proofs.Initialisers as nodes
use Rattle.xc_welltyped_statements.proofs.Globals as globals

-- the value of an expression
pub valued : (t : Text) → IsLexed t → Valued t
valued t lexed node h x = value_fine t node (judged t node) ((role_fine t lexed node h).found x)

pub initialiser_fine : (t : Text) → IsLexed t → (node : Raw) → Shaped t node → InitialiserFine t node (initialiser t node)
initialiser_fine t lexed = nodes.initialiser_fine t lexed (valued t lexed) (object_told t) (cells_told t) (structs_told t) promise_kept given_used (lasting_fine t (role_fine t lexed))

-- what a local begins with
pub local_inits_fine : (t : Text) → IsLexed t → LocalInitsFine t
local_inits_fine t lexed = nodes.local_inits_fine t lexed (valued t lexed) (object_told t) (cells_told t) (structs_told t) promise_kept given_used (lasting_fine t (role_fine t lexed))

-- what an object at file scope begins with
pub global_inits_fine : (t : Text) → IsLexed t → (node : Raw) → Shaped t node → IsTrue (is_init (rule_in node)) → (ty : Ty) (e : Env) → Good e → AreComplete e.structs.sizes →
    IsTrue (is_object_by e.structs.sizes ty) → Clean (global_inits t node (Some ty)) e →
    Given e (global_inits t node (Some ty) e).env (GlobalInits t (global_inits t node (Some ty) e).env ty (global_inits t node (Some ty) e).part × Spoken t node)
global_inits_fine t lexed = globals.global_inits_fine t lexed (role_fine t lexed) (valued t lexed) (object_told t) (cells_told t) (structs_told t) promise_kept given_used
