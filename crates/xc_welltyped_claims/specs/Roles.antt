-- What is claimed of each role of a node.
use Rattle.std.specs.Prelude.{◌≡◌, Bool, true, ◌||◌, is_some, IsTrue, [], Option, Some}
use Rattle.xc_tree.specs.declared.ty.Ty.{Ty}
use Rattle.xc_tree.specs.Types.{is_void}
use Rattle.xc_raw.specs.declared.tree.Raw.{Raw}
use Rattle.xc_type_scopes.specs.declared.env.Env.{Env}
use Rattle.xc_type_expressions.specs.declared.text.Text.{Text}
use Rattle.xc_type_expressions.specs.declared.types.Declared.{Declared}
use Rattle.xc_type_expressions.specs.Roles.{Role}
use Rattle.xc_welltyped_claims.specs.Types.{will_be_object, may_be_pointed_to}
use Rattle.xc_welltyped_claims.specs.Table.{has_members}
use Rattle.xc_welltyped_claims.specs.Things.{IsTag}
use Rattle.xc_welltyped_claims.specs.Env.{Good}
use Rattle.xc_welltyped_claims.specs.Judges.{Clean, Passing, Given, Gives}
use Rattle.xc_welltyped_claims.specs.Found.{Fine}
use Rattle.xc_welltyped_claims.specs.Shaped.{rule_in, is_expr, is_specs, is_struct, is_member, is_declr, Spoken}

-- specifiers and declarators -------------------------------------------------------

-- the type that specifiers give is `void`, or a pointer may lead to it
pub record IsBase (e : Env) (base : Option Ty) : Type 0 where
  pub ty : Ty
  pub known : base ≡ Some ty
  pub fits : IsTrue (is_void ty || may_be_pointed_to e.structs.sizes ty)

-- a declarator has a name, and a type that an object may have once all structs are complete
pub record IsDeclared (e : Env) (d : Declared) : Type 0 where
  pub ty : Ty
  pub known : d.ty ≡ Some ty
  pub object : IsTrue (will_be_object e.structs.sizes ty)
  pub named : IsTrue (is_some d.name)

-- constants --------------------------------------------------------------------------

-- an expression without a fault that breaks no rule of constants is one; where it is evaluated it has a value
pub record IsConstant (r : Role) (asked : Bool) : Type 0 where
  pub pure : IsTrue r.constant.part.pure
  pub typed : IsTrue (is_some r.constant.part.unsigned)
  pub value : asked ≡ true → IsTrue (is_some r.constant.part.value)

-- roles --------------------------------------------------------------------------------

pub record RoleFine (t : Text) (node : Raw) (r : Role) : Type 0 where
  pub found : IsTrue (is_expr (rule_in node)) → Gives (λ e f. Fine t e f × Spoken t node) r.found
  pub constant : IsTrue (is_expr (rule_in node)) → (e : Env) → Good e → Clean r.found e → (asked : Bool) → r.constant.faults asked ≡ [] → IsConstant r asked
  pub specified : IsTrue (is_specs (rule_in node)) → (outermost : Bool) → Gives (λ e ty. IsBase e ty × Spoken t node) (r.specified outermost)
  pub struct : IsTrue (is_struct (rule_in node)) → (e : Env) → Good e → Clean r.struct e → IsTrue (r.struct e).part.fits →
      Given e (r.struct e).env (IsTag (r.struct e).env.structs.sizes (r.struct e).part.number × Spoken t node)
  pub member : IsTrue (is_member (rule_in node)) → Gives (λ e x. IsTrue (has_members e.layout.members) × Spoken t node) r.member
  pub declared : IsTrue (is_declr (rule_in node)) → (base : Option Ty) (e : Env) → Good e → IsBase e base → Clean (r.declared base) e →
      Given e (r.declared base e).env (IsDeclared (r.declared base e).env (r.declared base e).part × Spoken t node)

-- counts -------------------------------------------------------------------------------

-- no role takes back a count that was passed
pub record RolePassing (r : Role) : Type 0 where
  pub found : Passing r.found
  pub specified : (outermost : Bool) → Passing (r.specified outermost)
  pub struct : Passing r.struct
  pub member : Passing r.member
  pub declared : (base : Option Ty) → Passing (r.declared base)
