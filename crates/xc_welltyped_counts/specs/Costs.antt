-- How much parts of a text declare.
use Rattle.std.specs.Prelude.{◌≡◌, ℕ, ◌+◌, ◌≤◌, Bool, List, length, Option, Some}
use Rattle.xc_lex.specs.declared.token.Token.{Token}
use Rattle.xc_tree.specs.declared.ty.Ty.{Ty}
use Rattle.xc_tree.specs.declared.tree.Func.{Func}
use Rattle.xc_type_scopes.specs.declared.env.Env.{Env}
use Rattle.xc_type_scopes.specs.Judge.{Judge}
use Rattle.xc_type_expressions.specs.Roles.{Role}
use Rattle.xc_type_initialiser_objects.specs.declared.target.Target.{Target}
use Rattle.xc_type_initialisers.specs.Initialisers.{Initialiser}
use Rattle.xc_type_statement_parts.specs.declared.answer.Answer.{Answer}
use Rattle.xc_type_statements.specs.Stated.{Part}
use Rattle.xc_type_unit.specs.declared.scope.FileScope.{FileScope}
use Rattle.xc_type_unit.specs.Items.{Item}
use Rattle.xc_welltyped_claims.specs.Lists.{Each}
use Rattle.xc_welltyped_counts.specs.Sizes.{size}

-- the structs so far, and the objects of the function at work
abbrev pub held : Env → ℕ
held e = length e.structs.members + length e.locals

-- at most so many more stand behind the part
abbrev pub Costs : {A : Type 0} → ℕ → Judge A → Type 0
Costs n j = (e : Env) → held (j e).env ≤ held e + n

-- each role of a node; what a declarator declares itself comes behind it
pub record RoleCosts (n : ℕ) (r : Role) : Type 0 where
  pub found : Costs n r.found
  pub specified : (outermost : Bool) → Costs n (r.specified outermost)
  pub struct : Costs n r.struct
  pub member : Costs n r.member
  pub declared : (base : Option Ty) (e : Env) → held (r.declared base e).env + 1 ≤ held e + n

abbrev pub InitialiserCosts : ℕ → Initialiser → Type 0
InitialiserCosts n i = (outermost : Bool) (to : Target) → Costs n (i.given outermost to)

pub record PartCosts (ts : List Token) (p : Part) : Type 0 where
  pub stated : (a : Answer) (looping : Bool) → Costs (size ts p.node) (p.stated a looping)
  pub body : (a : Answer) (looping : Bool) → Costs (size ts p.node) (p.body a looping)

-- items ------------------------------------------------------------------------

-- so many functions at most, none of which has more locals than that
abbrev pub AreFuncs : ℕ → ℕ → List Func → Type 0
AreFuncs n most fs = (length fs ≤ n) × Each (λ f. length f.locals ≤ most) fs

-- so much is declared at file scope
pub record Holds (n most : ℕ) (s : FileScope) : Type 0 where
  pub held : held s.env ≤ n
  pub funcs : (fs : List Func) → s.funcs ≡ Some fs → AreFuncs n most fs

-- at most so much more behind the item
abbrev pub ItemCosts : ℕ → Item → Type 0
ItemCosts n i = (from to most : ℕ) (s : FileScope) → from + n ≤ to → to ≤ most → Holds from most s → Holds to most (i s).scope
