-- What initialisers without faults give an object.
use Rattle.std.specs.Prelude.{◌≡◌, ℕ, ◌+◌, ◌-◌, ◌^◌, ◌<◌, ◌≤◌, Bool, true, ◌&&◌, IsTrue, is_some, List, map, Option, Some}
use Rattle.xc_tree.specs.declared.ty.Ty.{Ty}
use Rattle.xc_tree.specs.declared.expr.Expr.{Expr}
use Rattle.xc_tree.specs.declared.tree.Object.{Object}
use Rattle.xc_tree.specs.Lists.{ascending, passes}
use Rattle.xc_tree.specs.Types.{base, may_hold, cell_of}
use Rattle.xc_tree.specs.Typed.{Context, value_ok}
use Rattle.xc_tree.specs.Statements.{sees}
use Rattle.xc_tree.specs.Valid.{word_ok, cells_from}
use Rattle.xc_raw.specs.declared.tree.Raw.{Raw}
use Rattle.xc_type_rule.specs.Cells.{cells}
use Rattle.xc_type_initialiser_objects.specs.declared.target.Target.{Target}
use Rattle.xc_type_initialiser_objects.specs.declared.inits.Inits.{Inits}
use Rattle.xc_type_initialiser_objects.specs.Words.{word_of}
use Rattle.xc_type_initialiser_objects.specs.Cells.{initialised}
use Rattle.xc_type_scopes.specs.declared.env.Env.{Env}
use Rattle.xc_type_expressions.specs.declared.text.Text.{Text}
use Rattle.xc_type_initialisers.specs.Initialisers.{Initialiser}
use Rattle.xc_type_lowering.specs.Accessed.{only_accessed}
use Rattle.xc_welltyped_claims.specs.Lists.{Each, StaysSet}
use Rattle.xc_welltyped_claims.specs.Types.{is_object_by}
use Rattle.xc_welltyped_claims.specs.Env.{Good, AreComplete, Into, Covers}
use Rattle.xc_welltyped_claims.specs.Judges.{Clean, Passing, Given}
use Rattle.xc_welltyped_claims.specs.Shaped.{rule_in, is_init, Spoken}

-- the cell at an offset may hold what is made there
abbrev pub is_init_ok : Context → Ty → ℕ → ℕ × Expr → Bool
is_init_ok cx ty from i = value_ok cx i.1 && passes (λ c. may_hold c i.1.ty) (cell_of cx.shapes ty (i.0 - from))

-- a word may stand in the cell at an offset
abbrev pub is_word_ok : List Object → Option Ty → ℕ → Bool
is_word_ok globals cell w = passes (λ c. passes (word_ok globals w) (base c)) cell

-- what is made there has a word that may stand there
abbrev pub has_word : Context → Ty → ℕ → ℕ × Expr → Bool
has_word cx ty from i = passes (is_word_ok cx.globals (cell_of cx.shapes ty (i.0 - from))) (word_of i.1)

-- all that is given to an object of this type, or to a part of an object, that begins at an offset
pub record AreInits (t : Text) (e : Env) (ty : Ty) (from : ℕ) (made : List (ℕ × Expr)) : Type 0 where
  pub ascends : IsTrue (ascending (map (λ i. i.0) made))
  pub within : Each (λ i. (from ≤ i.0) × (i.0 < from + cells e.structs.sizes ty)) made
  pub typed : (cx : Context) → Into t cx e → Each (λ i. IsTrue (is_init_ok cx ty from i)) made
  pub seen : (seen : List ℕ) → Covers seen e → Each (λ i. IsTrue (sees seen i.1)) made
  pub used : (flags : List Bool) → StaysSet e.addressed flags → Each (λ i. IsTrue (only_accessed flags i.1)) made

-- at file scope each stands for a word
abbrev pub HaveWords : Text → Env → Ty → ℕ → List (ℕ × Expr) → Bool → Type 0
HaveWords t e ty from made outermost = outermost ≡ true → (cx : Context) → Into t cx e → Each (λ i. IsTrue (has_word cx ty from i)) made

pub record GivesAll (t : Text) (e : Env) (ty : Ty) (from : ℕ) (outermost : Bool) (is : Inits) : Type 0 where
  pub whole : IsTrue is.whole
  pub inits : AreInits t e ty from is.made
  pub worded : outermost ≡ true → Each (λ i. IsTrue (is_some (word_of i.1))) is.made
  pub words : HaveWords t e ty from is.made outermost

-- an initialiser against a type that an object has, where all structs are complete
pub record InitialiserFine (t : Text) (node : Raw) (i : Initialiser) : Type 0 where
  pub given : IsTrue (is_init (rule_in node)) → (outermost : Bool) (to : Target) (ty : Ty) → to.ty ≡ Some ty → (e : Env) → Good e → AreComplete e.structs.sizes →
      IsTrue (is_object_by e.structs.sizes ty) → to.off + cells e.structs.sizes ty ≤ 2 ^ 22 → Clean (i.given outermost to) e →
      Given e (i.given outermost to e).env (GivesAll t (i.given outermost to e).env ty to.off outermost (i.given outermost to e).part × Spoken t node)

-- an initialiser takes back no count that was passed
abbrev pub InitialiserPassing : Initialiser → Type 0
InitialiserPassing i = (outermost : Bool) (to : Target) → Passing (i.given outermost to)

-- objects -----------------------------------------------------------------------

-- what a local of this type begins with
pub record LocalInits (t : Text) (e : Env) (ty : Ty) (o : Option (List (ℕ × Expr))) : Type 0 where
  pub made : List (ℕ × Expr)
  pub known : o ≡ Some made
  pub inits : AreInits t e ty 0 made

-- what a global of this type begins with
pub record GlobalInits (t : Text) (e : Env) (ty : Ty) (o : Option (List (ℕ × ℕ))) : Type 0 where
  pub words : List (ℕ × ℕ)
  pub known : o ≡ Some words
  pub cells : (cx : Context) → Into t cx e → IsTrue (cells_from cx.globals (cell_of cx.shapes ty) 0 (initialised words))
