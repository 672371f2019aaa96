-- What stands at file scope where nothing has a fault, and the typed tree that it makes.
use Rattle.std.specs.Prelude.{◌≡◌, ℕ, ◌+◌, ◌^◌, ◌<◌, ◌≤◌, min, is_some, IsTrue, List, [], length, sum_by, Option, Some, None, slice_get}
use Rattle.xc_tree.specs.declared.ty.Ty.{Ty, Int}
use Rattle.xc_tree.specs.declared.tree.Func.{Func}
use Rattle.xc_tree.specs.declared.tree.Object.{Object}
use Rattle.xc_tree.specs.Typed.{Context}
use Rattle.xc_tree.specs.Valid.{func_ok, global_ok, all_ids, tree_ok}
use Rattle.xc_raw.specs.declared.tree.Raw.{Raw}
use Rattle.xc_type_rule.specs.declared.found.Thing.{Thing}
use Rattle.xc_type_rule.specs.declared.found.Thing.TheVariants as thing
use Rattle.xc_type_rule.specs.Cells.{cells}
use Rattle.xc_type_names.specs.Scoped.{found_in}
use Rattle.xc_welltyped_rules.specs.Callees.{IsFunc}
use Rattle.xc_type_scopes.specs.declared.env.Env.{Env}
use Rattle.xc_type_expressions.specs.declared.text.Text.{Text}
use Rattle.xc_type_unit.specs.declared.scope.FileScope.{FileScope}
use Rattle.xc_type_unit.specs.Items.{Item}
use Rattle.xc_type_unit.specs.Functions.{Bodies, main_of}
use Rattle.xc_welltyped_claims.specs.Lists.{Each, Fresh}
use Rattle.xc_welltyped_claims.specs.Types.{is_object_by}
use Rattle.xc_welltyped_claims.specs.Table.{struct_tys}
use Rattle.xc_welltyped_claims.specs.Env.{AtFile, Extends, Into}
use Rattle.xc_welltyped_claims.specs.Shaped.{Spoken}

-- the globals so far have the object
abbrev pub HasObject : List Object → ℕ → Option Ty → Type 0
HasObject globals n ty = (g : Object) × (slice_get globals n ≡ Some g) × (ty ≡ Some g.ty)

-- the functions so far have the function of this name
pub record IsDefined (file : List (List (ℕ × Thing))) (funcs : List Func) (name n : ℕ) : Type 0 where
  pub params : List (Option Ty)
  pub ret : Option Ty
  pub thing : found_in name file ≡ Some (thing.Func (Some n) params ret)
  pub func : Func
  pub found : slice_get funcs n ≡ Some func
  pub is : IsFunc params ret func

-- a function is well typed in each program that has what stands there
abbrev pub FuncFine : Text → Env → Func → Type 0
FuncFine t e f = (cx : Context) → Into t cx e → length f.locals < 2 ^ 32 → IsTrue (func_ok cx.structs cx.globals cx.funcs cx.formats f)

abbrev pub GlobalFine : Text → Env → Object → Type 0
GlobalFine t e g = (cx : Context) → Into t cx e → IsTrue (global_ok cx.shapes cx.globals g)

-- a function `main` has no parameters and the result `int`
abbrev pub IsMain : Thing → Type 0
IsMain (thing.Func number params ret) = (params ≡ []) × (ret ≡ Some Int)
IsMain _ = Unit {0}

-- no number is that of two names
abbrev pub AreApart : Bodies → Type 0
AreApart b = (x y n : ℕ) → found_in x b ≡ Some n → found_in y b ≡ Some n → x ≡ y

-- `b` has the numbers of the definitions of the text
pub record FileFine (t : Text) (b : Bodies) (s : FileScope) : Type 0 where
  pub stands : AtFile s.env
  pub fits : s.cells ≤ 2 ^ 22
  pub cells : s.cells ≡ min (sum_by (λ g. cells s.env.structs.sizes g.ty) s.globals) (2 ^ 22 + 1)
  pub typed : Each (λ g. IsTrue (is_object_by s.env.structs.sizes g.ty)) s.globals
  pub objects : (name n : ℕ) (ty : Option Ty) → found_in name s.env.file ≡ Some (thing.Global n ty) → HasObject s.globals n ty
  pub numbers : (name : ℕ) (number : Option ℕ) (params : List (Option Ty)) (ret : Option Ty) → found_in name s.env.file ≡ Some (thing.Func number params ret) → number ≡ found_in name b
  pub funcs : List Func
  pub known : s.funcs ≡ Some funcs
  pub many : length funcs ≡ s.defined
  pub defined : (name n : ℕ) → found_in name b ≡ Some n → n < s.defined → IsDefined s.env.file funcs name n
  pub mains : (name : ℕ) (x : Thing) → main_of t ≡ Some name → found_in name s.env.file ≡ Some x → IsMain x
  pub funcs_fine : Each (FuncFine t s.env) funcs
  pub globals_fine : Each (GlobalFine t s.env) s.globals
  pub ids : Fresh 0 s.env.loops (all_ids funcs)

-- an item of a text without faults
pub record CleanItem (i : Item) (s : FileScope) : Type 0 where
  pub faultless : (i s).faults ≡ []
  pub within : (i s).scope.env.over ≡ None

pub record DoneItem (t : Text) (b : Bodies) (node : Raw) (s s' : FileScope) : Type 0 where
  pub fine : FileFine t b s'
  pub extends : Extends s.env s'.env
  pub spoken : Spoken t node

abbrev pub Does : Text → Bodies → Raw → Item → Type 0
Does t b node i = (s : FileScope) → FileFine t b s → CleanItem i s → DoneItem t b node s (i s).scope

-- an item of these parts
abbrev pub DoesParts : Text → Bodies → List Raw → Item → Type 0
DoesParts t b parts i = (s : FileScope) → FileFine t b s → CleanItem i s → FileFine t b (i s).scope × Extends s.env (i s).scope.env × Each (Spoken t) parts

-- the tree --------------------------------------------------------------------------

-- file scope at the end of a text has all that a typed tree has
pub record IsTyped (s : FileScope) (main : Option ℕ) (formats : List (List ℕ)) : Type 0 where
  pub members : Each (λ ms. Each (λ m. IsTrue (is_some m.ty)) ms) s.env.structs.members
  pub funcs : List Func
  pub funcs_are : s.funcs ≡ Some funcs
  pub number : ℕ
  pub main_is : main ≡ Some number
  pub valid : IsTrue (tree_ok (struct_tys s.env.structs.members) s.globals funcs formats s.env.loops number)
