-- What is declared at a place of a text where nothing before it has a fault: how it stands by itself, how it goes on, and
-- how a program has it.
use Rattle.std.specs.Prelude.{◌≡◌, ℕ, ◌<◌, ◌≤◌, ◌^◌, Bool, true, false, IsTrue, List, [], length, map, take, Some, slice_get}
use Rattle.xc_text_place.specs.declared.Span.{Span}
use Rattle.xc_tree.specs.declared.ty.Ty.{Ty}
use Rattle.xc_tree.specs.declared.tree.Local.{Local}
use Rattle.xc_tree.specs.Lists.{every}
use Rattle.xc_tree.specs.Types.{struct_shapes, is_size}
use Rattle.xc_tree.specs.Typed.{Context}
use Rattle.xc_type_rule.specs.declared.found.Thing.{Thing}
use Rattle.xc_type_names.specs.Scoped.{found_in, left, has_none}
use Rattle.xc_type_scopes.specs.declared.env.Env.{Env}
use Rattle.xc_type_scopes.specs.Env.{has_address}
use Rattle.xc_type_expressions.specs.declared.text.Text.{Text}
use Rattle.xc_welltyped.specs.Sound.{Point}
use Rattle.xc_welltyped_claims.specs.Lists.{Each, StartsWith, StaysSet}
use Rattle.xc_welltyped_claims.specs.Types.{is_object_by}
use Rattle.xc_welltyped_claims.specs.Table.{struct_tys, IsTable, IsLaid, Grows}
use Rattle.xc_welltyped_claims.specs.Things.{InScopes, FileThing, OwnThing, IsTag, SeenThing, HasThing}

-- by itself -------------------------------------------------------------------

-- what a local demands is marked
pub record AreMarked (locals : List (Span × Ty)) (addressed : List Bool) : Type 0 where
  pub many : length addressed ≡ length locals
  pub marked : (n : ℕ) (l : Span × Ty) → slice_get locals n ≡ Some l → has_address l.1 ≡ true → slice_get addressed n ≡ Some true

-- all that stands there has no fault; structs may be open
pub record Good (e : Env) : Type 0 where
  pub table : IsTable e.structs
  pub layout : IsLaid e.structs e.layout
  pub file : InScopes (FileThing e.structs.sizes) e.file
  pub own : InScopes (OwnThing e.locals) e.own
  pub file_tags : InScopes (IsTag e.structs.sizes) e.file_tags
  pub own_tags : InScopes (IsTag e.structs.sizes) e.own_tags
  pub locals : Each (λ l. IsTrue (is_object_by e.structs.sizes l.1)) e.locals
  pub marks : AreMarked e.locals e.addressed

-- all structs are complete, as they are outside the braces of structs
abbrev pub AreComplete : List ℕ → Type 0
AreComplete sizes = IsTrue (every (map is_size sizes))

-- where statements stand
pub record Ready (e : Env) : Type 0 where
  pub good : Good e
  pub complete : AreComplete e.structs.sizes
  pub within : has_none e.own ≡ false

-- outside functions
pub record AtFile (e : Env) : Type 0 where
  pub good : Good e
  pub complete : AreComplete e.structs.sizes
  pub one : length e.file ≡ 1
  pub own : e.own ≡ []
  pub own_tags : e.own_tags ≡ []
  pub locals : e.locals ≡ []
  pub addressed : e.addressed ≡ []

-- going on ----------------------------------------------------------------------

-- behind expressions, specifiers, structs and declarators
pub record Stays (e e' : Env) : Type 0 where
  pub file : e'.file ≡ e.file
  pub own : e'.own ≡ e.own
  pub own_tags : length e'.own_tags ≡ length e.own_tags
  pub structs : Grows e.structs e'.structs
  pub layout : StartsWith e.layout.members e'.layout.members
  pub locals : e'.locals ≡ e.locals
  pub addressed : StaysSet e.addressed e'.addressed
  pub loops : e'.loops ≡ e.loops

-- behind statements and items: what was named at file scope still is, and of the scopes of the function only the innermost
-- one has more names
pub record Extends (e e' : Env) : Type 0 where
  pub file : (name : ℕ) (x : Thing) → found_in name e.file ≡ Some x → found_in name e'.file ≡ Some x
  pub own : left e'.own ≡ left e.own
  pub scopes : length e'.own ≡ length e.own
  pub own_tags : length e'.own_tags ≡ length e.own_tags
  pub structs : Grows e.structs e'.structs
  pub locals : StartsWith e.locals e'.locals
  pub addressed : StaysSet e.addressed e'.addressed
  pub loops : e.loops ≤ e'.loops

-- in a program ------------------------------------------------------------------

-- an object of a function, before lowering
abbrev pub object_of : Span × Ty → Local
object_of l = record { name = l.0; ty = l.1; addressed = true }

-- the program has all that stands there; all locals of the function at work count as objects
pub record Into (t : Text) (cx : Context) (e : Env) : Type 0 where
  pub shapes : cx.shapes ≡ struct_shapes cx.structs
  pub structs : StartsWith (struct_tys e.structs.members) cx.structs
  pub complete : AreComplete e.structs.sizes
  pub things : (name : ℕ) (x : Thing) → found_in name e.file ≡ Some x → HasThing cx x
  pub locals : StartsWith (map object_of e.locals) cx.locals
  pub formats : cx.formats ≡ t.texts.now.formats
  pub few : length cx.globals < 2 ^ 32

-- the point of the program
pub record At (t : Text) (so : Point) (e : Env) : Type 0 where
  pub into : Into t so.cx e
  pub shapes : so.shapes ≡ take (length e.structs.sizes) so.cx.shapes

-- the locals in scope are seen
abbrev pub Covers : List ℕ → Env → Type 0
Covers seen e = InScopes (SeenThing seen) e.own
