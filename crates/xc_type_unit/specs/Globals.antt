-- Objects at file scope (C99 6.9.2).
use Rattle.std.specs.Prelude.{ℕ, ◌+◌, ◌^◌, min, nat_le, Bool, true, false, not, ◌&&◌, ⊤, if◌then◌else◌, List, [], ◌∷◌, ◌++◌, length, map, Option, Some, None}
use Rattle.xc_text_place.specs.declared.Span.{Span}
use Rattle.xc_tree.specs.declared.ty.Ty.{Ty}
use Rattle.xc_tree.specs.declared.tree.Object.{Object}
use Rattle.xc_raw.specs.declared.tree.Raw.{Raw, out-Raw}
use Rattle.xc_type_rule.specs.declared.found.Thing.TheVariants as thing
use Rattle.xc_type_rule.specs.Cells.{cells}
use Rattle.xc_type_names.specs.Scoped.{is_new}
use Rattle.xc_type_initialiser_objects.specs.Cells.{Cell, initialised, started}
use Rattle.xc_type_scopes.specs.declared.env.Env.{Env}
use Rattle.xc_type_scopes.specs.Env as env
use Rattle.xc_type_scopes.specs.Judge.{Judge, give, mapped}
use Rattle.xc_type_expressions.specs.declared.text.Text.{Text}
use Rattle.xc_type_expressions.specs.declared.types.Declared.{Declared}
use Rattle.xc_type_expressions.specs.Places.{is_reserved}
use Rattle.xc_type_expressions.specs.Types.{name_fault_unless}
use Rattle.xc_type_expressions.specs.Judged.{judged}
use Rattle.xc_type_initialisers.specs.Initialisers.{global_inits}
use Rattle.xc_type_unit.specs.declared.scope.FileScope.{FileScope}
use Rattle.xc_type_unit.specs.Items.{Item, nothing, becomes, by_part, in_turn}

-- names --------------------------------------------------------------------

-- a name may be declared that is new at file scope, and not reserved
abbrev pub may_be_declared : ℕ → Env → Bool
may_be_declared name e = not (is_reserved name) && is_new name e.file

-- the name stands for the global with this number
unfoldable pub named_global : Span → Option Ty → ℕ → Option ℕ → Judge ⊤
named_global at ty number None = give tt []
named_global at ty number (Some name) = λ e. record {
  env = env.with_global name (thing.Global number ty) e;
  part = tt;
  faults = name_fault_unless (may_be_declared name e) at;
}

-- cells --------------------------------------------------------------------

-- the cells of the globals with one more of this type; more than 2^22 count as 2^22 + 1
unfoldable pub cells_with : Ty → FileScope → ℕ
cells_with ty s = min (s.cells + cells s.env.structs.sizes ty) (2 ^ 22 + 1)

abbrev pub fits : ℕ → Bool
fits n = nat_le n (2 ^ 22)

-- the global with which they pass 2^22 is told at its name
abbrev pub over_at : ℕ → Span → Option ℕ
over_at n at = if fits n then None else Some at.start

-- where the globals have too many cells, none are made
abbrev pub cells_if : Bool → List Cell → List Cell
cells_if true cs = cs
cells_if false cs = []

abbrev pub filled : Option (List (ℕ × ℕ)) → List Cell
filled None = []
filled (Some ws) = initialised ws

-- the first cells of an object, with an initialiser or without one
unfoldable pub begun : Text → Bool → Ty → List Raw → Judge (List Cell)
begun t fitting ty [] = λ e. give (cells_if fitting (started e.structs ty)) [] e
begun t fitting ty (i ∷ is) = mapped (λ ws. cells_if fitting (filled ws)) (global_inits t i (Some ty))

-- the initialiser of an object of unknown type
unfoldable pub begun_unknown : Text → List Raw → Judge ⊤
begun_unknown t [] = give tt []
begun_unknown t (i ∷ is) = mapped (λ ws. tt) (global_inits t i None)

-- objects ------------------------------------------------------------------

abbrev pub object : Span → Ty → List Cell → Object
object at ty init = record { name = at; ty = ty; init = init }

-- the next global
unfoldable pub with_object : Span → Ty → List Cell → FileScope → FileScope
with_object at ty init s = record s {
  env = env.with_over (over_at (cells_with ty s) at) s.env;
  globals = s.globals ++ object at ty init ∷ [];
  cells = cells_with ty s;
}

-- what has a fault is none
unfoldable pub begins : Text → Span → Option Ty → List Raw → Item
begins t at None is = by_part (begun_unknown t is) (λ x. nothing)
begins t at (Some ty) is = λ s. by_part (begun t (fits (cells_with ty s)) ty is) (λ cs s. becomes (with_object at ty cs s)) s

-- the name is known from the end of the declarator on (C99 6.2.1 paragraph 7)
abbrev pub declares : Text → Declared → List Raw → Item
declares t d is s = by_part (named_global d.at d.ty (length s.globals) d.name) (λ x. begins t d.at d.ty is) s

unfoldable pub global_by : Text → Option Ty → List Raw → Item
global_by t base [] = nothing
global_by t base (d ∷ is) = by_part ((judged t d).declared base) (λ x. declares t x is)

unfoldable pub global : Text → Option Ty → Raw → Item
global t base node = global_by t base (out-Raw node).parts

unfoldable pub globals_by : Text → Option Ty → List Raw → Item
globals_by t base ds = in_turn (map (global t base) ds)

-- a declaration of objects: its specifiers, and a declarator for each
unfoldable pub declaration : Text → List Raw → Item
declaration t [] = nothing
declaration t (specs ∷ ds) = by_part ((judged t specs).specified true) (λ base. globals_by t base ds)
