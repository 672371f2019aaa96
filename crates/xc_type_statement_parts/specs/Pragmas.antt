-- What the pragmas directly before a loop say of it. Their names are looked up where the loop stands.
use Rattle.std.specs.Prelude.{ℕ, cond, List, [], map, Option, Some, None, option_and_then, position, slice_range}
use Rattle.std.specs.Str.{bytes_eq}
use Rattle.xc_text_place.specs.declared.Span.{Span}
use Rattle.xc_tree.specs.declared.ty.Ty.{Ty}
use Rattle.xc_tree.specs.declared.pragmas.Root.{Root}
use Rattle.xc_tree.specs.declared.pragmas.Root.TheVariants as root
use Rattle.xc_tree.specs.Lists.{passes}
use Rattle.xc_tree.specs.Types.{holds_pointer}
use Rattle.xc_type_rule.specs.declared.found.Thing.{Thing}
use Rattle.xc_type_rule.specs.declared.found.Thing.TheVariants as thing
use Rattle.xc_type_pragmas.specs.declared.read.Pragma.{Pragma}
use Rattle.xc_type_pragmas.specs.declared.read.Pragma.TheVariants.{Nodep, Noalias}
use Rattle.xc_type_pragmas.specs.declared.set.Named.{Named}
use Rattle.xc_type_pragmas.specs.declared.set.Named.TheVariants.{Nothing, Object, Pointer}
use Rattle.xc_type_pragmas.specs.declared.set.Said.{Said}
use Rattle.xc_type_pragmas.specs.Said.{pragma_of}
use Rattle.xc_type_pragmas.specs.Set.{settings_of}
use Rattle.xc_type_scopes.specs.declared.env.Env.{Env}
use Rattle.xc_type_scopes.specs.Env as env
use Rattle.xc_type_scopes.specs.Judge.{Judge}
use Rattle.xc_type_expressions.specs.declared.text.Text.{Text}
use Rattle.xc_type_statement_parts.specs.declared.pragmas.Begun.{Begun}

-- names --------------------------------------------------------------------

-- the name that a pragma has
abbrev pub name_in : Pragma → Option Span
name_in (Nodep name) = Some name
name_in (Noalias name) = Some name
name_in _ = None

-- the number of the name that these bytes spell
abbrev pub number_at : Text → Span → Option ℕ
number_at t at = position (bytes_eq (slice_range t.source.now at.start at.end)) t.names.now.spellings

-- a pointer variable is an object too
abbrev pub object_of : Option Ty → Root → Root → Named
object_of ty object pointer = cond (passes holds_pointer ty) (Pointer object pointer) (Object object)

-- no pragma names a function
abbrev pub named_by : Option Thing → Named
named_by (Some (thing.Global n ty)) = object_of ty (root.Global n) (root.GlobalPointer n)
named_by (Some (thing.Local n ty)) = object_of ty (root.Local n) (root.LocalPointer n)
named_by _ = Nothing

abbrev pub thing_of : Text → Env → Pragma → Option Thing
thing_of t e p = option_and_then (λ at. option_and_then (λ name. env.found name e) (number_at t at)) (name_in p)

-- loops ----------------------------------------------------------------------

-- the pragma that stands at these bytes
abbrev pub said_at : Text → Env → Span → Said
said_at t e at = let p = pragma_of t.source.now at in record { span = at; pragma = p; named = named_by (thing_of t e p) }

abbrev pub said : Text → Env → List Said
said t e = map (said_at t e) e.before

-- the loop whose keyword stands at `at` begins
unfoldable pub begun : Text → ℕ → Judge Begun
begun t at e = let s = settings_of (said t e) in
    record { env = env.with_loop at s.notes e; part = record { id = e.loops; pragmas = s.pragmas }; faults = [] }
