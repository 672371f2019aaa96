-- Specifiers, structs and declarators (C99 6.7.2 and 6.7.5).
use Rattle.std.specs.Prelude.{ℕ, ◌^◌, Bool, true, false, not, nat_lt, ⊤, List, [], ◌∷◌, ◌++◌, length, map, Option, Some, None, is_none}
use Rattle.xc_text_place.specs.declared.Span.{Span}
use Rattle.xc_tree.specs.declared.ty.Ty.{Ty}
use Rattle.xc_tree.specs.Lists.{every}
use Rattle.xc_raw.specs.declared.word.Word.{Word}
use Rattle.xc_type_rule.specs.declared.fault.Fault.{Fault}
use Rattle.xc_type_rule.specs.Least.{name_fault, fault_unless}
use Rattle.xc_type_rule.specs.Members.{member_named}
use Rattle.xc_type_declarators.specs.declared.declarators.Bound.{Bound}
use Rattle.xc_type_declarators.specs.Specifiers.{base_ty, specifier_faults}
use Rattle.xc_type_declarators.specs.Declarators.{pointer_typing, object_typing, bounds_faults, typing_faults}
use Rattle.xc_type_constants.specs.Pieces.{constant_value, constant_faults}
use Rattle.xc_type_scopes.specs.declared.env.Env.{Env}
use Rattle.xc_type_scopes.specs.Env as env
use Rattle.xc_type_scopes.specs.Judge.{Judge, give, and_then, mapped, each}
use Rattle.xc_type_expressions.specs.declared.types.Tagged.{Tagged}
use Rattle.xc_type_expressions.specs.declared.types.Declared.{Declared}
use Rattle.xc_type_expressions.specs.Roles.{Role, value}

abbrev pub name_fault_unless : Bool → Span → List Fault
name_fault_unless true span = []
name_fault_unless false span = name_fault span

-- specifiers ---------------------------------------------------------------

-- the structs of a list of specifiers
abbrev pub tags : List Role → Judge (List Tagged)
tags ps = each (map (λ p. p.struct) ps)

abbrev pub number_of : List Tagged → Option ℕ
number_of [] = None
number_of (x ∷ xs) = Some x.number

-- none of them has too many cells
abbrev pub all_fit : List Tagged → Bool
all_fit xs = every (map (λ x. x.fits) xs)

abbrev pub specifier_type : List Word → List Tagged → Option Ty
specifier_type ws xs = base_ty ws (number_of xs)

-- what a list breaks is told at its first token
abbrev pub specified_faults : Bool → Span → List Word → List Tagged → List Fault
specified_faults outermost span ws xs = specifier_faults outermost span ws ++ fault_unless (all_fit xs) span

unfoldable pub specified_by : Span → List Word → List Role → Bool → Judge (Option Ty)
specified_by span ws structs outermost = and_then (tags structs) (λ xs. give (specifier_type ws xs) (specified_faults outermost span ws xs))

-- structs --------------------------------------------------------------------

abbrev pub members : List Role → Judge ⊤
members ps = mapped (λ xs. tt) (each (map (λ p. p.member) ps))

abbrev pub the_next : Env → ℕ
the_next e = length e.structs.sizes

abbrev pub fits_in : Env → Bool
fits_in e = not (nat_lt (2 ^ 22) e.layout.size)

abbrev pub struct_begun : ℕ → Env → Env
struct_begun name e = env.with_tag name (the_next e) (env.in_struct e)

-- with braces a new struct, which is known between them
abbrev pub struct_with : Span → ℕ → List Role → Judge Tagged
struct_with at name ms e = let inner = members ms (struct_begun name e) in
    record {
      env = env.after_struct (the_next e) e.layout inner.env;
      part = record { number = the_next e; fits = fits_in inner.env };
      faults = name_fault_unless (env.is_new_tag name e) at ++ inner.faults;
    }

-- without braces the one of this name; if there is none, one that is never complete
abbrev pub struct_named : Span → Option ℕ → Judge Tagged
struct_named at (Some number) = give (record { number = number; fits = true }) []
struct_named at None = λ e. give (record { number = the_next e; fits = true }) (name_fault at) (env.with_struct e)

-- what has no name is nothing
abbrev pub no_struct : Tagged
no_struct = record { number = 0; fits = true }

unfoldable pub struct_by : Span → Option ℕ → List Role → Judge Tagged
struct_by at None ms = give no_struct []
struct_by at (Some name) [] = λ e. struct_named at (env.tagged name e) e
struct_by at (Some name) (m ∷ ms) = struct_with at name (m ∷ ms)

-- a name twice in one struct is told at the second
abbrev pub member_with : Span → Option Ty → Option ℕ → Judge ⊤
member_with at ty None = give tt []
member_with at ty (Some name) = λ e. give tt (name_fault_unless (is_none (member_named name e.layout.members)) at) (env.with_member name ty e)

abbrev pub with_declared : Declared → Judge ⊤
with_declared d = member_with d.at d.ty d.name

unfoldable pub declared_member : Option Ty → Role → Judge ⊤
declared_member ty d = and_then (d.declared ty) with_declared

abbrev pub declared_all : Option Ty → List Role → Judge ⊤
declared_all ty ds = mapped (λ xs. tt) (each (map (declared_member ty) ds))

unfoldable pub member_by : List Role → Judge ⊤
member_by [] = give tt []
member_by (specs ∷ ds) = and_then (specs.specified false) (λ ty. declared_all ty ds)

-- declarators ----------------------------------------------------------------

abbrev pub bound_of : Role → Bound
bound_of p = record { value = constant_value p.constant; span = p.span }

-- a bound is a constant
unfoldable pub bound_by : Role → Judge Bound
bound_by p = and_then (value p) (λ v. give (bound_of p) (constant_faults p.constant))

abbrev pub bounds : List Role → Judge (List Bound)
bounds ps = each (map bound_by ps)

-- an object or a member; `at` covers its name
unfoldable pub declared_by : Span → Span → Option ℕ → List Word → List Role → Option Ty → Judge Declared
declared_by span at name stars ps base = and_then (bounds ps) (λ bs e.
    let t = object_typing e.structs.sizes (pointer_typing base stars) bs in
    give (record { name = name; at = at; ty = t.ty }) (bounds_faults bs ++ typing_faults span t) e)
