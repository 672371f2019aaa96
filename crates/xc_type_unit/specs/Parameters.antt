-- The parameters of functions (C99 6.7.5.3).
use Rattle.std.specs.Prelude.{ℕ, ◌==◌, ◌+◌, Bool, true, false, ◌&&◌, cond, ⊤, List, [], ◌∷◌, ◌++◌, map, Option, Some, None}
use Rattle.xc_text_place.specs.declared.Span.{Span}
use Rattle.xc_tree.specs.declared.ty.Ty.{Ty}
use Rattle.xc_raw.specs.declared.tree.Raw.{Raw, out-Raw}
use Rattle.xc_raw.specs.declared.word.Word.{Word}
use Rattle.xc_raw.specs.declared.word.Word.TheVariants as word
use Rattle.xc_raw_parts.specs.Words.{star_words}
use Rattle.xc_type_declarators.specs.declared.declarators.Bound.{Bound}
use Rattle.xc_type_declarators.specs.declared.declarators.Typing.{Typing}
use Rattle.xc_type_declarators.specs.Declarators.{pointer_typing, scalar_typing, array_parameter_typing, bounds_faults, typing_faults}
use Rattle.xc_raw_parts.specs.declared.places.Brackets.{Brackets}
use Rattle.xc_raw_parts.specs.declared.places.Brackets.TheVariants as brace
use Rattle.xc_raw_parts.specs.Spans.{spot, declarator_span, word_at}
use Rattle.xc_raw_parts.specs.Names.{parameter_name}
use Rattle.xc_raw_parts.specs.Places.{first_brackets}
use Rattle.xc_type_scopes.specs.declared.env.Env.{Env}
use Rattle.xc_type_scopes.specs.Env as env
use Rattle.xc_type_scopes.specs.Judge.{Judge, give, and_then, mapped, each}
use Rattle.xc_type_expressions.specs.declared.text.Text.{Text}
use Rattle.xc_type_expressions.specs.declared.types.Declared.{Declared}
use Rattle.xc_type_expressions.specs.Types.{bounds}
use Rattle.xc_type_expressions.specs.Judged.{judged}
use Rattle.xc_type_expressions.specs.Places.{name_of}
use Rattle.xc_type_statement_parts.specs.Declarations.{declared_object}
use Rattle.xc_raw.specs.Kinds.{is_void}

-- types --------------------------------------------------------------------

abbrev pub behind_first : List Bound → List Bound
behind_first [] = []
behind_first (b ∷ bs) = bs

-- an array is a pointer to its elements, whatever its first bound is (C99 6.7.5.3 paragraph 7)
abbrev pub parameter_typing : List ℕ → Typing → Brackets → List Bound → Typing
parameter_typing sizes ty brace.Absent bs = scalar_typing ty
parameter_typing sizes ty brace.Empty bs = array_parameter_typing sizes ty bs
parameter_typing sizes ty brace.Bound bs = array_parameter_typing sizes ty (behind_first bs)

-- parameters -----------------------------------------------------------------

-- where its name stands, or else what stands for its declarator
abbrev pub parameter_spot : Text → Raw → Option ℕ → Span
parameter_spot t node None = declarator_span t.tokens.now node
parameter_spot t node (Some token) = spot t.tokens.now token

abbrev pub name_in : Text → Option ℕ → Option ℕ
name_in t None = None
name_in t (Some token) = name_of t token

abbrev pub declared_as : Text → Raw → Typing → Declared
declared_as t node ty = record {
  name = name_in t (parameter_name t.tokens.now node);
  at = parameter_spot t node (parameter_name t.tokens.now node);
  ty = ty.ty;
}

-- by its specifiers' type and its bounds
abbrev pub typed_by : Text → Raw → Option Ty → ℕ → List Bound → Judge Declared
typed_by t node base from bs = λ e.
    let ty = parameter_typing e.structs.sizes (pointer_typing base (star_words t.source.now t.tokens.now from (out-Raw node).end)) (first_brackets t.source.now t.tokens.now node) bs in
    give (declared_as t node ty) (bounds_faults bs ++ typing_faults (declarator_span t.tokens.now node) ty) e

unfoldable pub described_by : Text → Raw → List Raw → Judge Declared
described_by t node [] = give (record { name = None; at = declarator_span t.tokens.now node; ty = None }) []
described_by t node (specs ∷ bs) = and_then ((judged t specs).specified false) (λ base.
    and_then (bounds (map (judged t) bs)) (typed_by t node base (out-Raw specs).end))

-- objects ------------------------------------------------------------------

abbrev pub unnamed : Span → Option Ty → Env → Env
unnamed at None e = e
unnamed at (Some ty) e = env.with_local at ty e

-- a parameter without a name is an object too, which nothing names
abbrev pub object_of : Declared → Option ℕ → Judge ⊤
object_of d None = λ e. give tt [] (unnamed d.at d.ty e)
object_of d (Some name) = mapped (λ n. tt) (declared_object d)

unfoldable pub begun : Declared → Judge ⊤
begun d = object_of d d.name

-- lists ----------------------------------------------------------------------

-- the next object of the function, with the type that calls ask for
unfoldable pub parameter : Text → Raw → Judge (Option Ty)
parameter t node = and_then (described_by t node (out-Raw node).parts) (λ d. mapped (λ x. d.ty) (begun d))

abbrev pub is_lone : Text → Raw → Bool
is_lone t node = ((out-Raw node).end == (out-Raw node).first + 1) && is_void (word_at t.source.now t.tokens.now (out-Raw node).first)

abbrev pub all_parameters : Text → List Raw → Judge (List (Option Ty))
all_parameters t ps = each (map (parameter t) ps)

-- `(void)` has none (C99 6.7.5.3 paragraph 10)
abbrev pub listed : Text → List Raw → List Raw
listed t (p ∷ []) = cond (is_lone t p) [] (p ∷ [])
listed t ps = ps

unfoldable pub parameters : Text → List Raw → Judge (List (Option Ty))
parameters t ps = all_parameters t (listed t ps)
