-- Functions (C99 6.9.1). They are numbered in the order of their definitions, which may stand behind their calls.
use Rattle.std.specs.Prelude.{ℕ, ◌+◌, ◌==◌, Bool, true, false, not, ◌&&◌, ◌||◌, cond, codes, ⊤, List, [], ◌∷◌, ◌++◌, length, map, is_some, Option, Some, None, option_and_then, position, zip}
use Rattle.std.specs.Str.{bytes_eq}
use Rattle.xc_text_place.specs.declared.Span.{Span}
use Rattle.xc_tree.specs.declared.ty.Ty.{Ty, Int}
use Rattle.xc_tree.specs.declared.stmt.Stmt.{Stmt}
use Rattle.xc_tree.specs.declared.tree.Local.{Local}
use Rattle.xc_tree.specs.declared.tree.Func.{Func}
use Rattle.xc_tree.specs.Lists.{every, allows, passes}
use Rattle.xc_tree.specs.Types.{same_ty}
use Rattle.xc_raw.specs.declared.rule.Rule.{Rule}
use Rattle.xc_raw.specs.declared.rule.Rule.TheVariants as rule
use Rattle.xc_raw.specs.declared.tree.Raw.{Raw, out-Raw}
use Rattle.xc_type_rule.specs.declared.fault.Fault.{Fault}
use Rattle.xc_type_rule.specs.declared.found.Thing.{Thing}
use Rattle.xc_type_rule.specs.declared.found.Thing.TheVariants as thing
use Rattle.xc_type_rule.specs.Least.{fault_unless}
use Rattle.xc_type_names.specs.Scoped.{found_in, is_new, declared_in}
use Rattle.xc_raw_parts.specs.Words.{star_words}
use Rattle.xc_type_declarators.specs.declared.declarators.Typing.{Typing}
use Rattle.xc_type_declarators.specs.Declarators.{pointer_typing, result_typing, typing_faults}
use Rattle.xc_raw_parts.specs.Names.{callee_name}
use Rattle.xc_type_lowering.specs.Lowered.{lowered_stmt}
use Rattle.xc_type_scopes.specs.declared.env.Env.{Env}
use Rattle.xc_type_scopes.specs.Env as env
use Rattle.xc_type_scopes.specs.Judge.{Judge, give, and_then, mapped, framed}
use Rattle.xc_type_expressions.specs.declared.text.Text.{Text}
use Rattle.xc_type_expressions.specs.Places.{name_of, is_reserved}
use Rattle.xc_type_expressions.specs.Types.{name_fault_unless}
use Rattle.xc_type_expressions.specs.Judged.{judged, span_in, spot_in}
use Rattle.xc_type_statement_parts.specs.declared.answer.Answer.TheVariants as answer
use Rattle.xc_type_statement_parts.specs.Making.{one, followed}
use Rattle.xc_type_statements.specs.Stated.{statement}
use Rattle.xc_type_unit.specs.declared.heads.Head.{Head}
use Rattle.xc_type_unit.specs.declared.scope.FileScope.{FileScope}
use Rattle.xc_type_unit.specs.Items.{Item, nothing, becomes, by_part}
use Rattle.xc_type_unit.specs.Parameters.{parameters}

-- definitions ----------------------------------------------------------------

-- functions by name, each with the number of its first definition
abbrev pub Bodies : Type 0
Bodies = List (List (ℕ × ℕ))

abbrev pub callee_of : Text → Raw → Option ℕ
callee_of t callee = option_and_then (name_of t) (callee_name t.tokens.now callee)

-- what a node `Function` with a block defines: the number of a name
abbrev pub defined_by : Text → Rule → List Raw → Option (Option ℕ)
defined_by t rule.Function (specs ∷ callee ∷ params ∷ block ∷ rest) = Some (callee_of t callee)
defined_by t _ parts = None

abbrev pub with_body : Option ℕ → ℕ → Bodies → Bodies
with_body None n b = b
with_body (Some name) n b = cond (is_new name b) (declared_in name n b) b

abbrev pub defined : Text → Raw → Option (Option ℕ)
defined t node = defined_by t (out-Raw node).rule (out-Raw node).parts

abbrev pub next : Option (Option ℕ) → ℕ → ℕ
next None n = n
next (Some name) n = n + 1

abbrev pub with_defined : Option (Option ℕ) → ℕ → Bodies → Bodies
with_defined None n b = b
with_defined (Some name) n b = with_body name n b

-- those of these items, where n definitions stand before them
unfoldable pub bodies_from : Text → ℕ → Bodies → List Raw → Bodies
bodies_from t n b [] = b
bodies_from t n b (node ∷ nodes) = bodies_from t (next (defined t node) n) (with_defined (defined t node) n b) nodes

abbrev pub bodies_of : Text → List Raw → Bodies
bodies_of t nodes = bodies_from t 0 ([] ∷ []) nodes

-- declarations -----------------------------------------------------------------

abbrev pub may_be_same : Option Ty → Option Ty → Bool
may_be_same (Some a) (Some b) = same_ty a b
may_be_same _ _ = true

abbrev pub pair_may_be_same : Option Ty × Option Ty → Bool
pair_may_be_same p = may_be_same p.0 p.1

-- as many, and each pair may be the same
abbrev pub all_may_be_same : List (Option Ty) → List (Option Ty) → Bool
all_may_be_same xs ys = (length xs == length ys) && every (map pair_may_be_same (zip xs ys))

-- a function may be declared again with the types that it has
abbrev pub may_stand_beside : Head → Option Thing → Bool
may_stand_beside h None = true
may_stand_beside h (Some (thing.Func n params ret)) = all_may_be_same params h.params && may_be_same ret h.ret
may_stand_beside h (Some _) = false

abbrev pub is_int : Ty → Bool
is_int ty = same_ty ty Int

-- `int main(void)` (C99 5.1.2.2.1)
abbrev pub may_be_main : Head → Bool
may_be_main h = allows is_int h.ret && length h.params == 0

-- the number of the name `main`
abbrev pub main_of : Text → Option ℕ
main_of t = position (bytes_eq (codes "main")) t.names.now.spellings

abbrev pub is_main : Text → ℕ → Bool
is_main t name = passes (λ m. m == name) (main_of t)

abbrev pub may_be_declared : Head → ℕ → Env → Bool
may_be_declared h name e = not (is_reserved name) && may_stand_beside h (found_in name e.file)

abbrev pub head_faults : Text → Head → ℕ → Env → List Fault
head_faults t h name e = name_fault_unless (may_be_declared h name e) h.at ++ fault_unless (not (is_main t name) || may_be_main h) h.span

-- the name stands for the function from here on
unfoldable pub named_function : Text → Bodies → Head → Option ℕ → Judge ⊤
named_function t b h None = give tt []
named_function t b h (Some name) = λ e. record {
  env = env.with_global name (thing.Func (found_in name b) h.params h.ret) e;
  part = tt;
  faults = head_faults t h name e;
}

-- its result and its parameters
abbrev pub head_by : Text → Raw → Typing → List (Option Ty) → Head
head_by t callee ret params = record { name = callee_of t callee; at = spot_in t (callee_name t.tokens.now callee); span = span_in t callee; params = params; ret = ret.ty }

abbrev pub result_of : Text → Option Ty → Raw → Typing
result_of t base callee = result_typing (pointer_typing base (star_words t.source.now t.tokens.now (out-Raw callee).first (out-Raw callee).end))

unfoldable pub headed : Text → Option Ty → Raw → Raw → Judge Head
headed t base callee params = and_then (parameters t (out-Raw params).parts) (λ ps.
    give (head_by t callee (result_of t base callee) ps) (typing_faults (span_in t callee) (result_of t base callee)))

-- bodies -----------------------------------------------------------------------

-- this is the first definition of the name, where n stand before it
abbrev pub is_first : Bodies → Option ℕ → ℕ → Bool
is_first b None n = true
is_first b (Some name) n = passes (λ m. m == n) (found_in name b)

abbrev pub local_of : (Span × Ty) × Bool → Local
local_of p = record { name = p.0.0; ty = p.0.1; addressed = p.1 }

-- the objects of a function, its parameters first
abbrev pub locals_of : List (Span × Ty) → List Bool → List Local
locals_of ls addressed = map local_of (zip ls addressed)

-- those whose address is never taken are values
abbrev pub func_of : Head → ℕ → Env → Option Ty → Option Stmt → Option Func
func_of h params e (Some ret) (Some body) = Some (record {
  name = h.at;
  params = params;
  locals = locals_of e.locals e.addressed;
  ret = ret;
  body = lowered_stmt e.addressed body;
})
func_of h params e _ _ = None

-- the body, in the scope of the parameters
unfoldable pub bodied : Text → Bodies → ℕ → Head → Raw → Judge (Option Func)
bodied t b n h block = λ e. let a = (statement t block).body (answer.Function h.ret) false e in record {
  env = a.env;
  part = func_of h (length e.locals) a.env h.ret a.part;
  faults = name_fault_unless (is_first b h.name n) h.at ++ a.faults;
}

-- none without a block
unfoldable pub defined_as : Text → Bodies → ℕ → Head → List Raw → Judge (Option (List Func))
defined_as t b n h [] = give (Some []) []
defined_as t b n h (block ∷ rest) = mapped one (bodied t b n h block)

-- the parameters and the body are one scope
unfoldable pub inner : Text → Bodies → ℕ → Option Ty → Raw → Raw → List Raw → Judge (Option (List Func))
inner t b n base callee params rest = framed env.in_function env.after_function (and_then (headed t base callee params) (λ h.
    and_then (named_function t b h h.name) (λ x. defined_as t b n h rest)))

-- how many definitions these blocks end
abbrev pub blocks : List Raw → ℕ
blocks [] = 0
blocks (block ∷ rest) = 1

abbrev pub with_funcs : ℕ → Option (List Func) → Item
with_funcs n fs s = becomes (record s { defined = s.defined + n; funcs = followed s.funcs fs })

unfoldable pub function : Text → Bodies → List Raw → Item
function t b (specs ∷ callee ∷ params ∷ rest) = by_part ((judged t specs).specified true) (λ base s.
    by_part (inner t b s.defined base callee params rest) (with_funcs (blocks rest)) s)
function t b parts = nothing
