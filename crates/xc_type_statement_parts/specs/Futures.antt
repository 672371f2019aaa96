-- `future` statements: the place, and the variables that the body copies.
use Rattle.std.specs.Prelude.{ℕ, Bool, true, false, if◌then◌else◌, is_some, List, [], ◌∷◌, Option, Some, None}
use Rattle.xc_text_place.specs.declared.Span.{Span}
use Rattle.xc_tree.specs.declared.ty.Ty.{Ty}
use Rattle.xc_tree.specs.declared.expr.Expr.{Expr}
use Rattle.xc_tree.specs.declared.stmt.Stmt.{Stmt}
use Rattle.xc_tree.specs.declared.stmt.Capture.{Capture}
use Rattle.xc_tree.specs.Types.{is_plain, future_of}
use Rattle.xc_raw.specs.declared.tree.Raw.{Raw, out-Raw}
use Rattle.xc_raw.specs.declared.word.Access.{Access}
use Rattle.xc_raw.specs.declared.word.Access.TheVariants as access
use Rattle.xc_type_rule.specs.declared.found.Found.{Found}
use Rattle.xc_type_rule.specs.declared.found.Known.{Known}
use Rattle.xc_type_rule.specs.declared.found.Known.TheVariants as known
use Rattle.xc_type_rule.specs.Least.{fault_unless}
use Rattle.xc_type_rule.specs.Making.{unknown_place}
use Rattle.xc_type_rule.specs.Values.{rvalue, rvalue_faults}
use Rattle.xc_raw_parts.specs.declared.places.PlaceStep.{PlaceStep}
use Rattle.xc_raw_parts.specs.declared.places.PlaceStep.TheVariants as place
use Rattle.xc_raw_parts.specs.Spans.{spot}
use Rattle.xc_raw_parts.specs.Names.{captured_names}
use Rattle.xc_raw_parts.specs.Places.{place_steps}
use Rattle.xc_type_rule_places.specs.Places.{index_part, index_faults}
use Rattle.xc_type_scopes.specs.Env as env
use Rattle.xc_type_scopes.specs.Judge.{Judge, give, and_then, mapped, framed}
use Rattle.xc_type_expressions.specs.declared.text.Text.{Text}
use Rattle.xc_type_expressions.specs.Roles.{value}
use Rattle.xc_type_expressions.specs.Places.{name_of, named, dotted, arrowed}
use Rattle.xc_type_expressions.specs.Judged.{judged}
use Rattle.xc_type_statement_parts.specs.declared.futures.Copied.{Copied}
use Rattle.xc_type_statement_parts.specs.declared.answer.Answer.{Answer}
use Rattle.xc_type_statement_parts.specs.declared.answer.Answer.TheVariants as answer
use Rattle.xc_type_statement_parts.specs.Making.{one, followed}
use Rattle.xc_type_statement_parts.specs.Declarations.{declared_object}

-- places -------------------------------------------------------------------

abbrev pub spot_of : Text → ℕ → Span
spot_of t token = spot t.tokens.now token

-- from where one begins to where the other ends
abbrev pub up_to : Span → Span → Span
up_to a b = record { start = a.start; end = b.end }

abbrev pub as_value : Span → Found → Judge Found
as_value at f e = give (rvalue e.structs.sizes at f) (rvalue_faults at f.known) e

-- `a[i]`, where `a` is found already
unfoldable pub element : Text → Span → Span → Found → Raw → Judge Found
element t span at a i = and_then (value (judged t i)) (λ v e.
    give (index_part e.structs.sizes span at a v) (index_faults e.structs.sizes span at a v) e)

-- `a.name` and `p->name`, where what stands before is found already
unfoldable pub member : Text → Span → Span → Found → Access → ℕ → Judge Found
member t span at a access.Dot name = dotted span (spot_of t name) (name_of t name) a
member t span at a access.Arrow name = and_then (as_value at a) (arrowed span (spot_of t name) (name_of t name))

-- by one step after another, where `at` covers what stands before; each index is the next part
unfoldable pub reached : Text → Span → Found → List PlaceStep → List Raw → Judge Found
reached t at a [] is = give a []
reached t at a (place.Index ∷ ss) [] = give unknown_place []
reached t at a (place.Index ∷ ss) (i ∷ is) = let span = up_to at (spot_of t (out-Raw i).end) in
    and_then (element t span at a i) (λ b. reached t span b ss is)
reached t at a (place.Member k name ∷ ss) is = let span = up_to at (spot_of t name) in
    and_then (member t span at a k name) (λ b. reached t span b ss is)

-- a node `Place`
unfoldable pub placed : Text → Raw → Judge Found
placed t node = let at = spot_of t (out-Raw node).first in
    and_then (named at (name_of t (out-Raw node).first)) (λ a. reached t at a (place_steps t.source.now t.tokens.now node) (out-Raw node).parts)

-- the type that a `future` object waits for, none where it is unknown
abbrev pub waits_for : Known → Option Ty
waits_for (known.Place ty within) = future_of ty
waits_for _ = None

abbrev pub may_be_future : Known → Bool
may_be_future (known.Unknown place) = true
may_be_future (known.Value ty) = false
may_be_future (known.Place ty within) = is_some (future_of ty)

-- the place, and what the body leaves there; what is no `future` object is told at the keyword
unfoldable pub awaited : Text → Span → Raw → Judge (Option Expr × Answer)
awaited t span node = and_then (placed t node) (λ f. give (f.made, answer.Future (waits_for f.known)) (fault_unless (may_be_future f.known) span))

-- copies -------------------------------------------------------------------

-- the type of a plain scalar variable
abbrev pub variable_ty : Known → Option Ty
variable_ty (known.Place ty within) = if is_plain ty then Some ty else None
variable_ty _ = None

abbrev pub may_be_variable : Known → Bool
may_be_variable (known.Unknown place) = true
may_be_variable (known.Value ty) = false
may_be_variable (known.Place ty within) = is_plain ty

abbrev pub copy_from : Text → ℕ → Known → Found → Copied
copy_from t token k v = record { declared = record { name = name_of t token; at = spot_of t token; ty = variable_ty k }; from = v.made }

-- the variable that a token names, as it is before the statement
unfoldable pub copy_of : Text → ℕ → Judge Copied
copy_of t token = and_then (named (spot_of t token) (name_of t token)) (λ a. and_then (as_value (spot_of t token) a) (λ v.
    give (copy_from t token a.known v) (fault_unless (may_be_variable a.known) (spot_of t token))))

unfoldable pub copies : Text → List ℕ → Judge (List Copied)
copies t [] = give [] []
copies t (name ∷ names) = and_then (copy_of t name) (λ c. and_then (copies t names) (λ cs. give (c ∷ cs) []))

-- what a node `Future` copies
abbrev pub captured : Text → Raw → Judge (List Copied)
captured t node = copies t (captured_names t.tokens.now node)

abbrev pub capture_made : Option ℕ → Option Expr → Option Capture
capture_made (Some number) (Some e) = Some (record { from = e; local = number })
capture_made _ _ = None

abbrev pub capture : Copied → Judge (Option Capture)
capture c = mapped (λ number. capture_made number c.from) (declared_object c.declared)

-- each copy is an object of its own, with the name of what it copies
unfoldable pub copied : List Copied → Judge (Option (List Capture))
copied [] = give (Some []) []
copied (c ∷ cs) = and_then (capture c) (λ x. and_then (copied cs) (λ xs. give (followed (one x) xs) []))

-- bodies -------------------------------------------------------------------

-- the copies and the body, which sees file scope and the copies alone
unfoldable pub threaded : List Copied → Judge (Option Stmt) → Judge (Option (List Capture) × Option Stmt)
threaded cs body e = framed env.in_future (env.after_future (env.outside_of e)) (and_then (copied cs) (λ captures. mapped (λ b. (captures, b)) body)) e

-- what a node `Future` names is copied, and then the body begins
unfoldable pub begins : Text → Raw → Judge (Option Stmt) → Judge (Option (List Capture) × Option Stmt)
begins t node body = and_then (captured t node) (λ cs. threaded cs body)
