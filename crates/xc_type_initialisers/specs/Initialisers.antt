-- What an initialiser gives an object of a type (C99 6.7.8).
use Rattle.std.specs.Prelude.{ℕ, ◌+◌, Bool, true, false, List, [], ◌∷◌, Option}
use Rattle.xc_text_place.specs.declared.Span.{Span}
use Rattle.xc_tree.specs.declared.ty.Ty.{Ty}
use Rattle.xc_tree.specs.declared.expr.Expr.{Expr}
use Rattle.xc_raw.specs.declared.rule.Rule.{Rule}
use Rattle.xc_raw.specs.declared.rule.Rule.TheVariants as rule
use Rattle.xc_raw.specs.declared.tree.Raw.{Raw, out-Raw}
use Rattle.xc_raw_parts.specs.Nodes.{by_nodes}
use Rattle.xc_type_rule.specs.declared.found.Found.{Found}
use Rattle.xc_type_rule.specs.Least.{fault_unless}
use Rattle.xc_type_initialiser_objects.specs.declared.target.Target.{Target}
use Rattle.xc_type_initialiser_objects.specs.declared.target.Part.{Part}
use Rattle.xc_type_initialiser_objects.specs.declared.inits.Inits.{Inits}
use Rattle.xc_type_initialiser_objects.specs.Parts.{target, part_of, may_be_braced}
use Rattle.xc_type_initialiser_objects.specs.Inits.{nothing, one_init, and_also, if_whole, value_made, value_faults}
use Rattle.xc_type_initialiser_objects.specs.Words.{global_words}
use Rattle.xc_type_scopes.specs.Judge.{Judge, give, and_then}
use Rattle.xc_type_expressions.specs.declared.text.Text.{Text}
use Rattle.xc_type_expressions.specs.Roles.{value}
use Rattle.xc_type_expressions.specs.Judged.{judged, span_in}
use Rattle.xc_type_initialisers.specs.Forms.{form_in}
use Rattle.xc_type_initialisers.specs.Lasting.{held, lasting_made, lasting_faults}

-- an initialiser: its bytes, and what it gives what it goes to, at file scope or not
pub record Initialiser : Type 0 where
  pub span : Span
  pub given : Bool → Target → Judge Inits

-- expressions --------------------------------------------------------------

-- what an expression that makes this gives at file scope or not
unfoldable pub placed : Text → Raw → Bool → Option Ty → Option Expr → Judge (Option Expr)
placed t node false ty made = give made []
placed t node true ty made = give (lasting_made (held ty) (judged t node).constant made) (lasting_faults (held ty) (span_in t node) (form_in t node) (judged t node).constant made)

-- the value of an expression, as an assignment would give it
unfoldable pub fitted : Text → Raw → Option Ty → Found → Judge (Option Expr)
fitted t node ty v = give (value_made ty v) (value_faults (span_in t node) ty v)

-- an expression
unfoldable pub valued : Text → Raw → Bool → Target → Judge Inits
valued t node outermost to = and_then (value (judged t node)) (λ v. and_then (fitted t node to.ty v) (λ m. and_then (placed t node outermost to.ty m) (λ e. give (one_init to.off e) [])))

-- braces -------------------------------------------------------------------

-- one that goes to no part is one too many
abbrev pub to_part : Bool → Initialiser → Part → Judge Inits
to_part outermost i p = and_then (i.given outermost p.target) (λ x. give x (fault_unless p.there i.span))

abbrev pub one_of : Bool → Target → ℕ → Initialiser → Judge Inits
one_of outermost to k i e = to_part outermost i (part_of e.structs to k) e

-- one after another, from the one with number k on
unfoldable pub in_turn : Bool → Target → ℕ → List Initialiser → Judge Inits
in_turn outermost to k [] = give nothing []
in_turn outermost to k (i ∷ is) = and_then (one_of outermost to k i) (λ x. and_then (in_turn outermost to (k + 1) is) (λ y. give (and_also x y) []))

-- initialisers between braces, which a scalar may not have
unfoldable pub braced : Span → List Initialiser → Bool → Target → Judge Inits
braced span is outermost to = and_then (in_turn outermost to 0 is) (λ x. give x (fault_unless (may_be_braced to.ty) span))

-- nodes --------------------------------------------------------------------

-- a node that is no pair of braces is an expression
unfoldable pub given_by : Text → Raw → Rule → List Initialiser → Bool → Target → Judge Inits
given_by t node rule.Initialisers is outermost to = braced (span_in t node) is outermost to
given_by t node _ is outermost to = valued t node outermost to

-- a node by its parts
abbrev pub initialiser_of : Text → Raw → List Initialiser → Initialiser
initialiser_of t node is = record { span = span_in t node; given = given_by t node (out-Raw node).rule is }

-- a node as an initialiser
unfoldable pub initialiser : Text → Raw → Initialiser
initialiser t = by_nodes (initialiser_of t)

-- objects ------------------------------------------------------------------

abbrev pub whole_object : Text → Raw → Bool → Option Ty → Judge Inits
whole_object t node outermost ty = (initialiser t node).given outermost (target ty 0)

-- the expressions that a local of this type begins with, by their offsets in ascending order; none after a fault
unfoldable pub local_inits : Text → Raw → Option Ty → Judge (Option (List (ℕ × Expr)))
local_inits t node ty = and_then (whole_object t node false ty) (λ is. give (if_whole is) [])

-- the words that a global of this type begins with, likewise
unfoldable pub global_inits : Text → Raw → Option Ty → Judge (Option (List (ℕ × ℕ)))
global_inits t node ty = and_then (whole_object t node true ty) (λ is. give (global_words is) [])
