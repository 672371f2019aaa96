-- What each node of a text is found to be.
use Rattle.std.specs.Prelude.{ℕ, Bool, true, false, cond, List, [], ◌∷◌, Option, Some, None, option_and_then, unwrap_or}
use Rattle.xc_text_place.specs.declared.Span.{Span}
use Rattle.xc_tree.specs.declared.ty.Ty.{Ty}
use Rattle.xc_raw.specs.declared.rule.Rule.{Rule}
use Rattle.xc_raw.specs.declared.rule.Rule.TheVariants as rule
use Rattle.xc_raw.specs.declared.tree.Raw.{Raw, out-Raw}
use Rattle.xc_raw.specs.declared.word.Access.TheVariants as access
use Rattle.xc_type_rule.specs.declared.found.Found.{Found}
use Rattle.xc_type_rule.specs.Making.{unknown_place}
use Rattle.xc_type_rule_operators.specs.Operators.{grouped}
use Rattle.xc_raw_parts.specs.Words.{specifier_words, star_words}
use Rattle.xc_raw_parts.specs.declared.operators.Prefix.{Prefix}
use Rattle.xc_raw_parts.specs.declared.operators.Prefix.TheVariants as prefix
use Rattle.xc_raw_parts.specs.declared.operators.Suffix.{Suffix}
use Rattle.xc_raw_parts.specs.declared.operators.Suffix.TheVariants as suffix
use Rattle.xc_raw_parts.specs.Spans.{nowhere, spot, span_of, behind}
use Rattle.xc_type_constants.specs.Pieces.{piece_in}
use Rattle.xc_raw_parts.specs.Nodes.{by_nodes}
use Rattle.xc_raw_parts.specs.Names.{struct_name, declarator_name, member_name}
use Rattle.xc_raw_parts.specs.Operators.{binary_operator, assign_operator, prefix_operator, postfix_operator}
use Rattle.xc_type_scopes.specs.Judge.{Judge, give, and_then}
use Rattle.xc_type_scopes.specs.Told.{Told, told, anywhere}
use Rattle.xc_type_expressions.specs.declared.text.Text.{Text}
use Rattle.xc_type_expressions.specs.declared.types.Declared.{Declared}
use Rattle.xc_type_expressions.specs.Roles.{Role, value}
use Rattle.xc_type_expressions.specs.Places.{name_of, alone_in, of_token, indexed, dotted, arrowed}
use Rattle.xc_type_expressions.specs.Operations.{stepped, prefixed, has_any, cast_to, between, chosen, sequenced, assigned}
use Rattle.xc_type_expressions.specs.Calls.{called}
use Rattle.xc_type_expressions.specs.Types.{specified_by, struct_by, member_by, declared_by}

abbrev pub span_in : Text → Raw → Span
span_in t node = span_of t.tokens.now node

-- the bytes of a token, none of no token
abbrev pub spot_in : Text → Option ℕ → Span
spot_in t None = nowhere
spot_in t (Some token) = spot t.tokens.now token

-- the token that names the member
abbrev pub member_in_text : Text → Raw → Option ℕ
member_in_text t node = member_name t.tokens.now node

-- the type of a cast has stars
abbrev pub has_stars : Text → Raw → Bool
has_stars t node = has_any (star_words t.source.now t.tokens.now (unwrap_or (behind node) 0) (out-Raw node).end)

-- expressions ----------------------------------------------------------------

abbrev pub prefix_in : Text → Raw → Option Prefix
prefix_in t node = prefix_operator t.source.now t.tokens.now node

abbrev pub suffix_in : Text → Raw → Option Suffix
suffix_in t node = postfix_operator t.source.now t.tokens.now node

-- the operand of `&`, `++` and `--` may be a place
abbrev pub prefix_takes_value : Option Prefix → Bool
prefix_takes_value (Some (prefix.Step s)) = false
prefix_takes_value (Some prefix.Address) = false
prefix_takes_value _ = true

-- and so may be what stands before `[`, `.`, `++` and `--`
abbrev pub suffix_takes_value : Option Suffix → Bool
suffix_takes_value (Some (suffix.Access access.Arrow)) = true
suffix_takes_value _ = false

-- the first part is taken as a value (C99 6.3.2.1 paragraph 2); the others are in any case
unfoldable pub takes_value : Text → Raw → Rule → Bool
takes_value t node rule.Prim = false
takes_value t node rule.Postfix = suffix_takes_value (suffix_in t node)
takes_value t node rule.Unary = prefix_takes_value (prefix_in t node)
takes_value t node rule.Assign = false
takes_value t node _ = true

-- an expression of one token
unfoldable pub with_none : Text → Raw → Rule → Judge Found
with_none t node rule.Prim = of_token t (span_in t node) (out-Raw node).first
with_none t node _ = give unknown_place []

-- behind one operand; the member's name stands behind the operator
unfoldable pub suffixed : Text → Raw → Option Suffix → Found → Judge Found
suffixed t node (Some (suffix.Access access.Dot)) a = dotted (span_in t node) (spot_in t (member_in_text t node)) (option_and_then (name_of t) (member_in_text t node)) a
suffixed t node (Some (suffix.Access access.Arrow)) a = arrowed (span_in t node) (spot_in t (member_in_text t node)) (option_and_then (name_of t) (member_in_text t node)) a
suffixed t node (Some (suffix.Step s)) a = anywhere (stepped (span_in t node) s true a)
suffixed t node _ a = give unknown_place []

-- of one part: an expression in parentheses, or an operator and its operand
unfoldable pub with_one : Text → Raw → Rule → Found → Judge Found
with_one t node rule.Prim a = give (grouped (span_in t node) a) []
with_one t node rule.Postfix a = suffixed t node (suffix_in t node) a
with_one t node rule.Unary a = prefixed (span_in t node) (prefix_in t node) a
with_one t node _ a = give unknown_place []

unfoldable pub element : Span → Span → Option Suffix → Found → Found → Judge Found
element span at (Some suffix.Index) a b = indexed span at a b
element span at _ a b = give unknown_place []

-- of two parts, of which `at` covers the first
unfoldable pub with_two : Text → Raw → Rule → Span → Found → Found → Judge Found
with_two t node rule.Postfix at a b = element (span_in t node) at (suffix_in t node) a b
with_two t node (rule.Binary level) at a b = anywhere (between (span_in t node) (binary_operator t.source.now t.tokens.now node) a b)
with_two t node rule.Assign at a b = anywhere (assigned (span_in t node) (assign_operator t.source.now t.tokens.now node) a b)
with_two t node rule.Comma at a b = anywhere (sequenced (span_in t node) a b)
with_two t node _ at a b = give unknown_place []

-- of three parts
unfoldable pub with_three : Text → Raw → Rule → Found → Found → Found → Told Found
with_three t node rule.Cond test a b = chosen (span_in t node) test a b
with_three t node _ test a b = told unknown_place []

abbrev pub operand : Bool → Role → Judge Found
operand true p = value p
operand false p = p.found

-- by what its parts are found to be, from left to right
unfoldable pub by_parts : Text → Raw → Rule → List Role → Judge Found
by_parts t node r [] = with_none t node r
by_parts t node r (a ∷ []) = and_then (operand (takes_value t node r) a) (with_one t node r)
by_parts t node r (a ∷ b ∷ []) = and_then (operand (takes_value t node r) a) (λ x. and_then (value b) (with_two t node r a.span x))
by_parts t node r (a ∷ b ∷ c ∷ []) = and_then (value a) (λ x. and_then (value b) (λ y. and_then (value c) (λ z. anywhere (with_three t node r x y z))))
by_parts t node r _ = give unknown_place []

-- a cast: the type, and the operand behind it
unfoldable pub casted : Text → Raw → List Role → Judge Found
casted t node (specs ∷ a ∷ []) = and_then (specs.specified false) (λ ty. and_then (value a) (λ v. anywhere (cast_to (span_in t node) (has_stars t node) ty v)))
casted t node _ = give unknown_place []

abbrev pub is_call : Option Suffix → Bool
is_call (Some suffix.Call) = true
is_call _ = false

unfoldable pub found_of : Text → Raw → Rule → List Role → Judge Found
found_of t node rule.Cast parts = casted t node parts
found_of t node rule.Postfix parts = cond (is_call (suffix_in t node)) (called t (span_in t node) parts) (by_parts t node rule.Postfix parts)
found_of t node r parts = by_parts t node r parts

-- declarations ---------------------------------------------------------------

unfoldable pub declared_of : Text → Raw → List Role → Option Ty → Judge Declared
declared_of t node parts = declared_by (span_in t node) (spot_in t (declarator_name t.tokens.now node))
    (option_and_then (name_of t) (declarator_name t.tokens.now node)) (star_words t.source.now t.tokens.now (out-Raw node).first (out-Raw node).end) parts

-- nodes ------------------------------------------------------------------------

-- a part that breaks a rule by itself is told without the parentheses around it
abbrev pub inner_of : Span → Rule → List Role → Span
inner_of span rule.Prim (p ∷ []) = p.inner
inner_of span r ps = span

-- a node by its parts
abbrev pub role_of : Text → Raw → List Role → Role
role_of t node parts = record {
  span = span_in t node;
  inner = inner_of (span_in t node) (out-Raw node).rule parts;
  alone = alone_in node;
  found = found_of t node (out-Raw node).rule parts;
  constant = piece_in t.source.now t.tokens.now t.texts.now.constants.items node;
  specified = specified_by (span_in t node) (specifier_words t.source.now t.tokens.now node) parts;
  struct = struct_by (spot_in t (struct_name t.tokens.now node)) (option_and_then (name_of t) (struct_name t.tokens.now node)) parts;
  member = member_by parts;
  declared = declared_of t node parts;
}

-- each node, by its parts all the way down
unfoldable pub judged : Text → Raw → Role
judged t = by_nodes (role_of t)
