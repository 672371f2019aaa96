-- What each node that is an expression makes: at most seven times as much as its size.
use Rattle.std.proofs.Common.{ℕ, ◌+◌, ◌*◌, ◌≤◌, List, [], ◌∷◌, map, Bool, true, false, cond, sym, subst, arith}
use Rattle.std.specs.Prelude.{Option, Some, None, option_and_then}
use Rattle.xc_text_place.specs.declared.Span.{Span}
use Rattle.xc_lex.specs.declared.number.Number.{Number}
use Rattle.xc_raw.specs.declared.rule.Rule.{Rule}
use Rattle.xc_raw.specs.declared.rule.Rule.TheVariants as rule
use Rattle.xc_raw.specs.declared.tree.Raw.{Raw, out-Raw}
use Rattle.xc_raw.specs.declared.word.Word.{Word}
use Rattle.xc_raw.specs.declared.word.Word.TheVariants as word
use Rattle.xc_raw.specs.declared.word.Literal.TheVariants as literal
use Rattle.xc_raw.specs.declared.word.Access.TheVariants as access
use Rattle.xc_raw_parts.specs.declared.operators.Operator.{Operator}
use Rattle.xc_raw_parts.specs.declared.operators.Operator.TheVariants as operator
use Rattle.xc_raw_parts.specs.declared.operators.Assignment.{Assignment}
use Rattle.xc_raw_parts.specs.declared.operators.Assignment.TheVariants as assignment
use Rattle.xc_raw_parts.specs.declared.operators.Prefix.{Prefix}
use Rattle.xc_raw_parts.specs.declared.operators.Prefix.TheVariants as prefix
use Rattle.xc_raw_parts.specs.declared.operators.Suffix.{Suffix}
use Rattle.xc_raw_parts.specs.declared.operators.Suffix.TheVariants as suffix
use Rattle.xc_raw_parts.specs.Operators.{binary_operator, assign_operator, step_op}
use Rattle.xc_raw_parts.specs.Spans.{word_at}
use Rattle.xc_type_literals.specs.Constants.{constant_at}
use Rattle.xc_type_names.specs.Numbered.{reserved_of}
use Rattle.xc_type_rule.specs.declared.found.Found.{Found}
use Rattle.xc_type_rule_operators.specs.declared.logic.Logic.TheVariants as logic
use Rattle.xc_type_rule_calls.specs.declared.print.Text.{Text as Printed}
use Rattle.xc_type_scopes.specs.Judge.{each}
use Rattle.xc_type_expressions.specs.declared.text.Text.{Text}
use Rattle.xc_type_expressions.specs.Roles.{Role, value, values}
use Rattle.xc_type_expressions.specs.Places.{name_of, constant, of_word}
use Rattle.xc_type_expressions.specs.Operations.{prefixed, cast_to, between, assigned}
use Rattle.xc_type_expressions.specs.Calls.{named_by, format_of, applied_by, applied, called_by, called}
use Rattle.xc_type_expressions.specs.Judged.{span_in, spot_in, member_in_text, has_stars, prefix_in, suffix_in, takes_value, with_none, suffixed, with_one, element, with_two, with_three, operand, by_parts, casted, is_call, found_of, judged}
use Rattle.xc_welltyped_claims.specs.Lists.{Each}
use Rattle.xc_welltyped_claims.proofs.Nodes as nodes
use Rattle.xc_welltyped_claims.proofs.Nodes.{judged_is}
use Rattle.xc_welltyped_counts.proofs.Roles.{cost, costs, parts_less}
use Rattle.xc_welltyped_sizes.specs.Made.{found_nodes, Makes}
use Rattle.xc_welltyped_sizes.proofs.Values.{rvalue_most}
use Rattle.xc_welltyped_sizes.proofs.Operators as ops
use Rattle.xc_welltyped_sizes.proofs.Places.{named_most, index_most, star_most, address_most, dotted_most, arrowed_most}
use Rattle.xc_welltyped_sizes.proofs.Calls.{all_nodes, printing_most, calling_most}

module _ (t : Text) where
  -- what is left over lets the expression be taken as a value and as an index
  abbrev Known : Raw → Type 0
  Known n = Makes (λ f. found_nodes f + 5) (7 * cost t n) (judged t n).found

  abbrev roles : List Raw → List Role
  roles ns = map (judged t) ns

  value_of : (n : Raw) → Known n → Makes (λ f. found_nodes f + 3) (7 * cost t n) (value (judged t n))
  unfolding value
  value_of n p e =
      let f = (judged t n).found e in
      omega (arith, p e, rvalue_most f.env.structs.sizes (judged t n).span f.part)

  values_of : (ns : List Raw) → Each Known ns → Makes all_nodes (7 * costs t ns) (values (roles ns))
  unfolding each
  values_of [] p e = omega arith
  values_of (n ∷ ns) p e =
      let v = value (judged t n) e in
      omega (arith, value_of n p.0 e, values_of ns p.1 v.env)

  operand_most : (n : Raw) (b : Bool) → Known n → Makes (λ f. found_nodes f + 3) (7 * cost t n) (operand b (judged t n))
  operand_most n true p e = value_of n p e
  operand_most n false p e = omega (arith, p e)

  -- one token ----------------------------------------------------------------------

  constant_most : (span : Span) (n : Option Number) → found_nodes (constant span n).part ≤ 1
  constant_most span None = omega arith
  constant_most span (Some n) = ops.number_most span n.value n.unsigned

  word_most : (span : Span) (token : ℕ) (w : Word) → Makes found_nodes 1 (of_word t span token w)
  unfolding of_word
  word_most span token word.Name e = named_most span (name_of t token) e
  word_most span token (word.Literal literal.Number) e = constant_most span (constant_at t.texts.now.constants.items token)
  word_most span token _ e = omega arith

  none_most : (node : Raw) (r : Rule) → Makes found_nodes 1 (with_none t node r)
  unfolding with_none
  none_most node rule.Prim e = word_most (span_in t node) (out-Raw node).first (word_at t.source.now t.tokens.now (out-Raw node).first) e
  none_most node _ e = omega arith

  -- one operand --------------------------------------------------------------------

  prefixed_most : (span : Span) (o : Option Prefix) (a : Found) → Makes found_nodes (found_nodes a + 2) (prefixed span o a)
  unfolding prefixed
  prefixed_most span None a e = omega arith
  prefixed_most span (Some (prefix.Step s)) a e = ops.step_most span (step_op s) false a
  prefixed_most span (Some prefix.Address) a e = omega (arith, address_most span a)
  prefixed_most span (Some prefix.Star) a e = star_most span e.structs.sizes a
  prefixed_most span (Some prefix.Plus) a e = omega (arith, ops.plus_most span a)
  prefixed_most span (Some (prefix.Value o)) a e = omega (arith, ops.unary_most span o a)

  suffixed_most : (node : Raw) (o : Option Suffix) (a : Found) → Makes found_nodes (found_nodes a + 2) (suffixed t node o a)
  unfolding suffixed
  suffixed_most node (Some (suffix.Access access.Dot)) a e = omega (arith, dotted_most (span_in t node) (spot_in t (member_in_text t node)) (option_and_then (name_of t) (member_in_text t node)) a e)
  suffixed_most node (Some (suffix.Access access.Arrow)) a e = omega (arith, arrowed_most (span_in t node) (spot_in t (member_in_text t node)) (option_and_then (name_of t) (member_in_text t node)) a e)
  suffixed_most node (Some (suffix.Step s)) a e = ops.step_most (span_in t node) (step_op s) true a
  suffixed_most node _ a e = omega arith

  one_most : (node : Raw) (r : Rule) (a : Found) → Makes found_nodes (found_nodes a + 2) (with_one t node r a)
  unfolding with_one
  one_most node rule.Prim a e = omega (arith, ops.grouped_most (span_in t node) a)
  one_most node rule.Postfix a e = suffixed_most node (suffix_in t node) a e
  one_most node rule.Unary a e = prefixed_most (span_in t node) (prefix_in t node) a e
  one_most node _ a e = omega arith

  -- two and three operands -----------------------------------------------------------

  element_most : (span at : Span) (o : Option Suffix) (a b : Found) → Makes found_nodes (found_nodes a + found_nodes b + 3) (element span at o a b)
  unfolding element
  element_most span at (Some suffix.Index) a b e = index_most span e.structs.sizes at a b
  element_most span at _ a b e = omega arith

  between_most : (span : Span) (o : Option Operator) (a b : Found) → found_nodes (between span o a b).part ≤ found_nodes a + found_nodes b + 1
  unfolding between
  between_most span None a b = omega arith
  between_most span (Some (operator.Value o)) a b = ops.binary_most span o a b
  between_most span (Some operator.And) a b = ops.logical_most span logic.And a b
  between_most span (Some operator.Or) a b = ops.logical_most span logic.Or a b

  assigned_most : (span : Span) (o : Option Assignment) (a b : Found) → found_nodes (assigned span o a b).part ≤ found_nodes a + found_nodes b + 1
  unfolding assigned
  assigned_most span None a b = omega arith
  assigned_most span (Some assignment.Plain) a b = ops.assign_most span a b
  assigned_most span (Some (assignment.With o)) a b = ops.update_most span o false a b

  two_most : (node : Raw) (r : Rule) (at : Span) (a b : Found) → Makes found_nodes (found_nodes a + found_nodes b + 3) (with_two t node r at a b)
  unfolding with_two
  two_most node rule.Postfix at a b e = element_most (span_in t node) at (suffix_in t node) a b e
  two_most node (rule.Binary level) at a b e = omega (arith, between_most (span_in t node) (binary_operator t.source.now t.tokens.now node) a b)
  two_most node rule.Assign at a b e = omega (arith, assigned_most (span_in t node) (assign_operator t.source.now t.tokens.now node) a b)
  two_most node rule.Comma at a b e = omega (arith, ops.comma_most (span_in t node) a b)
  two_most node _ at a b e = omega arith

  three_most : (node : Raw) (r : Rule) (c a b : Found) → found_nodes (with_three t node r c a b).part ≤ found_nodes c + found_nodes a + found_nodes b + 1
  unfolding with_three
  three_most node rule.Cond c a b = ops.conditional_most (span_in t node) c a b
  three_most node _ c a b = omega arith

  cast_most : (span : Span) (stars : Bool) (ty : _) (a : Found) → found_nodes (cast_to span stars ty a).part ≤ found_nodes a + 1
  cast_most span false ty a = ops.cast_most span ty a
  cast_most span true ty a = omega arith

  -- nodes --------------------------------------------------------------------------

  parts_most : (node : Raw) (r : Rule) (ns : List Raw) → Each Known ns → Makes found_nodes (7 * costs t ns + 2) (by_parts t node r (roles ns))
  unfolding by_parts
  parts_most node r [] p e = omega (arith, none_most node r e)
  parts_most node r (a ∷ []) p e =
      let x = operand (takes_value t node r) (judged t a) e in
      omega (arith, operand_most a (takes_value t node r) p.0 e, one_most node r x.part x.env)
  parts_most node r (a ∷ b ∷ []) p e =
      let x = operand (takes_value t node r) (judged t a) e in
      let y = value (judged t b) x.env in
      omega (arith, operand_most a (takes_value t node r) p.0 e, value_of b p.1.0 x.env, two_most node r (judged t a).span x.part y.part y.env)
  parts_most node r (a ∷ b ∷ c ∷ []) p e =
      let x = value (judged t a) e in
      let y = value (judged t b) x.env in
      let z = value (judged t c) y.env in
      omega (arith, value_of a p.0 e, value_of b p.1.0 x.env, value_of c p.1.1.0 y.env, three_most node r x.part y.part z.part)
  parts_most node r (a ∷ b ∷ c ∷ d ∷ ns) p e = omega arith

  casted_most : (node : Raw) (ns : List Raw) → Each Known ns → Makes found_nodes (7 * costs t ns + 2) (casted t node (roles ns))
  unfolding casted
  casted_most node [] p e = omega arith
  casted_most node (s ∷ []) p e = omega arith
  casted_most node (s ∷ a ∷ []) p e =
      let ty = (judged t s).specified false e in
      let v = value (judged t a) ty.env in
      omega (arith, value_of a p.1.0 ty.env, cast_most (span_in t node) (has_stars t node) ty.part v.part)
  casted_most node (s ∷ a ∷ b ∷ ns) p e = omega arith

  applied_by_most : (span : Span) (f : Raw) (args : List Raw) (o : Option ℕ) → Each Known args → Makes found_nodes (7 * costs t args + 1) (applied_by span (judged t f) (roles args) o)
  applied_by_most span f args None p e = omega arith
  applied_by_most span f args (Some name) p e =
      let vs = values (roles args) e in
      omega (arith, values_of args p e, calling_most span (judged t f).span name (reserved_of name) vs.part vs.env)

  applied_most : (span : Span) (ns : List Raw) → Each Known ns → Makes found_nodes (7 * costs t ns + 1) (applied t span (roles ns))
  unfolding applied
  applied_most span [] p e = omega arith
  applied_most span (f ∷ args) p e = omega (arith, applied_by_most span f args (named_by t (judged t f)) p.1 e)

  called_by_most : (span : Span) (f a : Raw) (rest : List Raw) (o : Option Printed) → Each Known (f ∷ a ∷ rest) → Makes found_nodes (7 * costs t (f ∷ a ∷ rest) + 1) (called_by t span (roles (f ∷ a ∷ rest)) (roles rest) o)
  called_by_most span f a rest None p e = applied_most span (f ∷ a ∷ rest) p e
  called_by_most span f a rest (Some text) p e =
      let vs = values (roles rest) e in
      omega (arith, values_of rest p.1.1 e, printing_most span text (map (λ r. r.span) (roles rest)) vs.part vs.env)

  called_most : (span : Span) (ns : List Raw) → Each Known ns → Makes found_nodes (7 * costs t ns + 1) (called t span (roles ns))
  unfolding called
  called_most span [] p e = applied_most span [] p e
  called_most span (f ∷ []) p e = applied_most span (f ∷ []) p e
  called_most span (f ∷ a ∷ rest) p e = called_by_most span f a rest (format_of t (judged t f) (judged t a)) p e

  postfix_most : (node : Raw) (b : Bool) (ns : List Raw) → Each Known ns → Makes found_nodes (7 * costs t ns + 2) (cond b (called t (span_in t node) (roles ns)) (by_parts t node rule.Postfix (roles ns)))
  postfix_most node true ns p e = omega (arith, called_most (span_in t node) ns p e)
  postfix_most node false ns p e = parts_most node rule.Postfix ns p e

  found_most : (node : Raw) (r : Rule) (ns : List Raw) → Each Known ns → Makes found_nodes (7 * costs t ns + 2) (found_of t node r (roles ns))
  unfolding found_of
  found_most node rule.Cast ns p e = casted_most node ns p e
  found_most node rule.Postfix ns p e = postfix_most node (is_call (suffix_in t node)) ns p e
  found_most node r ns p e = parts_most node r ns p e

  node_known : (node : Raw) → Known node
  node_known = nodes.by_parts Known (λ n p. subst (λ (r : Role). Makes (λ f. found_nodes f + 5) (7 * cost t n) r.found) (sym (judged_is t n))
      (λ e. omega (arith, parts_less t n, found_most n (out-Raw n).rule (out-Raw n).parts p e)))

  pub value_most : (node : Raw) → Makes (λ f. found_nodes f + 3) (7 * cost t node) (value (judged t node))
  value_most node e = value_of node (node_known node) e
