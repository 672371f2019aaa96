-- What expressions, specifiers, structs and declarators declare.
use Rattle.std.proofs.Common.{◌≡◌, ℕ, ◌+◌, ◌≤◌, List, [], ◌∷◌, map, length-append, length-set, Bool, true, false, refl, sym, ap, subst, cond, arith}
use Rattle.std.specs.Prelude.{option_and_then, Option, Some, None}
use Rattle.xc_text_place.specs.declared.Span.{Span}
use Rattle.xc_tree.specs.declared.ty.Ty.{Ty}
use Rattle.xc_raw.specs.declared.rule.Rule.{Rule}
use Rattle.xc_raw.specs.declared.rule.Rule.TheVariants as rule
use Rattle.xc_raw.specs.declared.tree.Raw.{Raw, out-Raw}
use Rattle.xc_raw.specs.declared.word.Word.{Word}
use Rattle.xc_raw.specs.declared.word.Word.TheVariants as word
use Rattle.xc_raw.specs.declared.word.Literal.TheVariants as literal
use Rattle.xc_raw.specs.declared.word.Access.TheVariants as access
use Rattle.xc_type_rule.specs.declared.found.Found.{Found}
use Rattle.xc_type_rule.specs.Least.{type_fault}
use Rattle.xc_type_rule.specs.Making.{unknown_place}
use Rattle.xc_type_rule_places.specs.Places.{name_part, name_faults}
use Rattle.xc_type_names.specs.declared.numbers.Reserved.{Reserved}
use Rattle.xc_type_names.specs.Numbered.{reserved_of}
use Rattle.xc_type_names.specs.Scoped.{has_none, declared_in}
use Rattle.xc_raw_parts.specs.declared.operators.Prefix.{Prefix}
use Rattle.xc_raw_parts.specs.declared.operators.Prefix.TheVariants as prefix
use Rattle.xc_raw_parts.specs.declared.operators.Suffix.{Suffix}
use Rattle.xc_raw_parts.specs.declared.operators.Suffix.TheVariants as suffix
use Rattle.xc_raw_parts.specs.Words.{specifier_words}
use Rattle.xc_raw_parts.specs.Spans.{word_at}
use Rattle.xc_raw_parts.specs.Names.{struct_name}
use Rattle.xc_type_rule_calls.specs.declared.print.Text.{Text as Printed}
use Rattle.xc_type_scopes.specs.declared.env.Env.{Env}
use Rattle.xc_type_scopes.specs.Env.{found, tagged, with_address, with_tag, in_struct, after_struct}
use Rattle.xc_type_scopes.specs.Judge.{Judged, Judge, give, each}
use Rattle.xc_type_expressions.specs.declared.text.Text.{Text}
use Rattle.xc_type_expressions.specs.Roles.{Role, value, values}
use Rattle.xc_type_expressions.specs.Places.{name_of, named, of_word, is_reserved}
use Rattle.xc_type_expressions.specs.Operations.{prefixed}
use Rattle.xc_type_expressions.specs.Calls.{printing, calling, applied_by, applied, called_by, called, named_by, format_of}
use Rattle.xc_type_expressions.specs.Types.{specified_by, members, struct_named, struct_by, the_next, struct_begun, member_with, declared_member, member_by, bound_by, bounds, declared_by}
use Rattle.xc_type_expressions.specs.Judged.{with_none, suffixed, with_one, element, with_two, operand, takes_value, by_parts, casted, is_call, suffix_in, found_of, declared_of, span_in, spot_in, prefix_in, role_of, judged}
use Rattle.xc_welltyped_claims.specs.Lists.{Each}
use Rattle.xc_welltyped_claims.proofs.Nodes as nodes
use Rattle.xc_welltyped_claims.proofs.Nodes.{judged_is}
use Rattle.xc_welltyped_counts.specs.Sizes.{own_tokens, size, sizes}
use Rattle.xc_welltyped_counts.specs.Costs.{held, Costs, RoleCosts}
use Rattle.xc_welltyped_counts.proofs.Sizes.{size_is}

-- what declares nothing
pub keeps : (n : ℕ) (e : Env) → held e ≤ held e + n
keeps n e = omega arith

pub costs_less : {A : Type 0} (n m : ℕ) (j : Judge A) → n ≤ m → Costs n j → Costs m j
costs_less n m j le c e = omega (arith, le, c e)

-- parts -------------------------------------------------------------------------

pub costs_value : (n : ℕ) (r : Role) → Costs n r.found → Costs n (value r)
unfolding value
costs_value n r c e = c e

-- one of two that declare nothing
one_keeps : {A : Type 0} (b : Bool) (x y : Judged A) (e : Env) → x.env ≡ e → y.env ≡ e → held (cond b x y).env ≤ held e + 0
one_keeps true x y e f g = let same = ap held f in omega (arith, same)
one_keeps false x y e f g = let same = ap held g in omega (arith, same)

-- expressions -----------------------------------------------------------------------

pub costs_named : (span : Span) (o : Option ℕ) → Costs 0 (named span o)
unfolding named
costs_named span None = keeps 0
costs_named span (Some name) = λ e. one_keeps (is_reserved name) (give unknown_place (type_fault span) e)
    (give (name_part span (found name e)) (name_faults span (found name e)) e) e refl refl

costs_word : (t : Text) (span : Span) (token : ℕ) (w : Word) → Costs 0 (of_word t span token w)
unfolding of_word
costs_word t span token word.Name = costs_named span (name_of t token)
costs_word t span token (word.Literal literal.Number) = keeps 0
costs_word t span token _ = keeps 0

costs_none : (t : Text) (node : Raw) (r : Rule) → Costs 0 (with_none t node r)
unfolding with_none
costs_none t node rule.Prim = costs_word t (span_in t node) (out-Raw node).first (word_at t.source.now t.tokens.now (out-Raw node).first)
costs_none t node _ = keeps 0

costs_suffixed : (t : Text) (node : Raw) (s : Option Suffix) (a : Found) → Costs 0 (suffixed t node s a)
unfolding suffixed
costs_suffixed t node (Some (suffix.Access access.Dot)) a = keeps 0
costs_suffixed t node (Some (suffix.Access access.Arrow)) a = keeps 0
costs_suffixed t node (Some (suffix.Step s)) a = keeps 0
costs_suffixed t node _ a = keeps 0

costs_prefixed : (span : Span) (o : Option Prefix) (a : Found) → Costs 0 (prefixed span o a)
unfolding prefixed with_address
costs_prefixed span None a = keeps 0
costs_prefixed span (Some (prefix.Step s)) a = keeps 0
costs_prefixed span (Some prefix.Address) a = keeps 0
costs_prefixed span (Some prefix.Star) a = keeps 0
costs_prefixed span (Some prefix.Plus) a = keeps 0
costs_prefixed span (Some (prefix.Value o)) a = keeps 0

costs_one : (t : Text) (node : Raw) (r : Rule) (a : Found) → Costs 0 (with_one t node r a)
unfolding with_one
costs_one t node rule.Prim a = keeps 0
costs_one t node rule.Postfix a = costs_suffixed t node (suffix_in t node) a
costs_one t node rule.Unary a = costs_prefixed (span_in t node) (prefix_in t node) a
costs_one t node _ a = keeps 0

costs_element : (span at : Span) (s : Option Suffix) (a b : Found) → Costs 0 (element span at s a b)
unfolding element
costs_element span at (Some suffix.Index) a b = keeps 0
costs_element span at _ a b = keeps 0

costs_two : (t : Text) (node : Raw) (r : Rule) (at : Span) (a b : Found) → Costs 0 (with_two t node r at a b)
unfolding with_two
costs_two t node rule.Postfix at a b = costs_element (span_in t node) at (suffix_in t node) a b
costs_two t node (rule.Binary level) at a b = keeps 0
costs_two t node rule.Assign at a b = keeps 0
costs_two t node rule.Comma at a b = keeps 0
costs_two t node _ at a b = keeps 0

costs_operand : (b : Bool) (n : ℕ) (r : Role) → RoleCosts n r → Costs n (operand b r)
costs_operand true n r p = costs_value n r p.found
costs_operand false n r p = p.found

costs_printing : (span : Span) (text : Printed) (spans : List Span) (vs : List Found) → Costs 0 (printing span text spans vs)
costs_printing span text spans vs = keeps 0

costs_calling : (span at : Span) (name : ℕ) (r : Option Reserved) (vs : List Found) → Costs 0 (calling span at name r vs)
unfolding calling
costs_calling span at name None vs = keeps 0
costs_calling span at name (Some r) vs = keeps 0

-- structs ---------------------------------------------------------------------------

tag_keeps : (name number : ℕ) (e : Env) → held (with_tag name number e) ≡ held e
tag_keeps name number e = by (has_none e.own_tags)
  where
    by : (b : Bool) → held (cond b (record e { file_tags = declared_in name number e.file_tags }) (record e { own_tags = declared_in name number e.own_tags })) ≡ held e
    by true = refl
    by false = refl

opened_held : (e : Env) → held (in_struct e) ≡ held e + 1
opened_held e = let many = length-append e.structs.members ([] ∷ []) in omega (arith, many)

closed_held : (e inner : Env) (number : ℕ) → held (after_struct number e.layout inner) ≡ held inner
closed_held e inner number = let many = length-set inner.structs.members number inner.layout.members in omega (arith, many)

costs_struct_named : (at : Span) (o : Option ℕ) → Costs 1 (struct_named at o)
costs_struct_named at None e = let many = length-append e.structs.members ([] ∷ []) in omega (arith, many)
costs_struct_named at (Some number) e = keeps 1 e

costs_member_with : (at : Span) (ty : Option Ty) (o : Option ℕ) → Costs 0 (member_with at ty o)
costs_member_with at ty None = keeps 0
costs_member_with at ty (Some name) = keeps 0

costs_declared_member : (ty : Option Ty) (n : ℕ) (d : Role) → RoleCosts n d → Costs n (declared_member ty d)
unfolding declared_member
costs_declared_member ty n d p e =
    let x = d.declared ty e in
    omega (arith, p.declared ty e, costs_member_with x.part.at x.part.ty x.part.name x.env)

costs_bound : (n : ℕ) (r : Role) → RoleCosts n r → Costs n (bound_by r)
unfolding bound_by
costs_bound n r p e = costs_value n r p.found e

-- nodes one behind another --------------------------------------------------------------

module _ (t : Text) where
  abbrev pub cost : Raw → ℕ
  cost = size t.tokens.now

  abbrev pub costs : List Raw → ℕ
  costs = sizes t.tokens.now

  -- what a node costs is known
  abbrev pub Known : Raw → Type 0
  Known n = RoleCosts (cost n) (judged t n)

  abbrev roles : List Raw → List Role
  roles ns = map (judged t) ns

  pub costs_each : {A : Type 0} (g : Role → Judge A) → ((n : ℕ) (r : Role) → RoleCosts n r → Costs n (g r)) → (ns : List Raw) → Each Known ns → Costs (costs ns) (each (map g (roles ns)))
  unfolding each
  costs_each g h [] p e = keeps 0 e
  costs_each g h (n ∷ ns) p e = omega (arith, h (cost n) (judged t n) p.0 e, costs_each g h ns p.1 (g (judged t n) e).env)

  costs_values : (ns : List Raw) → Each Known ns → Costs (costs ns) (values (roles ns))
  costs_values ns p = costs_each value (λ n r q. costs_value n r q.found) ns p

  costs_parts : (node : Raw) (r : Rule) (ns : List Raw) → Each Known ns → Costs (costs ns) (by_parts t node r (roles ns))
  unfolding by_parts
  costs_parts node r [] p e = costs_none t node r e
  costs_parts node r (a ∷ []) p e =
      let b = takes_value t node r in
      let x = operand b (judged t a) e in
      omega (arith, costs_operand b (cost a) (judged t a) p.0 e, costs_one t node r x.part x.env)
  costs_parts node r (a ∷ b ∷ []) p e =
      let takes = takes_value t node r in
      let x = operand takes (judged t a) e in
      let y = value (judged t b) x.env in
      omega (arith, costs_operand takes (cost a) (judged t a) p.0 e, costs_value (cost b) (judged t b) p.1.0.found x.env, costs_two t node r (judged t a).span x.part y.part y.env)
  costs_parts node r (a ∷ b ∷ c ∷ []) p e =
      let x = value (judged t a) e in
      let y = value (judged t b) x.env in
      omega (arith, costs_value (cost a) (judged t a) p.0.found e, costs_value (cost b) (judged t b) p.1.0.found x.env, costs_value (cost c) (judged t c) p.1.1.0.found y.env)
  costs_parts node r (a ∷ b ∷ c ∷ d ∷ ns) p e = keeps (costs (a ∷ b ∷ c ∷ d ∷ ns)) e

  costs_casted : (node : Raw) (ns : List Raw) → Each Known ns → Costs (costs ns) (casted t node (roles ns))
  unfolding casted
  costs_casted node [] p e = keeps 0 e
  costs_casted node (s ∷ []) p e = keeps (costs (s ∷ [])) e
  costs_casted node (s ∷ a ∷ []) p e = omega (arith, p.0.specified false e, costs_value (cost a) (judged t a) p.1.0.found ((judged t s).specified false e).env)
  costs_casted node (s ∷ a ∷ b ∷ ns) p e = keeps (costs (s ∷ a ∷ b ∷ ns)) e

  -- calls -----------------------------------------------------------------------------

  costs_applied_by : (span : Span) (f : Raw) (args : List Raw) (o : Option ℕ) → Known f → Each Known args → Costs (cost f + costs args) (applied_by span (judged t f) (roles args) o)
  costs_applied_by span f args None p q e = omega (arith, p.found e, costs_values args q ((judged t f).found e).env)
  costs_applied_by span f args (Some name) p q e =
      let vs = values (roles args) e in
      omega (arith, costs_values args q e, costs_calling span (judged t f).span name (reserved_of name) vs.part vs.env)

  costs_applied : (span : Span) (ns : List Raw) → Each Known ns → Costs (costs ns) (applied t span (roles ns))
  unfolding applied
  costs_applied span [] p = keeps 0
  costs_applied span (f ∷ args) p = costs_applied_by span f args (named_by t (judged t f)) p.0 p.1

  costs_called_by : (span : Span) (f a : Raw) (rest : List Raw) (o : Option Printed) → Each Known (f ∷ a ∷ rest) → Costs (costs (f ∷ a ∷ rest)) (called_by t span (roles (f ∷ a ∷ rest)) (roles rest) o)
  costs_called_by span f a rest None p e = costs_applied span (f ∷ a ∷ rest) p e
  costs_called_by span f a rest (Some text) p e =
      let vs = values (roles rest) e in
      omega (arith, costs_values rest p.1.1 e, costs_printing span text (map (λ r. r.span) (roles rest)) vs.part vs.env)

  costs_called : (span : Span) (ns : List Raw) → Each Known ns → Costs (costs ns) (called t span (roles ns))
  unfolding called
  costs_called span [] p = costs_applied span [] p
  costs_called span (f ∷ []) p = costs_applied span (f ∷ []) p
  costs_called span (f ∷ a ∷ rest) p = costs_called_by span f a rest (format_of t (judged t f) (judged t a)) p

  costs_postfix : (node : Raw) (b : Bool) (ns : List Raw) → Each Known ns → Costs (costs ns) (cond b (called t (span_in t node) (roles ns)) (by_parts t node rule.Postfix (roles ns)))
  costs_postfix node true ns p = costs_called (span_in t node) ns p
  costs_postfix node false ns p = costs_parts node rule.Postfix ns p

  costs_found : (node : Raw) (r : Rule) (ns : List Raw) → Each Known ns → Costs (costs ns) (found_of t node r (roles ns))
  unfolding found_of
  costs_found node rule.Cast ns p = costs_casted node ns p
  costs_found node rule.Postfix ns p = costs_postfix node (is_call (suffix_in t node)) ns p
  costs_found node r ns p = costs_parts node r ns p

  -- declarations ------------------------------------------------------------------------

  costs_specified : (span : Span) (ws : List Word) (ns : List Raw) (outermost : Bool) → Each Known ns → Costs (costs ns) (specified_by span ws (roles ns) outermost)
  unfolding specified_by
  costs_specified span ws ns outermost p = costs_each (λ r. r.struct) (λ n r q. q.struct) ns p

  costs_members : (ns : List Raw) → Each Known ns → Costs (costs ns) (members (roles ns))
  costs_members ns p = costs_each (λ r. r.member) (λ n r q. q.member) ns p

  costs_struct : (at : Span) (o : Option ℕ) (ns : List Raw) → Each Known ns → Costs (1 + costs ns) (struct_by at o (roles ns))
  unfolding struct_by
  costs_struct at None ns p e = keeps (1 + costs ns) e
  costs_struct at (Some name) [] p e = costs_struct_named at (tagged name e) e
  costs_struct at (Some name) (m ∷ ms) p e =
      let begun = struct_begun name e in
      let inner = members (roles (m ∷ ms)) begun in
      omega (arith, costs_members (m ∷ ms) p begun, tag_keeps name (the_next e) (in_struct e), opened_held e, closed_held e inner.env (the_next e))

  costs_member : (ns : List Raw) → Each Known ns → Costs (costs ns) (member_by (roles ns))
  unfolding member_by
  costs_member [] p e = keeps 0 e
  costs_member (s ∷ ds) p e =
      let ty = (judged t s).specified false e in
      omega (arith, p.0.specified false e, costs_each (declared_member ty.part) (costs_declared_member ty.part) ds p.1 ty.env)

  pub costs_bounds : (ns : List Raw) → Each Known ns → Costs (costs ns) (bounds (roles ns))
  costs_bounds ns p = costs_each bound_by costs_bound ns p

  costs_declared : (node : Raw) (ns : List Raw) (base : Option Ty) → Each Known ns → Costs (costs ns) (declared_of t node (roles ns) base)
  unfolding declared_of declared_by
  costs_declared node ns base p e = costs_bounds ns p e

  -- nodes -----------------------------------------------------------------------------------

  role_costs : (node : Raw) → Each Known (out-Raw node).parts → RoleCosts (1 + own_tokens t.tokens.now node + costs (out-Raw node).parts) (role_of t node (roles (out-Raw node).parts))
  role_costs node p =
      let ns = (out-Raw node).parts in
      record {
        found = λ e. omega (arith, costs_found node (out-Raw node).rule ns p e);
        specified = λ outermost e. omega (arith, costs_specified (span_in t node) (specifier_words t.source.now t.tokens.now node) ns outermost p e);
        struct = λ e. omega (arith, costs_struct (spot_in t (struct_name t.tokens.now node)) (option_and_then (name_of t) (struct_name t.tokens.now node)) ns p e);
        member = λ e. omega (arith, costs_member ns p e);
        declared = λ base e. omega (arith, costs_declared node ns base p e);
      }

  pub role_known : (node : Raw) → Known node
  role_known = nodes.by_parts Known (λ n p. subst (λ k. RoleCosts k (judged t n)) (sym (size_is t.tokens.now n))
      (subst (RoleCosts (1 + own_tokens t.tokens.now n + costs (out-Raw n).parts)) (sym (judged_is t n)) (role_costs n p)))

  pub all_known : (ns : List Raw) → Each Known ns
  all_known [] = tt
  all_known (n ∷ ns) = (role_known n, all_known ns)

  pub value_costs : (n : Raw) → Costs (cost n) (value (judged t n))
  value_costs n = costs_value (cost n) (judged t n) (role_known n).found

  -- the parts of a node cost less than the node
  pub parts_less : (n : Raw) → costs (out-Raw n).parts + own_tokens t.tokens.now n + 1 ≤ cost n
  parts_less n = omega (arith, size_is t.tokens.now n)
