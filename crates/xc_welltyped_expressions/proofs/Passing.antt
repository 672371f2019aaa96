-- No role takes back a count that was passed.
use Rattle.std.proofs.Common.{◌≡◌, ℕ, List, [], ◌∷◌, map, Bool, true, false, refl, sym, ap, ◌∙◌, subst, cond}
use Rattle.std.specs.Prelude.{option_and_then, Option, Some, None}
use Rattle.xc_text_place.specs.declared.Span.{Span}
use Rattle.xc_tree.specs.declared.ty.Ty.{Ty}
use Rattle.xc_raw.specs.declared.rule.Rule.{Rule}
use Rattle.xc_raw.specs.declared.rule.Rule.TheVariants as rule
use Rattle.xc_raw.specs.declared.tree.Raw.{Raw, out-Raw}
use Rattle.xc_raw.specs.declared.word.Word.{Word}
use Rattle.xc_raw.specs.declared.word.Word.TheVariants as word
use Rattle.xc_raw.specs.declared.word.Literal.TheVariants as literal
use Rattle.xc_raw.specs.declared.word.Access.TheVariants as access
use Rattle.xc_type_rule.specs.declared.found.Found.{Found}
use Rattle.xc_type_names.specs.declared.numbers.Reserved.{Reserved}
use Rattle.xc_type_names.specs.Numbered.{reserved_of}
use Rattle.xc_raw_parts.specs.declared.operators.Prefix.{Prefix}
use Rattle.xc_raw_parts.specs.declared.operators.Prefix.TheVariants as prefix
use Rattle.xc_raw_parts.specs.declared.operators.Suffix.{Suffix}
use Rattle.xc_raw_parts.specs.declared.operators.Suffix.TheVariants as suffix
use Rattle.xc_type_rule_calls.specs.declared.print.Text.{Text as Printed}
use Rattle.xc_type_rule_calls.specs.Prints.{ninth_of}
use Rattle.xc_type_scopes.specs.declared.env.Env.{Env}
use Rattle.xc_type_scopes.specs.Env.{least_place, found, tagged, with_address, with_tag, in_struct}
use Rattle.xc_type_scopes.specs.Judge.{Judged, Judge, give}
use Rattle.xc_type_expressions.specs.declared.text.Text.{Text}
use Rattle.xc_type_expressions.specs.Roles.{Role, value, values}
use Rattle.xc_type_rule.specs.Least.{type_fault}
use Rattle.xc_type_rule.specs.Making.{unknown_place}
use Rattle.xc_type_rule_places.specs.Places.{name_part, name_faults}
use Rattle.xc_type_names.specs.Scoped.{has_none, declared_in}
use Rattle.xc_raw_parts.specs.Words.{specifier_words}
use Rattle.xc_raw_parts.specs.Spans.{word_at}
use Rattle.xc_raw_parts.specs.Names.{struct_name}
use Rattle.xc_type_expressions.specs.Places.{name_of, named, of_word, is_reserved}
use Rattle.xc_type_expressions.specs.Operations.{prefixed}
use Rattle.xc_type_expressions.specs.Calls.{printing, calling, applied_by, applied, called_by, called, named_by, format_of}
use Rattle.xc_type_expressions.specs.Types.{specified_by, members, struct_named, struct_by, the_next, struct_begun, member_with, declared_member, member_by, bound_by, bounds, declared_by}
use Rattle.xc_type_expressions.specs.Judged.{with_none, suffixed, with_one, element, with_two, operand, takes_value, by_parts, casted, is_call, suffix_in, found_of, declared_of, span_in, spot_in, prefix_in, role_of, judged}
use Rattle.xc_welltyped_claims.specs.Lists.{Each}
use Rattle.xc_welltyped_claims.specs.Judges.{Passing}
use Rattle.xc_welltyped_claims.specs.Roles.{RolePassing}
use Rattle.xc_welltyped_claims.proofs.Judges.{passing_each}
use Rattle.xc_welltyped_claims.proofs.Nodes as nodes
use Rattle.xc_welltyped_claims.proofs.Nodes.{judged_is}

-- the first of two places is none where none of them is there
pub none_first : (a b : Option ℕ) → least_place a b ≡ None → a ≡ None
none_first None b e = refl
none_first (Some a) None e = absurd cc
none_first (Some a) (Some b) e = absurd cc

-- parts -------------------------------------------------------------------------

pub passing_all : {A : Type 0} (f : Role → Judge A) → ((r : Role) → RolePassing r → Passing (f r)) → (rs : List Role) → Each RolePassing rs → Each Passing (map f rs)
passing_all f g [] p = tt
passing_all f g (r ∷ rs) p = (g r p.0, passing_all f g rs p.1)

pub passing_value : (r : Role) → Passing r.found → Passing (value r)
unfolding value
passing_value r p e h = p e h

pub passing_values : (rs : List Role) → Each RolePassing rs → Passing (values rs)
passing_values rs p = passing_each (map value rs) (passing_all value (λ r q. passing_value r q.found) rs p)

-- one of two that declare nothing
nothing_declared : {A : Type 0} (b : Bool) (x y : Judged A) (e : Env) → x.env ≡ e → y.env ≡ e → (cond b x y).env.over ≡ None → e.over ≡ None
nothing_declared true x y e f g h = sym (ap (λ (z : Env). z.over) f) ∙ h
nothing_declared false x y e f g h = sym (ap (λ (z : Env). z.over) g) ∙ h

-- expressions -----------------------------------------------------------------------

pub passing_named : (span : Span) (o : Option ℕ) → Passing (named span o)
unfolding named
passing_named span None = λ e h. h
passing_named span (Some name) = λ e. nothing_declared (is_reserved name) (give unknown_place (type_fault span) e)
    (give (name_part span (found name e)) (name_faults span (found name e)) e) e refl refl

passing_word : (t : Text) (span : Span) (token : ℕ) (w : Word) → Passing (of_word t span token w)
unfolding of_word
passing_word t span token word.Name = passing_named span (name_of t token)
passing_word t span token (word.Literal literal.Number) = λ e h. h
passing_word t span token _ = λ e h. h

passing_none : (t : Text) (node : Raw) (r : Rule) → Passing (with_none t node r)
unfolding with_none
passing_none t node rule.Prim = passing_word t (span_in t node) (out-Raw node).first (word_at t.source.now t.tokens.now (out-Raw node).first)
passing_none t node _ = λ e h. h

passing_suffixed : (t : Text) (node : Raw) (s : Option Suffix) (a : Found) → Passing (suffixed t node s a)
unfolding suffixed
passing_suffixed t node (Some (suffix.Access access.Dot)) a = λ e h. h
passing_suffixed t node (Some (suffix.Access access.Arrow)) a = λ e h. h
passing_suffixed t node (Some (suffix.Step s)) a = λ e h. h
passing_suffixed t node _ a = λ e h. h

passing_prefixed : (span : Span) (o : Option Prefix) (a : Found) → Passing (prefixed span o a)
unfolding prefixed with_address
passing_prefixed span None a = λ e h. h
passing_prefixed span (Some (prefix.Step s)) a = λ e h. h
passing_prefixed span (Some prefix.Address) a = λ e h. h
passing_prefixed span (Some prefix.Star) a = λ e h. h
passing_prefixed span (Some prefix.Plus) a = λ e h. h
passing_prefixed span (Some (prefix.Value o)) a = λ e h. h

pub passing_one : (t : Text) (node : Raw) (r : Rule) (a : Found) → Passing (with_one t node r a)
unfolding with_one
passing_one t node rule.Prim a = λ e h. h
passing_one t node rule.Postfix a = passing_suffixed t node (suffix_in t node) a
passing_one t node rule.Unary a = passing_prefixed (span_in t node) (prefix_in t node) a
passing_one t node _ a = λ e h. h

passing_element : (span at : Span) (s : Option Suffix) (a b : Found) → Passing (element span at s a b)
unfolding element
passing_element span at (Some suffix.Index) a b = λ e h. h
passing_element span at _ a b = λ e h. h

pub passing_two : (t : Text) (node : Raw) (r : Rule) (at : Span) (a b : Found) → Passing (with_two t node r at a b)
unfolding with_two
passing_two t node rule.Postfix at a b = passing_element (span_in t node) at (suffix_in t node) a b
passing_two t node _ at a b = λ e h. h

pub passing_operand : (b : Bool) (r : Role) → RolePassing r → Passing (operand b r)
passing_operand true r p = passing_value r p.found
passing_operand false r p = p.found

passing_parts : (t : Text) (node : Raw) (r : Rule) (ps : List Role) → Each RolePassing ps → Passing (by_parts t node r ps)
unfolding by_parts
passing_parts t node r [] p = passing_none t node r
passing_parts t node r (a ∷ []) p = λ e h. let j = operand (takes_value t node r) a in
    passing_operand (takes_value t node r) a p.0 e (passing_one t node r (j e).part (j e).env h)
passing_parts t node r (a ∷ b ∷ []) p = λ e h. let j = operand (takes_value t node r) a in
    passing_operand (takes_value t node r) a p.0 e (passing_value b p.1.0.found (j e).env
    (passing_two t node r a.span (j e).part (value b (j e).env).part (value b (j e).env).env h))
passing_parts t node r (a ∷ b ∷ c ∷ []) p = λ e h.
    passing_value a p.0.found e (passing_value b p.1.0.found (value a e).env (passing_value c p.1.1.0.found (value b (value a e).env).env h))
passing_parts t node r (a ∷ b ∷ c ∷ d ∷ ps) p = λ e h. h

passing_casted : (t : Text) (node : Raw) (ps : List Role) → Each RolePassing ps → Passing (casted t node ps)
unfolding casted
passing_casted t node [] p = λ e h. h
passing_casted t node (s ∷ []) p = λ e h. h
passing_casted t node (s ∷ a ∷ []) p = λ e h. p.0.specified false e (passing_value a p.1.0.found (s.specified false e).env h)
passing_casted t node (s ∷ a ∷ b ∷ ps) p = λ e h. h

-- calls -----------------------------------------------------------------------------

pub passing_printing : (span : Span) (text : Printed) (spans : List Span) (vs : List Found) → Passing (printing span text spans vs)
passing_printing span text spans vs e h = none_first e.over (ninth_of (Some text) spans) h

pub passing_calling : (span at : Span) (name : ℕ) (r : Option Reserved) (vs : List Found) → Passing (calling span at name r vs)
unfolding calling
passing_calling span at name None vs = λ e h. h
passing_calling span at name (Some r) vs = λ e h. h

passing_applied_by : (span : Span) (f : Role) (args : List Role) (o : Option ℕ) → RolePassing f → Each RolePassing args → Passing (applied_by span f args o)
passing_applied_by span f args None p q = λ e h. p.found e (passing_values args q (f.found e).env h)
passing_applied_by span f args (Some name) p q = λ e h. passing_values args q e (passing_calling span f.span name (reserved_of name) (values args e).part (values args e).env h)

passing_applied : (t : Text) (span : Span) (ps : List Role) → Each RolePassing ps → Passing (applied t span ps)
unfolding applied
passing_applied t span [] p = λ e h. h
passing_applied t span (f ∷ args) p = passing_applied_by span f args (named_by t f) p.0 p.1

passing_called_by : (t : Text) (span : Span) (ps rest : List Role) (o : Option Printed) → Each RolePassing ps → Each RolePassing rest → Passing (called_by t span ps rest o)
passing_called_by t span ps rest None p q = passing_applied t span ps p
passing_called_by t span ps rest (Some text) p q = λ e h. passing_values rest q e (passing_printing span text (map (λ r. r.span) rest) (values rest e).part (values rest e).env h)

passing_called : (t : Text) (span : Span) (ps : List Role) → Each RolePassing ps → Passing (called t span ps)
unfolding called
passing_called t span [] p = passing_applied t span [] p
passing_called t span (f ∷ []) p = passing_applied t span (f ∷ []) p
passing_called t span (f ∷ a ∷ rest) p = passing_called_by t span (f ∷ a ∷ rest) rest (format_of t f a) p p.1.1

passing_postfix : (t : Text) (node : Raw) (b : Bool) (ps : List Role) → Each RolePassing ps → Passing (cond b (called t (span_in t node) ps) (by_parts t node rule.Postfix ps))
passing_postfix t node true ps p = passing_called t (span_in t node) ps p
passing_postfix t node false ps p = passing_parts t node rule.Postfix ps p

passing_found : (t : Text) (node : Raw) (r : Rule) (ps : List Role) → Each RolePassing ps → Passing (found_of t node r ps)
unfolding found_of
passing_found t node rule.Cast ps p = passing_casted t node ps p
passing_found t node rule.Postfix ps p = passing_postfix t node (is_call (suffix_in t node)) ps p
passing_found t node r ps p = passing_parts t node r ps p

-- declarations ------------------------------------------------------------------------

pub passing_specified : (span : Span) (ws : List Word) (ps : List Role) (outermost : Bool) → Each RolePassing ps → Passing (specified_by span ws ps outermost)
unfolding specified_by
passing_specified span ws ps outermost p e h = passing_each (map (λ r. r.struct) ps) (passing_all (λ r. r.struct) (λ r q. q.struct) ps p) e h

pub passing_members : (ps : List Role) → Each RolePassing ps → Passing (members ps)
passing_members ps p e h = passing_each (map (λ r. r.member) ps) (passing_all (λ r. r.member) (λ r q. q.member) ps p) e h

pub tag_keeps : (name number : ℕ) (e : Env) → (with_tag name number e).over ≡ e.over
tag_keeps name number e = by (has_none e.own_tags)
  where
    by : (b : Bool) → (cond b (record e { file_tags = declared_in name number e.file_tags }) (record e { own_tags = declared_in name number e.own_tags })).over ≡ e.over
    by true = refl
    by false = refl

passing_struct_named : (at : Span) (o : Option ℕ) → Passing (struct_named at o)
passing_struct_named at None = λ e h. h
passing_struct_named at (Some number) = λ e h. h

passing_struct : (at : Span) (o : Option ℕ) (ps : List Role) → Each RolePassing ps → Passing (struct_by at o ps)
unfolding struct_by
passing_struct at None ps p = λ e h. h
passing_struct at (Some name) [] p = λ e. passing_struct_named at (tagged name e) e
passing_struct at (Some name) (m ∷ ms) p = λ e h. sym (tag_keeps name (the_next e) (in_struct e)) ∙ passing_members (m ∷ ms) p (struct_begun name e) h

pub passing_member_with : (at : Span) (ty : Option Ty) (o : Option ℕ) → Passing (member_with at ty o)
passing_member_with at ty None = λ e h. h
passing_member_with at ty (Some name) = λ e h. h

pub passing_declared_member : (ty : Option Ty) (d : Role) → RolePassing d → Passing (declared_member ty d)
unfolding declared_member
passing_declared_member ty d p e h =
    let x = (d.declared ty e).part in
    p.declared ty e (passing_member_with x.at x.ty x.name (d.declared ty e).env h)

passing_member : (ps : List Role) → Each RolePassing ps → Passing (member_by ps)
unfolding member_by
passing_member [] p = λ e h. h
passing_member (s ∷ ds) p = λ e h. let ty = (s.specified false e).part in
    p.0.specified false e (passing_each (map (declared_member ty) ds) (passing_all (declared_member ty) (passing_declared_member ty) ds p.1) (s.specified false e).env h)

pub passing_bound : (r : Role) → RolePassing r → Passing (bound_by r)
unfolding bound_by
passing_bound r p e h = passing_value r p.found e h

pub passing_bounds : (ps : List Role) → Each RolePassing ps → Passing (bounds ps)
passing_bounds ps p = passing_each (map bound_by ps) (passing_all bound_by passing_bound ps p)

passing_declared : (t : Text) (node : Raw) (ps : List Role) (base : Option Ty) → Each RolePassing ps → Passing (declared_of t node ps base)
unfolding declared_of declared_by
passing_declared t node ps base p e h = passing_bounds ps p e h

-- nodes -----------------------------------------------------------------------------------

passing_role : (t : Text) (node : Raw) (ps : List Role) → Each RolePassing ps → RolePassing (role_of t node ps)
passing_role t node ps p = record {
  found = passing_found t node (out-Raw node).rule ps p;
  specified = λ outermost. passing_specified (span_in t node) (specifier_words t.source.now t.tokens.now node) ps outermost p;
  struct = passing_struct (spot_in t (struct_name t.tokens.now node)) (option_and_then (name_of t) (struct_name t.tokens.now node)) ps p;
  member = passing_member ps p;
  declared = λ base. passing_declared t node ps base p;
}

passing_map : (t : Text) (ns : List Raw) → Each (λ n. RolePassing (judged t n)) ns → Each RolePassing (map (judged t) ns)
passing_map t [] p = tt
passing_map t (n ∷ ns) p = (p.0, passing_map t ns p.1)

pub role_passing : (t : Text) (node : Raw) → RolePassing (judged t node)
role_passing t = nodes.by_parts (λ n. RolePassing (judged t n)) (λ n p. subst RolePassing (sym (judged_is t n)) (passing_role t n (map (judged t) (out-Raw n).parts) (passing_map t (out-Raw n).parts p)))

pub all_passing : (t : Text) (ns : List Raw) → Each RolePassing (map (judged t) ns)
all_passing t [] = tt
all_passing t (n ∷ ns) = (role_passing t n, all_passing t ns)
