-- Each rule gives a node the parts that the judgement asks for.
use Rattle.std.proofs.Common.{◌≡◌, ℕ, zero, suc, List, [], ◌∷◌, map, length, refl, ap, ◌⊎◌, inl, inr}
use Rattle.std.specs.Prelude.{IsTrue, ◌==◌, is_some}
use Rattle.xc_raw.specs.declared.word.Word.TheVariants as word
use Rattle.xc_raw.specs.declared.rule.Rule.{Rule}
use Rattle.xc_raw.specs.declared.rule.Rule.TheVariants as rule
use Rattle.xc_raw.specs.declared.rule.Level.{Level}
use Rattle.xc_raw.specs.declared.rule.Level.TheVariants as level_name
use Rattle.xc_raw.specs.declared.tree.Raw.{Raw, out-Raw}
use Rattle.xc_parse_grammar.specs.declared.marks.Strength.TheVariants as strength
use Rattle.xc_parse_grammar.specs.declared.marks.Class.TheVariants as class
use Rattle.xc_parse_grammar.specs.declared.marks.Kind.TheVariants as kind
use Rattle.xc_parse_grammar.specs.Marks.{tighter}
use Rattle.xc_parse_grammar.specs.Grammar.{Pattern, ◌⋅◌, ◌∣◌, opt, many, rule_of, is_item, stars, expr, assign, cond}
use Rattle.xc_parse_grammar.specs.Grammar as g
use Rattle.xc_tree.specs.Lists.{every}
use Rattle.xc_tree.proofs.Lists.{and_both}
use Rattle.xc_raw_parts.specs.Words.{specifier_words}
use Rattle.xc_type_declarators.specs.Specifiers.{often}
use Rattle.xc_raw.specs.Kinds as kinds
use Rattle.xc_type_declarators.specs.Specifiers as words
use Rattle.xc_raw_parts.specs.Names.{struct_name, callee_name, declarator_name, captured_names}
use Rattle.xc_raw_parts.specs.Operators.{binary_operator, assign_operator}
use Rattle.xc_type_expressions.specs.declared.text.Text.{Text}
use Rattle.xc_type_expressions.specs.Places.{name_of}
use Rattle.xc_type_expressions.specs.Judged.{prefix_in, suffix_in}
use Rattle.xc_welltyped_claims.specs.Shaped.{rule_in, is_expr, is_specs, is_struct, is_member, is_declr, is_dinit, is_init, is_callee, is_params, is_param, is_block, is_pragma, is_block_item, is_sub, is_first, is_clause, is_step, is_place, all_of, none_of, ends_in_stmt, is_named, begins_with_star, stars_in, level_ok, postfix_ok}
use Rattle.xc_welltyped_claims.proofs.Parts.{Nodes, Over, Often, Parts, Passes, all_over, node_class, expr_class, init_class, item_class, block_class, none_over, one_over}

-- parts of a class ------------------------------------------------------------------------

abbrev Holds : Rule → List Raw → Type 0
Holds r ns = Parts (rule_of r) Over ns

specs_class : Passes is_specs (class.Node rule.Specs)
specs_class = node_class is_specs rule.Specs refl

struct_class : Passes is_struct (class.Node rule.Struct)
struct_class = node_class is_struct rule.Struct refl

member_class : Passes is_member (class.Node rule.Member)
member_class = node_class is_member rule.Member refl

declr_class : Passes is_declr (class.Node rule.Declr)
declr_class = node_class is_declr rule.Declr refl

dinit_class : Passes is_dinit (class.Node rule.Dinit)
dinit_class = node_class is_dinit rule.Dinit refl

param_class : Passes is_param (class.Node rule.Param)
param_class = node_class is_param rule.Param refl

sub_class : Passes is_sub (class.Node rule.Sub)
sub_class = node_class is_sub rule.Sub refl

block_node : Passes is_block (class.Node rule.Block)
block_node = node_class is_block rule.Block refl

-- stars have no parts
qualifiers_none : (n : ℕ) (k : Nodes) (ns : List Raw) → Often (Parts (g.any kind.Qualifier)) n k ns → k ns
qualifiers_none zero k ns h = h
qualifiers_none (suc n) k ns h = qualifiers_none n k ns h

stars_from : (n : ℕ) (k : Nodes) (ns : List Raw) → Often (Parts (g.token word.Star ⋅ many (g.any kind.Qualifier))) n k ns → k ns
stars_from zero k ns h = h
stars_from (suc n) k ns h = stars_from n k ns (qualifiers_none h.0 (Often (Parts (g.token word.Star ⋅ many (g.any kind.Qualifier))) n k) ns h.1)

stars_none : (k : Nodes) (ns : List Raw) → Parts stars k ns → k ns
stars_none k ns h = stars_from h.0 k ns h.1

-- a statement behind pragmas
abbrev Subs : ℕ → Nodes
Subs n = Often (Parts (g.node rule.Pragma)) n (Parts g.stmt Over)

subs_some : (n : ℕ) → Subs n [] → ⊥
subs_some zero h = h
subs_some (suc n) h = h

subs_end : (n : ℕ) (ns : List Raw) → Subs n ns → IsTrue (ends_in_stmt ns)
subs_end n [] h = absurd (subs_some n h)
subs_end zero (p ∷ []) h = h.0
subs_end zero (p ∷ q ∷ ps) h = absurd h.1
subs_end (suc n) (p ∷ []) h = absurd (subs_some n h.1)
subs_end (suc n) (p ∷ q ∷ ps) h = and_both (is_pragma (rule_in p)) _ (ap is_pragma h.0) (subs_end n (q ∷ ps) h.1)

-- the first clause of a `for`
first_class : (r : Rule) → (r ≡ rule.ForDeclaration) ⊎ (r ≡ rule.Clause) → IsTrue (is_first r)
first_class r (inl e) = ap is_first e
first_class r (inr e) = ap is_first e

-- a declarator and more
abbrev dinits : Pattern
dinits = many (g.token word.Comma ⋅ g.node rule.Dinit) ⋅ g.token word.Semicolon

abbrev more_dinits : Pattern
more_dinits = opt (g.node rule.Dinit ⋅ many (g.token word.Comma ⋅ g.node rule.Dinit)) ⋅ g.token word.Semicolon

-- bounds behind stars and a name
abbrev bound : Pattern
bound = g.token word.OpenBracket ⋅ cond ⋅ g.token word.CloseBracket

abbrev param_rest : Pattern
param_rest = stars ⋅ opt (g.token word.Name) ⋅ opt (g.token word.OpenBracket ⋅ opt cond ⋅ g.token word.CloseBracket ⋅ many bound)

module _ (t : Text) (node : Raw) where
  abbrev Ok : Rule → List Raw → Type 0
  Ok r ns = IsTrue (level_ok t node r ns)

  pub unit_level : (ns : List Raw) → Holds rule.Unit ns → Ok rule.Unit ns
  unfolding level_ok
  unit_level ns h = all_over is_item (rule_of rule.Unit) (item_class, item_class) ns h

  pub pragma_level : (ns : List Raw) → Holds rule.Pragma ns → Ok rule.Pragma ns
  unfolding level_ok
  pragma_level ns h = none_over (rule_of rule.Pragma) tt ns h

  pub declaration_level : (ns : List Raw) → Holds rule.Declaration ns → Ok rule.Declaration ns
  unfolding level_ok
  declaration_level [] h = absurd h
  declaration_level (n ∷ ns) h = and_both (is_specs (rule_in n)) _ (ap is_specs h.0) (all_over is_dinit more_dinits ((dinit_class, (tt, dinit_class)), tt) ns h.1)

  pub function_level : (ns : List Raw) → Holds rule.Function ns → Ok rule.Function ns
  unfolding level_ok
  function_level [] h = absurd h
  function_level (a ∷ []) h = absurd h.1
  function_level (a ∷ b ∷ []) h = absurd h.1.1
  function_level (a ∷ b ∷ c ∷ ns) h = and_both (is_specs (rule_in a)) _ (ap is_specs h.0)
      (and_both (is_callee (rule_in b)) _ (ap is_callee h.1.0)
      (and_both (is_params (rule_in c)) _ (ap is_params h.1.1.0) (one_over is_block (class.Node rule.Block) block_node ns h.1.1.1)))

  pub specs_level : (ns : List Raw) → IsTrue (often kinds.is_struct (specifier_words t.source.now t.tokens.now node) == length ns) → Holds rule.Specs ns → Ok rule.Specs ns
  unfolding level_ok
  specs_level ns e h = and_both (all_of is_struct ns) _ (all_over is_struct (rule_of rule.Specs) ((tt, struct_class), (tt, struct_class)) ns h) e

  pub struct_level : (ns : List Raw) → IsTrue (is_named t (struct_name t.tokens.now node)) → Holds rule.Struct ns → Ok rule.Struct ns
  unfolding level_ok
  struct_level ns e h = and_both (all_of is_member ns) _ (all_over is_member (rule_of rule.Struct) (tt, (tt, (tt, (member_class, (member_class, tt))))) ns h) e

  pub member_level : (ns : List Raw) → Holds rule.Member ns → Ok rule.Member ns
  unfolding level_ok
  member_level [] h = absurd h
  member_level (a ∷ []) h = absurd h.1
  member_level (a ∷ d ∷ ds) h = and_both (is_specs (rule_in a)) _ (ap is_specs h.0)
      (all_over is_declr (g.node rule.Declr ⋅ many (g.token word.Comma ⋅ g.node rule.Declr) ⋅ g.token word.Semicolon) (declr_class, ((tt, declr_class), tt)) (d ∷ ds) h.1)

  pub declr_level : (ns : List Raw) → IsTrue (is_named t (declarator_name t.tokens.now node)) → IsTrue (begins_with_star (stars_in t (out-Raw node).first (out-Raw node).end)) → Holds rule.Declr ns → Ok rule.Declr ns
  unfolding level_ok
  declr_level ns e s h = and_both (all_of is_expr ns) _ (all_over is_expr (rule_of rule.Declr) ((tt, tt), (tt, (tt, (expr_class strength.Cond, tt)))) ns h) (and_both (is_named t (declarator_name t.tokens.now node)) _ e s)

  pub callee_level : (ns : List Raw) → IsTrue (is_named t (callee_name t.tokens.now node)) → IsTrue (begins_with_star (stars_in t (out-Raw node).first (out-Raw node).end)) → Holds rule.Callee ns → Ok rule.Callee ns
  unfolding level_ok
  callee_level ns e s h = and_both (none_of ns) _ (none_over (rule_of rule.Callee) ((tt, tt), tt) ns h) (and_both (is_named t (callee_name t.tokens.now node)) _ e s)

  pub dinit_level : (ns : List Raw) → Holds rule.Dinit ns → Ok rule.Dinit ns
  unfolding level_ok
  dinit_level [] h = absurd h
  dinit_level (d ∷ ns) h = and_both (is_declr (rule_in d)) _ (ap is_declr h.0) (one_over is_init class.Init init_class ns h.1)

  pub initialisers_level : (ns : List Raw) → Holds rule.Initialisers ns → Ok rule.Initialisers ns
  unfolding level_ok
  initialisers_level ns h = all_over is_init (rule_of rule.Initialisers) (tt, (init_class, tt)) ns h

  pub params_level : (ns : List Raw) → Holds rule.Params ns → Ok rule.Params ns
  unfolding level_ok
  params_level ns h = all_over is_param (rule_of rule.Params) (tt, ((param_class, (tt, param_class)), tt)) ns h

  pub param_level : (ns : List Raw) → ((n : Raw) (ms : List Raw) → ns ≡ n ∷ ms → IsTrue (begins_with_star (stars_in t (out-Raw n).end (out-Raw node).end))) → Holds rule.Param ns → Ok rule.Param ns
  unfolding level_ok
  param_level [] s h = absurd h
  param_level (n ∷ ns) s h = and_both (is_specs (rule_in n)) _ (ap is_specs h.0)
      (and_both (all_of is_expr ns) _ (all_over is_expr param_rest ((tt, tt), (tt, (tt, (expr_class strength.Cond, (tt, (tt, (expr_class strength.Cond, tt))))))) ns h.1) (s n ns refl))

  pub block_level : (ns : List Raw) → Holds rule.Block ns → Ok rule.Block ns
  unfolding level_ok
  block_level ns h = all_over is_block_item (rule_of rule.Block) (tt, (block_class, tt)) ns h

  pub sub_level : (ns : List Raw) → Holds rule.Sub ns → Ok rule.Sub ns
  unfolding level_ok
  sub_level ns h = subs_end h.0 ns h.1

  pub eval_level : (ns : List Raw) → Holds rule.Eval ns → Ok rule.Eval ns
  unfolding level_ok
  eval_level ns h = one_over is_expr (class.At strength.Expr) (expr_class strength.Expr) ns h

  pub clause_level : (ns : List Raw) → Holds rule.Clause ns → Ok rule.Clause ns
  unfolding level_ok
  clause_level ns h = one_over is_expr (class.At strength.Expr) (expr_class strength.Expr) ns h

  pub step_level : (ns : List Raw) → Holds rule.Step ns → Ok rule.Step ns
  unfolding level_ok
  step_level ns h = one_over is_expr (class.At strength.Expr) (expr_class strength.Expr) ns h

  pub return_level : (ns : List Raw) → Holds rule.Return ns → Ok rule.Return ns
  unfolding level_ok
  return_level ns h = one_over is_expr (class.At strength.Expr) (expr_class strength.Expr) ns h

  pub if_level : (ns : List Raw) → Holds rule.If ns → Ok rule.If ns
  unfolding level_ok
  if_level [] h = absurd h
  if_level (a ∷ []) h = absurd h.1
  if_level (a ∷ b ∷ ns) h = and_both (is_expr (rule_in a)) _ (expr_class strength.Expr (rule_in a) h.0)
      (and_both (is_sub (rule_in b)) _ (ap is_sub h.1.0) (one_over is_sub (class.Node rule.Sub) sub_class ns h.1.1))

  pub while_level : (ns : List Raw) → Holds rule.While ns → Ok rule.While ns
  unfolding level_ok
  while_level [] h = absurd h
  while_level (a ∷ []) h = absurd h.1
  while_level (a ∷ b ∷ []) h = and_both (is_expr (rule_in a)) _ (expr_class strength.Expr (rule_in a) h.0) (ap is_sub h.1.0)
  while_level (a ∷ b ∷ c ∷ ns) h = absurd h.1.1

  pub do_level : (ns : List Raw) → Holds rule.Do ns → Ok rule.Do ns
  unfolding level_ok
  do_level [] h = absurd h
  do_level (a ∷ []) h = absurd h.1
  do_level (a ∷ b ∷ []) h = and_both (is_sub (rule_in a)) _ (ap is_sub h.0) (expr_class strength.Expr (rule_in b) h.1.0)
  do_level (a ∷ b ∷ c ∷ ns) h = absurd h.1.1

  -- behind the first clause
  for_rest : (ns : List Raw) → Parts (g.node rule.Clause ⋅ g.node rule.Step ⋅ g.node rule.Sub) Over ns → (a : Raw) → IsTrue (is_first (rule_in a)) → Ok rule.For (a ∷ ns)
  unfolding level_ok
  for_rest [] h a e = absurd h
  for_rest (b ∷ []) h a e = absurd h.1
  for_rest (b ∷ c ∷ []) h a e = absurd h.1.1
  for_rest (b ∷ c ∷ d ∷ []) h a e = and_both (is_first (rule_in a)) _ e
      (and_both (is_clause (rule_in b)) _ (ap is_clause h.0) (and_both (is_step (rule_in c)) _ (ap is_step h.1.0) (ap is_sub h.1.1.0)))
  for_rest (b ∷ c ∷ d ∷ n ∷ ns) h a e = absurd h.1.1.1

  pub for_level : (ns : List Raw) → Holds rule.For ns → Ok rule.For ns
  for_level [] (inl h) = absurd h
  for_level [] (inr h) = absurd h
  for_level (a ∷ ns) (inl h) = for_rest ns h.1 a (first_class (rule_in a) (inl h.0))
  for_level (a ∷ ns) (inr h) = for_rest ns h.1 a (first_class (rule_in a) (inr h.0))

  pub for_declaration_level : (ns : List Raw) → Holds rule.ForDeclaration ns → Ok rule.ForDeclaration ns
  unfolding level_ok
  for_declaration_level [] h = absurd h
  for_declaration_level (n ∷ ns) h = and_both (is_specs (rule_in n)) _ (ap is_specs h.0) (all_over is_dinit (g.node rule.Dinit ⋅ dinits) (dinit_class, ((tt, dinit_class), tt)) ns h.1)

  pub break_level : (ns : List Raw) → Holds rule.Break ns → Ok rule.Break ns
  unfolding level_ok
  break_level ns h = none_over (rule_of rule.Break) (tt, tt) ns h

  pub continue_level : (ns : List Raw) → Holds rule.Continue ns → Ok rule.Continue ns
  unfolding level_ok
  continue_level ns h = none_over (rule_of rule.Continue) (tt, tt) ns h

  -- names behind the place have no parts
  abbrev captured : Pattern
  captured = opt (g.token word.Name ⋅ many (g.token word.Comma ⋅ g.token word.Name))

  names_none : (n : ℕ) (k : Nodes) (ns : List Raw) → Often (Parts (g.token word.Comma ⋅ g.token word.Name)) n k ns → k ns
  names_none zero k ns h = h
  names_none (suc n) k ns h = names_none n k ns h

  captured_none : (k : Nodes) (ns : List Raw) → Parts captured k ns → k ns
  captured_none k ns (inl h) = h
  captured_none k ns (inr h) = names_none h.0 k ns h.1

  future_rest : (a : Raw) (ns : List Raw) → rule_in a ≡ rule.Place → Parts (g.token word.Close ⋅ g.node rule.Block) Over ns → IsTrue (every (map (λ token. is_some (name_of t token)) (captured_names t.tokens.now node))) → Ok rule.Future (a ∷ ns)
  unfolding level_ok
  future_rest a [] e h k = absurd h
  future_rest a (b ∷ []) e h k = and_both (is_place (rule_in a)) _ (ap is_place e) (and_both (is_block (rule_in b)) _ (ap is_block h.0) k)
  future_rest a (b ∷ c ∷ ns) e h k = absurd h.1

  pub future_level : (ns : List Raw) → IsTrue (every (map (λ token. is_some (name_of t token)) (captured_names t.tokens.now node))) → Holds rule.Future ns → Ok rule.Future ns
  future_level [] k h = absurd h
  future_level (a ∷ ns) k h = future_rest a ns h.0 (captured_none (Parts (g.token word.Close ⋅ g.node rule.Block) Over) ns h.1) k

  pub place_level : (ns : List Raw) → IsTrue (is_some (name_of t (out-Raw node).first)) → Holds rule.Place ns → Ok rule.Place ns
  unfolding level_ok
  place_level ns e h = and_both (all_of is_expr ns) _ (all_over is_expr (rule_of rule.Place) (tt, ((tt, (expr_class strength.Expr, tt)), (tt, tt))) ns h) e

  pub comma_level : (ns : List Raw) → Holds rule.Comma ns → Ok rule.Comma ns
  unfolding level_ok
  comma_level [] h = absurd h
  comma_level (a ∷ []) h = absurd h.1
  comma_level (a ∷ b ∷ []) h = all_over is_expr (rule_of rule.Comma) (expr_class strength.Expr, (tt, expr_class strength.Assign)) (a ∷ b ∷ []) h
  comma_level (a ∷ b ∷ c ∷ ns) h = absurd h.1.1

  pub assign_level : (ns : List Raw) → IsTrue (is_some (assign_operator t.source.now t.tokens.now node)) → Holds rule.Assign ns → Ok rule.Assign ns
  unfolding level_ok
  assign_level [] o h = absurd h
  assign_level (a ∷ []) o h = absurd h.1
  assign_level (a ∷ b ∷ []) o h = and_both (all_of is_expr (a ∷ b ∷ [])) _ (all_over is_expr (rule_of rule.Assign) (expr_class strength.Unary, (tt, expr_class strength.Assign)) (a ∷ b ∷ []) h) o
  assign_level (a ∷ b ∷ c ∷ ns) o h = absurd h.1.1

  pub cond_level : (ns : List Raw) → Holds rule.Cond ns → Ok rule.Cond ns
  unfolding level_ok
  cond_level [] h = absurd h
  cond_level (a ∷ []) h = absurd h.1
  cond_level (a ∷ b ∷ []) h = absurd h.1.1
  cond_level (a ∷ b ∷ c ∷ []) h = all_over is_expr (rule_of rule.Cond) (expr_class (strength.Binary level_name.Or), (tt, (expr_class strength.Expr, (tt, expr_class strength.Cond)))) (a ∷ b ∷ c ∷ []) h
  cond_level (a ∷ b ∷ c ∷ d ∷ ns) h = absurd h.1.1.1

  pub binary_level : (l : Level) (ns : List Raw) → IsTrue (is_some (binary_operator t.source.now t.tokens.now node)) → Holds (rule.Binary l) ns → Ok (rule.Binary l) ns
  unfolding level_ok
  binary_level l [] o h = absurd h
  binary_level l (a ∷ []) o h = absurd h.1
  binary_level l (a ∷ b ∷ []) o h = and_both (all_of is_expr (a ∷ b ∷ [])) _ (all_over is_expr (rule_of (rule.Binary l)) (expr_class (strength.Binary l), (tt, expr_class (tighter l))) (a ∷ b ∷ []) h) o
  binary_level l (a ∷ b ∷ c ∷ ns) o h = absurd h.1.1

  cast_rest : (a : Raw) (ns : List Raw) → rule_in a ≡ rule.Specs → Parts (g.token word.Close ⋅ g.cast) Over ns → Ok rule.Cast (a ∷ ns)
  unfolding level_ok
  cast_rest a [] e h = absurd h
  cast_rest a (b ∷ []) e h = and_both (is_specs (rule_in a)) _ (ap is_specs e) (expr_class strength.Cast (rule_in b) h.0)
  cast_rest a (b ∷ c ∷ ns) e h = absurd h.1

  pub cast_level : (ns : List Raw) → Holds rule.Cast ns → Ok rule.Cast ns
  cast_level [] h = absurd h
  cast_level (a ∷ ns) h = cast_rest a ns h.0 (stars_none (Parts (g.token word.Close ⋅ g.cast) Over) ns h.1)

  pub unary_level : (ns : List Raw) → IsTrue (is_some (prefix_in t node)) → Holds rule.Unary ns → Ok rule.Unary ns
  unfolding level_ok
  unary_level [] o (inl h) = absurd h
  unary_level [] o (inr h) = absurd h
  unary_level (a ∷ []) o (inl h) = and_both (is_expr (rule_in a)) _ (expr_class strength.Unary (rule_in a) h.0) o
  unary_level (a ∷ []) o (inr h) = and_both (is_expr (rule_in a)) _ (expr_class strength.Cast (rule_in a) h.0) o
  unary_level (a ∷ b ∷ ns) o (inl h) = absurd h.1
  unary_level (a ∷ b ∷ ns) o (inr h) = absurd h.1

  abbrev suffixes : Pattern
  suffixes = g.token word.OpenBracket ⋅ expr ⋅ g.token word.CloseBracket ∣ g.token word.Open ⋅ opt (assign ⋅ many (g.token word.Comma ⋅ assign)) ⋅ g.token word.Close ∣ g.any kind.Access ⋅ g.token word.Name ∣ g.any kind.Step

  pub postfix_level : (a : Raw) (ns : List Raw) → IsTrue (postfix_ok (suffix_in t node) ns) → Holds rule.Postfix (a ∷ ns) → Ok rule.Postfix (a ∷ ns)
  unfolding level_ok
  postfix_level a ns o h = and_both (all_of is_expr (a ∷ ns)) _
      (all_over is_expr (rule_of rule.Postfix) (expr_class strength.Postfix, ((tt, (expr_class strength.Expr, tt)), ((tt, ((expr_class strength.Assign, (tt, expr_class strength.Assign)), tt)), ((tt, tt), tt)))) (a ∷ ns) h) o
