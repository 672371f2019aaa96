-- The shapes of nodes in the grammar, by what the judgement asks of them, and the string literals of a text.
use Rattle.std.specs.Prelude.{◌≡◌, ℕ, ◌+◌, ◌<◌, ◌≤◌, Bool, true, false, ◌&&◌, ◌||◌, ◌==◌, not, is_some, IsTrue, List, [], ◌∷◌, length, map, Option, Some, option_and_then, slice_get, slice_range}
use Rattle.xc_lex.specs.declared.token.Token.{Token}
use Rattle.xc_raw.specs.declared.rule.Rule.{Rule}
use Rattle.xc_raw.specs.declared.rule.Rule.TheVariants as rule
use Rattle.xc_raw.specs.declared.tree.Raw.{Raw, out-Raw}
use Rattle.xc_raw.specs.declared.word.Word.{Word}
use Rattle.xc_raw.specs.declared.word.Word.TheVariants as word
use Rattle.xc_raw.specs.declared.word.Literal.TheVariants as literal
use Rattle.xc_parse_grammar.specs.Grammar.{height, is_item, is_stmt}
use Rattle.xc_tree.specs.Lists.{every}
use Rattle.xc_tree.specs.Formats.{integers_taken}
use Rattle.xc_raw_parts.specs.Words.{word_in, specifier_words, star_words}
use Rattle.xc_type_declarators.specs.Specifiers.{often}
use Rattle.xc_raw.specs.Kinds as kinds
use Rattle.xc_type_declarators.specs.Specifiers as words
use Rattle.xc_type_literals.specs.declared.texts.Literal.{Literal}
use Rattle.xc_type_literals.specs.Constants.{constant_at}
use Rattle.xc_type_literals.specs.Texts as texts
use Rattle.xc_raw_parts.specs.declared.operators.Suffix.{Suffix}
use Rattle.xc_raw_parts.specs.declared.operators.Suffix.TheVariants as suffix
use Rattle.xc_raw_parts.specs.Nodes.{by_nodes}
use Rattle.xc_raw_parts.specs.Spans.{word_at}
use Rattle.xc_raw_parts.specs.Names.{struct_name, callee_name, declarator_name, captured_names}
use Rattle.xc_raw_parts.specs.Operators.{binary_operator, assign_operator}
use Rattle.xc_type_expressions.specs.declared.text.Text.{Text}
use Rattle.xc_type_expressions.specs.Places.{name_of}
use Rattle.xc_type_expressions.specs.Judged.{prefix_in, suffix_in}

-- rules -------------------------------------------------------------------------

abbrev pub rule_in : Raw → Rule
rule_in node = (out-Raw node).rule

abbrev pub is_expr : Rule → Bool
is_expr r = is_some (height r)

abbrev pub is_specs : Rule → Bool
is_specs rule.Specs = true
is_specs _ = false

abbrev pub is_struct : Rule → Bool
is_struct rule.Struct = true
is_struct _ = false

abbrev pub is_member : Rule → Bool
is_member rule.Member = true
is_member _ = false

abbrev pub is_declr : Rule → Bool
is_declr rule.Declr = true
is_declr _ = false

abbrev pub is_dinit : Rule → Bool
is_dinit rule.Dinit = true
is_dinit _ = false

abbrev pub is_braces : Rule → Bool
is_braces rule.Initialisers = true
is_braces _ = false

abbrev pub is_init : Rule → Bool
is_init r = is_expr r || is_braces r

abbrev pub is_callee : Rule → Bool
is_callee rule.Callee = true
is_callee _ = false

abbrev pub is_params : Rule → Bool
is_params rule.Params = true
is_params _ = false

abbrev pub is_param : Rule → Bool
is_param rule.Param = true
is_param _ = false

abbrev pub is_block : Rule → Bool
is_block rule.Block = true
is_block _ = false

abbrev pub is_pragma : Rule → Bool
is_pragma rule.Pragma = true
is_pragma _ = false

-- what may stand in a block
abbrev pub is_block_item : Rule → Bool
is_block_item rule.Pragma = true
is_block_item rule.Declaration = true
is_block_item r = is_stmt r

abbrev pub is_sub : Rule → Bool
is_sub rule.Sub = true
is_sub _ = false

-- the first clause of a `for`
abbrev pub is_first : Rule → Bool
is_first rule.ForDeclaration = true
is_first rule.Clause = true
is_first _ = false

abbrev pub is_clause : Rule → Bool
is_clause rule.Clause = true
is_clause _ = false

abbrev pub is_step : Rule → Bool
is_step rule.Step = true
is_step _ = false

abbrev pub is_place : Rule → Bool
is_place rule.Place = true
is_place _ = false

-- parts -------------------------------------------------------------------------

abbrev pub all_of : (Rule → Bool) → List Raw → Bool
all_of test ps = every (map (λ p. test (rule_in p)) ps)

abbrev pub none_of : List Raw → Bool
none_of [] = true
none_of (p ∷ ps) = false

abbrev pub one_at_most : (Rule → Bool) → List Raw → Bool
one_at_most test [] = true
one_at_most test (p ∷ ps) = test (rule_in p) && none_of ps

-- pragmas, and then a statement
abbrev pub ends_in_stmt : List Raw → Bool
ends_in_stmt [] = false
ends_in_stmt (p ∷ []) = is_stmt (rule_in p)
ends_in_stmt (p ∷ q ∷ ps) = is_pragma (rule_in p) && ends_in_stmt (q ∷ ps)

-- words -------------------------------------------------------------------------

-- the token is a name that has a number
abbrev pub is_named : Text → Option ℕ → Bool
is_named t token = is_some (option_and_then (name_of t) token)

-- qualifiers stand behind stars alone
abbrev pub begins_with_star : List Word → Bool
begins_with_star [] = true
begins_with_star (word.Star ∷ ws) = true
begins_with_star (w ∷ ws) = false

abbrev pub stars_in : Text → ℕ → ℕ → List Word
stars_in t from end = star_words t.source.now t.tokens.now from end

-- what a string literal is
abbrev pub literal_in : Text → ℕ → Option Literal
literal_in t token = texts.literal t.texts.now.numbers.items t.texts.now.takes.items token

-- a name with a number, a constant with a value, or a string literal
abbrev pub is_primary : Text → ℕ → Word → Bool
is_primary t token word.Name = is_some (name_of t token)
is_primary t token (word.Literal literal.Number) = is_some (constant_at t.texts.now.constants.items token)
is_primary t token (word.Literal literal.Text) = is_some (literal_in t token)
is_primary t token _ = false

abbrev pub postfix_ok : Option Suffix → List Raw → Bool
postfix_ok (Some suffix.Index) (i ∷ []) = true
postfix_ok (Some suffix.Call) args = true
postfix_ok (Some (suffix.Access a)) [] = true
postfix_ok (Some (suffix.Step s)) [] = true
postfix_ok _ _ = false

-- nodes -------------------------------------------------------------------------

-- a node has the parts and the words that its rule asks for
unfoldable pub level_ok : Text → Raw → Rule → List Raw → Bool
level_ok t node rule.Unit ps = all_of is_item ps
level_ok t node rule.Pragma ps = none_of ps
level_ok t node rule.Declaration (specs ∷ ds) = is_specs (rule_in specs) && all_of is_dinit ds
level_ok t node rule.Function (specs ∷ callee ∷ params ∷ rest) = is_specs (rule_in specs)
    && (is_callee (rule_in callee) && (is_params (rule_in params) && one_at_most is_block rest))
level_ok t node rule.Specs ps = all_of is_struct ps && (often kinds.is_struct (specifier_words t.source.now t.tokens.now node) == length ps)
level_ok t node rule.Struct ps = all_of is_member ps && is_named t (struct_name t.tokens.now node)
level_ok t node rule.Member (specs ∷ d ∷ ds) = is_specs (rule_in specs) && all_of is_declr (d ∷ ds)
level_ok t node rule.Declr ps = all_of is_expr ps
    && (is_named t (declarator_name t.tokens.now node) && begins_with_star (stars_in t (out-Raw node).first (out-Raw node).end))
level_ok t node rule.Callee ps = none_of ps
    && (is_named t (callee_name t.tokens.now node) && begins_with_star (stars_in t (out-Raw node).first (out-Raw node).end))
level_ok t node rule.Dinit (d ∷ is) = is_declr (rule_in d) && one_at_most is_init is
level_ok t node rule.Initialisers ps = all_of is_init ps
level_ok t node rule.Params ps = all_of is_param ps
level_ok t node rule.Param (specs ∷ bs) = is_specs (rule_in specs)
    && (all_of is_expr bs && begins_with_star (stars_in t (out-Raw specs).end (out-Raw node).end))
level_ok t node rule.Block ps = all_of is_block_item ps
level_ok t node rule.Sub ps = ends_in_stmt ps
level_ok t node rule.Eval ps = one_at_most is_expr ps
level_ok t node rule.Clause ps = one_at_most is_expr ps
level_ok t node rule.Step ps = one_at_most is_expr ps
level_ok t node rule.Return ps = one_at_most is_expr ps
level_ok t node rule.If (test ∷ then ∷ rest) = is_expr (rule_in test) && (is_sub (rule_in then) && one_at_most is_sub rest)
level_ok t node rule.While (test ∷ body ∷ []) = is_expr (rule_in test) && is_sub (rule_in body)
level_ok t node rule.Do (body ∷ test ∷ []) = is_sub (rule_in body) && is_expr (rule_in test)
level_ok t node rule.For (first ∷ test ∷ step ∷ body ∷ []) = is_first (rule_in first)
    && (is_clause (rule_in test) && (is_step (rule_in step) && is_sub (rule_in body)))
level_ok t node rule.ForDeclaration (specs ∷ ds) = is_specs (rule_in specs) && all_of is_dinit ds
level_ok t node rule.Break ps = none_of ps
level_ok t node rule.Continue ps = none_of ps
level_ok t node rule.Future (place ∷ block ∷ []) = is_place (rule_in place)
    && (is_block (rule_in block) && every (map (λ token. is_some (name_of t token)) (captured_names t.tokens.now node)))
level_ok t node rule.Place ps = all_of is_expr ps && is_some (name_of t (out-Raw node).first)
level_ok t node rule.Comma (a ∷ b ∷ []) = all_of is_expr (a ∷ b ∷ [])
level_ok t node rule.Assign (a ∷ b ∷ []) = all_of is_expr (a ∷ b ∷ []) && is_some (assign_operator t.source.now t.tokens.now node)
level_ok t node rule.Cond (a ∷ b ∷ c ∷ []) = all_of is_expr (a ∷ b ∷ c ∷ [])
level_ok t node (rule.Binary level) (a ∷ b ∷ []) = all_of is_expr (a ∷ b ∷ []) && is_some (binary_operator t.source.now t.tokens.now node)
level_ok t node rule.Cast (specs ∷ a ∷ []) = is_specs (rule_in specs) && is_expr (rule_in a)
level_ok t node rule.Unary (a ∷ []) = is_expr (rule_in a) && is_some (prefix_in t node)
level_ok t node rule.Postfix (a ∷ ps) = all_of is_expr (a ∷ ps) && postfix_ok (suffix_in t node) ps
level_ok t node rule.Prim [] = ((out-Raw node).end == (out-Raw node).first + 1) && is_primary t (out-Raw node).first (word_at t.source.now t.tokens.now (out-Raw node).first)
level_ok t node rule.Prim (a ∷ []) = is_expr (rule_in a)
level_ok t node _ _ = false

-- string literals -----------------------------------------------------------------

abbrev pub is_string : Word → Bool
is_string (word.Literal literal.Text) = true
is_string _ = false

abbrev pub lacks_strings : List ℕ → List Token → Bool
lacks_strings source ts = every (map (λ x. not (is_string (word_in source x))) ts)

-- none stands between the parts, from one token up to another
unfoldable pub lacks_around : List ℕ → List Token → ℕ → ℕ → List Raw → Bool
lacks_around source ts from end [] = lacks_strings source (slice_range ts from end)
lacks_around source ts from end (p ∷ ps) = lacks_strings source (slice_range ts from (out-Raw p).first) && lacks_around source ts (out-Raw p).end end ps

-- an expression of one token
abbrev pub is_token : Rule → List Raw → Bool
is_token rule.Prim [] = true
is_token r ps = false

-- only such a one has a string literal of its own
abbrev pub strings_ok : Text → Raw → Rule → List Raw → Bool
strings_ok t node r ps = is_token r ps || lacks_around t.source.now t.tokens.now (out-Raw node).first (out-Raw node).end ps

abbrev pub shape_step : Text → Raw → List Bool → Bool
shape_step t node oks = every oks && (level_ok t node (rule_in node) (out-Raw node).parts && strings_ok t node (rule_in node) (out-Raw node).parts)

-- the node, and all nodes in it
unfoldable pub is_shaped : Text → Raw → Bool
is_shaped t = by_nodes (shape_step t)

abbrev pub Shaped : Text → Raw → Type 0
Shaped t node = IsTrue (is_shaped t node)

-- texts ---------------------------------------------------------------------------

-- a string literal of a text: its number is that of its bytes, and it takes as many values as they do
pub record IsLiteral (t : Text) (token : ℕ) (l : Literal) : Type 0 where
  pub word : word_at t.source.now t.tokens.now token ≡ word.Literal literal.Text
  pub bytes : List ℕ
  pub numbered : slice_get t.texts.now.formats l.number ≡ Some bytes
  pub takes : l.takes ≡ integers_taken bytes

-- a token that has these bytes
pub record IsSpelled (t : Text) (n : ℕ) : Type 0 where
  pub token : ℕ
  pub literal : Literal
  pub within : token < length t.tokens.now
  pub found : literal_in t token ≡ Some literal
  pub number : literal.number ≡ n

-- what has a number is a name, and the string literals of a text are those of its tokens
pub record IsLexed (t : Text) : Type 0 where
  pub names : (token name : ℕ) → name_of t token ≡ Some name → word_at t.source.now t.tokens.now token ≡ word.Name
  pub literals : (token : ℕ) (l : Literal) → literal_in t token ≡ Some l → IsLiteral t token l
  pub spelled : (n : ℕ) → n < length t.texts.now.formats → IsSpelled t n

-- each string literal among the tokens of a node is a format
abbrev pub Spoken : Text → Raw → Type 0
Spoken t node = (token : ℕ) (l : Literal) → (out-Raw node).first ≤ token → token < (out-Raw node).end → literal_in t token ≡ Some l → IsTrue (is_some l.takes)

-- the node of a whole text
pub record IsUnit (t : Text) (raw : Raw) : Type 0 where
  pub shaped : Shaped t raw
  pub unit : rule_in raw ≡ rule.Unit
  pub first : (out-Raw raw).first ≡ 0
  pub end : (out-Raw raw).end ≡ length t.tokens.now
