-- Which words the parts of a rule can begin with.
use Rattle.std.specs.Prelude.{ℕ, Bool, true, false, ◌||◌, ◌==◌}
use Rattle.xc_raw.specs.declared.word.Word.{Word}
use Rattle.xc_raw.specs.declared.word.Word.TheVariants as word
use Rattle.xc_raw.specs.declared.word.BinaryOp.{BinaryOp}
use Rattle.xc_raw.specs.declared.word.BinaryOp.TheVariants as op
use Rattle.xc_raw.specs.declared.rule.Rule.{Rule}
use Rattle.xc_raw.specs.declared.rule.Rule.TheVariants as rule
use Rattle.xc_raw.specs.declared.rule.Level.{Level}
use Rattle.xc_raw.specs.declared.rule.Level.TheVariants as level_name
use Rattle.xc_parse_grammar.specs.declared.marks.Strength.{Strength}
use Rattle.xc_parse_grammar.specs.declared.marks.Strength.TheVariants as strength
use Rattle.xc_parse_grammar.specs.declared.marks.Class.{Class}
use Rattle.xc_parse_grammar.specs.declared.marks.Class.TheVariants as class
use Rattle.xc_parse_grammar.specs.declared.marks.Kind.{Kind}
use Rattle.xc_parse_grammar.specs.declared.marks.Kind.TheVariants as kind
use Rattle.xc_parse_grammar.specs.declared.marks.Item.{Item}
use Rattle.xc_parse_grammar.specs.declared.marks.Item.TheVariants as item
use Rattle.xc_raw.specs.Kinds.{is_struct, is_future}

-- a number of each word that has no value, 0 for the others
abbrev pub number : Word → ℕ
number word.Name = 1
number word.Pragma = 2
number word.Void = 3
number word.Future = 4
number word.Restrict = 5
number word.Struct = 6
number word.If = 7
number word.Else = 8
number word.While = 9
number word.Do = 10
number word.For = 11
number word.Return = 12
number word.Break = 13
number word.Continue = 14
number word.Open = 15
number word.Close = 16
number word.OpenBracket = 17
number word.CloseBracket = 18
number word.OpenBrace = 19
number word.CloseBrace = 20
number word.Question = 21
number word.Colon = 22
number word.Semicolon = 23
number word.Comma = 24
number word.Set = 25
number word.Star = 26
number word.Ampersand = 27
number _ = 0

-- the levels of binary operators counted from 3, the loosest (C99 6.5.5 to 6.5.14)
abbrev pub level_rank : Level → ℕ
level_rank level_name.Or = 3
level_rank level_name.And = 4
level_rank level_name.BitOr = 5
level_rank level_name.BitXor = 6
level_rank level_name.BitAnd = 7
level_rank level_name.Equality = 8
level_rank level_name.Relation = 9
level_rank level_name.Shift = 10
level_rank level_name.Sum = 11
level_rank level_name.Product = 12

abbrev pub binary_rank : BinaryOp → ℕ
binary_rank op.Divide = 12
binary_rank op.Remainder = 12
binary_rank op.ShiftLeft = 10
binary_rank op.ShiftRight = 10
binary_rank op.Less = 9
binary_rank op.Greater = 9
binary_rank op.AtMost = 9
binary_rank op.AtLeast = 9
binary_rank op.Equal = 8
binary_rank op.Unequal = 8
binary_rank op.BitXor = 6
binary_rank op.BitOr = 5
binary_rank op.And = 4
binary_rank op.Or = 3

-- the level of a word between two operands, or 0
abbrev pub operator_rank : Word → ℕ
operator_rank word.Star = 12
operator_rank word.Ampersand = 7
operator_rank (word.Sign x) = 11
operator_rank (word.Binary x) = binary_rank x
operator_rank _ = 0

abbrev pub is_word_specifier : Word → Bool
is_word_specifier (word.Specifier x) = true
is_word_specifier word.Void = true
is_word_specifier (word.Qualifier x) = true
is_word_specifier word.Future = true
is_word_specifier _ = false

abbrev pub is_specifier : Word → Bool
is_specifier (word.Specifier x) = true
is_specifier word.Void = true
is_specifier (word.Qualifier x) = true
is_specifier word.Future = true
is_specifier word.Struct = true
is_specifier _ = false

abbrev pub is_qualifier : Word → Bool
is_qualifier (word.Qualifier x) = true
is_qualifier word.Restrict = true
is_qualifier word.Future = true
is_qualifier _ = false

abbrev pub is_literal : Word → Bool
is_literal (word.Literal x) = true
is_literal _ = false

abbrev pub is_access : Word → Bool
is_access (word.Access x) = true
is_access _ = false

abbrev pub is_step : Word → Bool
is_step (word.Step x) = true
is_step _ = false

abbrev pub is_prefix : Word → Bool
is_prefix word.Star = true
is_prefix word.Ampersand = true
is_prefix (word.Sign x) = true
is_prefix (word.Complement x) = true
is_prefix _ = false

abbrev pub is_assignment : Word → Bool
is_assignment word.Set = true
is_assignment (word.Assign x) = true
is_assignment _ = false

abbrev pub is_pragma : Word → Bool
is_pragma word.Pragma = true
is_pragma _ = false

abbrev pub is_open_brace : Word → Bool
is_open_brace word.OpenBrace = true
is_open_brace _ = false

abbrev pub is_open : Word → Bool
is_open word.Open = true
is_open _ = false

abbrev pub is_name : Word → Bool
is_name word.Name = true
is_name _ = false

abbrev pub is_semicolon : Word → Bool
is_semicolon word.Semicolon = true
is_semicolon _ = false

abbrev pub is_close : Word → Bool
is_close word.Close = true
is_close _ = false

abbrev pub is_if : Word → Bool
is_if word.If = true
is_if _ = false

abbrev pub is_while : Word → Bool
is_while word.While = true
is_while _ = false

abbrev pub is_do : Word → Bool
is_do word.Do = true
is_do _ = false

abbrev pub is_for : Word → Bool
is_for word.For = true
is_for _ = false

abbrev pub is_return : Word → Bool
is_return word.Return = true
is_return _ = false

abbrev pub is_break : Word → Bool
is_break word.Break = true
is_break _ = false

abbrev pub is_continue : Word → Bool
is_continue word.Continue = true
is_continue _ = false

abbrev pub begins_declarator : Word → Bool
begins_declarator word.Star = true
begins_declarator word.Name = true
begins_declarator _ = false

abbrev pub begins_expr : Word → Bool
begins_expr word.Name = true
begins_expr (word.Literal x) = true
begins_expr word.Open = true
begins_expr word.Star = true
begins_expr word.Ampersand = true
begins_expr (word.Sign x) = true
begins_expr (word.Complement x) = true
begins_expr (word.Step x) = true
begins_expr _ = false

abbrev pub begins_stmt : Word → Bool
begins_stmt word.Semicolon = true
begins_stmt word.OpenBrace = true
begins_stmt word.If = true
begins_stmt word.While = true
begins_stmt word.Do = true
begins_stmt word.For = true
begins_stmt word.Return = true
begins_stmt word.Break = true
begins_stmt word.Continue = true
begins_stmt word.Future = true
begins_stmt word.Name = true
begins_stmt (word.Literal x) = true
begins_stmt word.Open = true
begins_stmt word.Star = true
begins_stmt word.Ampersand = true
begins_stmt (word.Sign x) = true
begins_stmt (word.Complement x) = true
begins_stmt (word.Step x) = true
begins_stmt _ = false

-- the words of a kind
abbrev pub of_kind : Kind → Word → Bool
of_kind kind.Specifier w = is_word_specifier w
of_kind kind.Qualifier w = is_qualifier w
of_kind kind.Literal w = is_literal w
of_kind kind.Access w = is_access w
of_kind kind.Step w = is_step w
of_kind kind.Prefix w = is_prefix w
of_kind kind.Assignment w = is_assignment w
of_kind (kind.Operator level) w = operator_rank w == level_rank level

-- what a node of a rule can begin with
abbrev pub begins_rule : Rule → Word → Bool
begins_rule rule.Unit w = is_pragma w || is_specifier w
begins_rule rule.Pragma w = is_pragma w
begins_rule rule.Declaration w = is_specifier w
begins_rule rule.Function w = is_specifier w
begins_rule rule.Specs w = is_specifier w
begins_rule rule.Member w = is_specifier w
begins_rule rule.Param w = is_specifier w
begins_rule rule.ForDeclaration w = is_specifier w
begins_rule rule.Struct w = is_struct w
begins_rule rule.Declr w = begins_declarator w
begins_rule rule.Callee w = begins_declarator w
begins_rule rule.Dinit w = begins_declarator w
begins_rule rule.Initialisers w = is_open_brace w
begins_rule rule.Block w = is_open_brace w
begins_rule rule.Params w = is_open w
begins_rule rule.Sub w = is_pragma w || begins_stmt w
begins_rule rule.Eval w = is_semicolon w || begins_expr w
begins_rule rule.Clause w = is_semicolon w || begins_expr w
begins_rule rule.Step w = is_close w || begins_expr w
begins_rule rule.If w = is_if w
begins_rule rule.While w = is_while w
begins_rule rule.Do w = is_do w
begins_rule rule.For w = is_for w
begins_rule rule.Return w = is_return w
begins_rule rule.Break w = is_break w
begins_rule rule.Continue w = is_continue w
begins_rule rule.Future w = is_future w
begins_rule rule.Place w = is_name w
begins_rule rule.Comma w = begins_expr w
begins_rule rule.Assign w = begins_expr w
begins_rule rule.Cond w = begins_expr w
begins_rule (rule.Binary level) w = begins_expr w
begins_rule rule.Cast w = begins_expr w
begins_rule rule.Unary w = begins_expr w
begins_rule rule.Postfix w = begins_expr w
begins_rule rule.Prim w = begins_expr w

-- what a node of a class can begin with
abbrev pub begins : Class → Word → Bool
begins (class.Node r) w = begins_rule r w
begins class.Item w = is_pragma w || is_specifier w
begins class.BlockItem w = is_pragma w || is_specifier w || begins_stmt w
begins class.Stmt w = begins_stmt w
begins class.Init w = is_open_brace w || begins_expr w
begins (class.At s) w = begins_expr w

-- what an item can begin with
abbrev pub accepts : Item → Word → Bool
accepts (item.Word wanted) w = number wanted == number w
accepts (item.Kind k) w = of_kind k w
accepts (item.Part c) w = begins c w

-- how tightly an expression binds
abbrev pub rank : Strength → ℕ
rank strength.Expr = 0
rank strength.Assign = 1
rank strength.Cond = 2
rank (strength.Binary level) = level_rank level
rank strength.Cast = 13
rank strength.Unary = 14
rank strength.Postfix = 15

-- what the right operand of an operator is at least
abbrev pub tighter : Level → Strength
tighter level_name.Or = strength.Binary level_name.And
tighter level_name.And = strength.Binary level_name.BitOr
tighter level_name.BitOr = strength.Binary level_name.BitXor
tighter level_name.BitXor = strength.Binary level_name.BitAnd
tighter level_name.BitAnd = strength.Binary level_name.Equality
tighter level_name.Equality = strength.Binary level_name.Relation
tighter level_name.Relation = strength.Binary level_name.Shift
tighter level_name.Shift = strength.Binary level_name.Sum
tighter level_name.Sum = strength.Binary level_name.Product
tighter level_name.Product = strength.Cast
