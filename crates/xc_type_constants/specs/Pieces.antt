-- Integer constant expressions (C99 6.6, without `sizeof`), by the text alone. So what a constant may not hold is told
-- whatever is known of the parts beside it.
use Rattle.std.specs.Prelude.{ℕ, ◌==◌, Bool, true, false, ◌&&◌, ◌||◌, cond, not, is_some, List, [], ◌∷◌, ◌++◌, Option, Some, None, option_map, option_and_then, slice_get}
use Rattle.xc_text_place.specs.declared.Span.{Span}
use Rattle.xc_tree.specs.declared.operator.BinOp.{BinOp}
use Rattle.xc_tree.specs.declared.operator.BinOp.TheVariants as op
use Rattle.xc_tree.specs.declared.operator.UnOp.{UnOp}
use Rattle.xc_tree.specs.declared.operator.UnOp.TheVariants as un
use Rattle.xc_tree.specs.declared.ty.Ty.{Ty}
use Rattle.xc_tree.specs.Lists.{passes}
use Rattle.xc_tree.specs.Types.{is_number}
use Rattle.xc_tree.specs.Typed.{Sort, shift, comparison, sort_of}
use Rattle.xc_tree_words.specs.Words.{is_uint, unary_word}
use Rattle.xc_lex.specs.declared.number.Number.{Number}
use Rattle.xc_lex.specs.declared.token.Token.{Token}
use Rattle.xc_raw.specs.declared.rule.Rule.{Rule}
use Rattle.xc_raw.specs.declared.rule.Rule.TheVariants as rule
use Rattle.xc_raw.specs.declared.tree.Raw.{Raw, out-Raw}
use Rattle.xc_raw.specs.declared.word.Word.{Word}
use Rattle.xc_tree_words.specs.Constants.{combined, conjunction, disjunction, chosen, is_true}
use Rattle.xc_type_rule.specs.declared.fault.Fault.{Fault}
use Rattle.xc_type_rule.specs.Least.{type_fault, fault_unless}
use Rattle.xc_type_literals.specs.Constants.{constant_at}
use Rattle.xc_raw_parts.specs.Words.{specifier_words, star_words}
use Rattle.xc_type_declarators.specs.Specifiers.{base_ty}
use Rattle.xc_type_rule_operators.specs.declared.logic.Logic.{Logic}
use Rattle.xc_type_rule_operators.specs.declared.logic.Logic.TheVariants as logic
use Rattle.xc_raw_parts.specs.declared.operators.Operator.{Operator}
use Rattle.xc_raw_parts.specs.declared.operators.Operator.TheVariants as operator
use Rattle.xc_raw_parts.specs.declared.operators.Prefix.{Prefix}
use Rattle.xc_raw_parts.specs.declared.operators.Prefix.TheVariants as prefix
use Rattle.xc_raw_parts.specs.Spans.{span_of}
use Rattle.xc_raw_parts.specs.Operators.{binary_operator, prefix_operator}
use Rattle.xc_raw_parts.specs.Nodes.{by_nodes}
use Rattle.xc_type_constants.specs.declared.part.Part.{Part}

-- what is known of a part: whether its type is unsigned, its value, and whether it and its parts are what a constant may
-- hold ----------------------------------------------------------------------------

-- no constant may hold it, whatever its parts are
abbrev pub strange : Part
strange = record { unsigned = None; value = None; pure = false }

abbrev pub number_part : Number → Part
number_part n = record { unsigned = Some n.unsigned; value = Some n.value; pure = true }

-- `!` gives an `int`
abbrev pub unary_unsigned : UnOp → Option Bool → Option Bool
unary_unsigned un.Not u = Some false
unary_unsigned o u = u

abbrev pub unary_part : UnOp → Part → Part
unary_part o p = record { unsigned = unary_unsigned o p.unsigned; value = option_map (unary_word o) p.value; pure = p.pure }

abbrev pub both : (Bool → Bool → Bool) → Option Bool → Option Bool → Option Bool
both f (Some a) (Some b) = Some (f a b)
both f _ _ = None

-- the operation is on unsigned words (C99 6.3.1.8 and 6.5.7)
abbrev pub works_unsigned : Sort → Bool → Bool → Bool
works_unsigned shift a b = a
works_unsigned _ a b = a || b

-- a comparison gives an `int`
abbrev pub gives_unsigned : Sort → Bool → Bool → Bool
gives_unsigned comparison a b = false
gives_unsigned s a b = works_unsigned s a b

abbrev pub value_by : BinOp → Option Bool → Option ℕ → Option ℕ → Option ℕ
value_by o None x y = None
value_by o (Some unsigned) x y = combined o unsigned x y

abbrev pub binary_part : BinOp → Part → Part → Part
binary_part o p q = record {
  unsigned = both (gives_unsigned (sort_of o)) p.unsigned q.unsigned;
  value = value_by o (both (works_unsigned (sort_of o)) p.unsigned q.unsigned) p.value q.value;
  pure = p.pure && q.pure;
}

abbrev pub logic_value : Logic → Option ℕ → Option ℕ → Option ℕ
logic_value logic.And x y = conjunction x y
logic_value logic.Or x y = disjunction x y

abbrev pub logic_part : Logic → Part → Part → Part
logic_part o p q = record { unsigned = Some false; value = logic_value o p.value q.value; pure = p.pure && q.pure }

abbrev pub cond_part : Part → Part → Part → Part
cond_part test p q = record {
  unsigned = both (λ a b. a || b) p.unsigned q.unsigned;
  value = chosen test.value p.value q.value;
  pure = test.pure && (p.pure && q.pure);
}

-- `u` says whether the type of the cast is unsigned, if that is an integer type
abbrev pub cast_part : Option Bool → Part → Part
cast_part u p = record { unsigned = u; value = cond (is_some u) p.value None; pure = p.pure }

-- what it breaks ----------------------------------------------------------------

-- a part of a constant
pub record Piece : Type 0 where
  pub part : Part
  -- its smallest parts that no constant may hold, and where it is evaluated its divisions by 0
  pub faults : Bool → List Fault

abbrev pub where_true : Bool → List Fault → List Fault
where_true true faults = faults
where_true false faults = []

abbrev pub strange_piece : Span → Piece
strange_piece span = record { part = strange; faults = λ asked. type_fault span }

-- a token that is no number is no constant
abbrev pub token_piece : Span → Option Number → Piece
token_piece span None = strange_piece span
token_piece span (Some n) = record { part = number_part n; faults = λ asked. [] }

abbrev pub prefix_piece : Span → Option Prefix → Piece → Piece
prefix_piece span (Some prefix.Plus) p = p
prefix_piece span (Some (prefix.Value o)) p = record p { part = unary_part o p.part }
prefix_piece span _ p = strange_piece span

abbrev pub is_zero : ℕ → Bool
is_zero n = n == 0

-- a division by 0 (C99 6.5.5 paragraph 5)
abbrev pub zero_divisor : BinOp → Option ℕ → Span → List Fault
zero_divisor op.Div b span = fault_unless (not (passes is_zero b)) span
zero_divisor op.Rem b span = fault_unless (not (passes is_zero b)) span
zero_divisor _ b span = []

abbrev pub binary_piece : Span → BinOp → Piece → Piece → Piece
binary_piece span o p q = record {
  part = binary_part o p.part q.part;
  faults = λ asked. p.faults asked ++ (q.faults asked ++ where_true asked (zero_divisor o q.part.value span));
}

-- the second operand is evaluated (C99 6.5.13 and 6.5.14)
abbrev pub goes_on : Logic → Option ℕ → Bool
goes_on logic.And v = passes is_true v
goes_on logic.Or v = passes is_zero v

abbrev pub logic_piece : Logic → Piece → Piece → Piece
logic_piece o p q = record {
  part = logic_part o p.part q.part;
  faults = λ asked. p.faults asked ++ q.faults (asked && goes_on o p.part.value);
}

abbrev pub operator_piece : Span → Option Operator → Piece → Piece → Piece
operator_piece span None p q = strange_piece span
operator_piece span (Some (operator.Value o)) p q = binary_piece span o p q
operator_piece span (Some operator.And) p q = logic_piece logic.And p q
operator_piece span (Some operator.Or) p q = logic_piece logic.Or p q

-- of the second and the third operand of `?:` one is evaluated (C99 6.5.15)
abbrev pub cond_piece : Piece → Piece → Piece → Piece
cond_piece test p q = record {
  part = cond_part test.part p.part q.part;
  faults = λ asked. test.faults asked ++ (p.faults (asked && passes is_true test.part.value) ++ q.faults (asked && passes is_zero test.part.value));
}

abbrev pub unsigned_of : Ty → Option Bool
unsigned_of ty = cond (is_number ty) (Some (is_uint ty)) None

-- whether the integer type that specifiers and stars name is unsigned, if they name one
abbrev pub cast_unsigned : List Word → List Word → Option Bool
cast_unsigned words [] = option_and_then unsigned_of (base_ty words None)
cast_unsigned words (w ∷ stars) = None

abbrev pub cast_to : List ℕ → List Token → Raw → Option Raw → Option Bool
cast_to source ts node None = None
cast_to source ts node (Some specs) = cast_unsigned (specifier_words source ts specs)
    (star_words source ts (out-Raw specs).end (out-Raw node).end)

-- nodes; `numbers` has the integer constant that each token is ------------------------

abbrev pub piece_of_token : List Token → List (Option Number) → Raw → Piece
piece_of_token ts numbers node = token_piece (span_of ts node) (constant_at numbers (out-Raw node).first)

abbrev pub binary_by : List ℕ → List Token → Raw → List Piece → Piece
binary_by source ts node (p ∷ q ∷ []) = operator_piece (span_of ts node) (binary_operator source ts node) p q
binary_by source ts node _ = strange_piece (span_of ts node)

-- a node by its parts
unfoldable pub piece_by : List ℕ → List Token → List (Option Number) → Raw → Rule → List Piece → Piece
piece_by source ts numbers node rule.Prim [] = piece_of_token ts numbers node
piece_by source ts numbers node rule.Prim (p ∷ []) = p
piece_by source ts numbers node rule.Unary (p ∷ []) = prefix_piece (span_of ts node) (prefix_operator source ts node) p
piece_by source ts numbers node (rule.Binary level) ps = binary_by source ts node ps
piece_by source ts numbers node rule.Cond (test ∷ p ∷ q ∷ []) = cond_piece test p q
piece_by source ts numbers node rule.Cast (specs ∷ p ∷ []) = record p { part = cast_part (cast_to source ts node (slice_get (out-Raw node).parts 0)) p.part }
piece_by source ts numbers node _ _ = strange_piece (span_of ts node)

-- each node of a text as a part of a constant
unfoldable pub piece_in : List ℕ → List Token → List (Option Number) → Raw → Piece
piece_in source ts numbers = by_nodes (λ node. piece_by source ts numbers node (out-Raw node).rule)

-- wholes -----------------------------------------------------------------------

-- the value, where it is a constant
abbrev pub constant_value : Piece → Option ℕ
constant_value p = cond p.part.pure p.part.value None

-- all that breaks the rules of constants
abbrev pub constant_faults : Piece → List Fault
constant_faults p = p.faults true
