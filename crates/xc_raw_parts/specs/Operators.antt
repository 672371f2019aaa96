-- Which operators stand in a node.
use Rattle.std.specs.Prelude.{ℕ, List, Option, Some, None, option_map, option_and_then}
use Rattle.xc_tree.specs.declared.operator.BinOp.{BinOp}
use Rattle.xc_tree.specs.declared.operator.BinOp.TheVariants as op
use Rattle.xc_tree.specs.declared.operator.UnOp.TheVariants as un
use Rattle.xc_lex.specs.declared.token.Token.{Token}
use Rattle.xc_raw.specs.declared.tree.Raw.{Raw, out-Raw}
use Rattle.xc_raw.specs.declared.word.Word.{Word}
use Rattle.xc_raw.specs.declared.word.Word.TheVariants as word
use Rattle.xc_raw.specs.declared.word.AssignOp.{AssignOp}
use Rattle.xc_raw.specs.declared.word.AssignOp.TheVariants as assign
use Rattle.xc_raw.specs.declared.word.Sign.{Sign}
use Rattle.xc_raw.specs.declared.word.Sign.TheVariants as sign
use Rattle.xc_raw.specs.declared.word.Complement.TheVariants as complement
use Rattle.xc_raw.specs.declared.word.Step.{Step}
use Rattle.xc_raw.specs.declared.word.Step.TheVariants as step
use Rattle.xc_raw.specs.declared.word.BinaryOp.{BinaryOp}
use Rattle.xc_raw.specs.declared.word.BinaryOp.TheVariants as binary
use Rattle.xc_raw_parts.specs.declared.operators.Operator.{Operator}
use Rattle.xc_raw_parts.specs.declared.operators.Operator.TheVariants as operator
use Rattle.xc_raw_parts.specs.declared.operators.Assignment.{Assignment}
use Rattle.xc_raw_parts.specs.declared.operators.Assignment.TheVariants as assignment
use Rattle.xc_raw_parts.specs.declared.operators.Prefix.{Prefix}
use Rattle.xc_raw_parts.specs.declared.operators.Prefix.TheVariants as prefix
use Rattle.xc_raw_parts.specs.declared.operators.Suffix.{Suffix}
use Rattle.xc_raw_parts.specs.declared.operators.Suffix.TheVariants as suffix
use Rattle.xc_raw_parts.specs.Spans.{behind, word_at}

-- the word behind the first part
abbrev pub word_behind : List ℕ → List Token → Raw → Option Word
word_behind source ts node = option_map (word_at source ts) (behind node)

-- between two operands (C99 6.5.5 to 6.5.14) ---------------------------------

abbrev pub binary_of : BinaryOp → Operator
binary_of binary.Divide = operator.Value op.Div
binary_of binary.Remainder = operator.Value op.Rem
binary_of binary.ShiftLeft = operator.Value op.Shl
binary_of binary.ShiftRight = operator.Value op.Shr
binary_of binary.Less = operator.Value op.Lt
binary_of binary.Greater = operator.Value op.Gt
binary_of binary.AtMost = operator.Value op.Le
binary_of binary.AtLeast = operator.Value op.Ge
binary_of binary.Equal = operator.Value op.Eq
binary_of binary.Unequal = operator.Value op.Ne
binary_of binary.BitXor = operator.Value op.BitXor
binary_of binary.BitOr = operator.Value op.BitOr
binary_of binary.And = operator.And
binary_of binary.Or = operator.Or

abbrev pub signed_op : Sign → BinOp
signed_op sign.Plus = op.Add
signed_op sign.Minus = op.Sub

abbrev pub operator_of : Word → Option Operator
operator_of word.Star = Some (operator.Value op.Mul)
operator_of word.Ampersand = Some (operator.Value op.BitAnd)
operator_of (word.Sign s) = Some (operator.Value (signed_op s))
operator_of (word.Binary b) = Some (binary_of b)
operator_of _ = None

abbrev pub binary_operator : List ℕ → List Token → Raw → Option Operator
binary_operator source ts node = option_and_then operator_of (word_behind source ts node)

-- assignments (C99 6.5.16) ---------------------------------------------------

abbrev pub updating_op : AssignOp → BinOp
updating_op assign.Multiply = op.Mul
updating_op assign.Divide = op.Div
updating_op assign.Remainder = op.Rem
updating_op assign.Add = op.Add
updating_op assign.Subtract = op.Sub
updating_op assign.ShiftLeft = op.Shl
updating_op assign.ShiftRight = op.Shr
updating_op assign.And = op.BitAnd
updating_op assign.Xor = op.BitXor
updating_op assign.Or = op.BitOr

abbrev pub assignment_of : Word → Option Assignment
assignment_of word.Set = Some assignment.Plain
assignment_of (word.Assign a) = Some (assignment.With (updating_op a))
assignment_of _ = None

abbrev pub assign_operator : List ℕ → List Token → Raw → Option Assignment
assign_operator source ts node = option_and_then assignment_of (word_behind source ts node)

-- before an operand (C99 6.5.3) ----------------------------------------------

abbrev pub prefix_of : Word → Option Prefix
prefix_of (word.Step s) = Some (prefix.Step s)
prefix_of word.Ampersand = Some prefix.Address
prefix_of word.Star = Some prefix.Star
prefix_of (word.Sign sign.Plus) = Some prefix.Plus
prefix_of (word.Sign sign.Minus) = Some (prefix.Value un.Neg)
prefix_of (word.Complement complement.Bits) = Some (prefix.Value un.Complement)
prefix_of (word.Complement complement.Truth) = Some (prefix.Value un.Not)
prefix_of _ = None

-- the operator is the first token
abbrev pub prefix_operator : List ℕ → List Token → Raw → Option Prefix
prefix_operator source ts node = prefix_of (word_at source ts (out-Raw node).first)

-- behind an operand (C99 6.5.2) ----------------------------------------------

abbrev pub suffix_of : Word → Option Suffix
suffix_of word.OpenBracket = Some suffix.Index
suffix_of word.Open = Some suffix.Call
suffix_of (word.Access a) = Some (suffix.Access a)
suffix_of (word.Step s) = Some (suffix.Step s)
suffix_of _ = None

abbrev pub postfix_operator : List ℕ → List Token → Raw → Option Suffix
postfix_operator source ts node = option_and_then suffix_of (word_behind source ts node)

-- `++` adds 1 and `--` takes 1 away
abbrev pub step_op : Step → BinOp
step_op step.Increment = op.Add
step_op step.Decrement = op.Sub
