-- What is made of two operands.
use Rattle.xc_tree.specs.declared.expr.Expr.{Expr}
use Rattle.xc_tree.specs.declared.expr.ExprKind.{ExprKind, Update, Binary, Comma}
use Rattle.xc_type_rule_operators.specs.declared.kinds.Pair.{Pair}
use Rattle.xc_type_rule_operators.specs.declared.kinds.Pair.TheVariants as pair
use Rattle.xc_type_rule_operators.specs.Operators.{logic_kind, write_of}

-- the kind of the whole
abbrev pub pair_kind : Pair → Expr → Expr → ExprKind
pair_kind (pair.Binary o) = Binary o
pair_kind (pair.Logic o) = logic_kind o
pair_kind pair.Comma = Comma
pair_kind pair.Write = write_of
pair_kind (pair.Update o post) = Update o post
