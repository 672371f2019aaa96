use Rattle.xc_type_lowering.proofs.lower.lower_expr.Goals as goal
use Rattle.xc_type_lowering.proofs.Names.{type_kept}
use Rattle.xc_type_lowering.proofs.Expressions.{expr_typed}

pub returns-clause-of_type : goal.returns-clause-of_type
returns-clause-of_type c = type_kept c.args.addressed.now c.args.e.now

pub returns-clause-typed : goal.returns-clause-typed
returns-clause-typed c = expr_typed c.args.addressed.now c.args.e.now
