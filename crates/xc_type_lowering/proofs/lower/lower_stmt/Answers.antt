use Rattle.xc_type_lowering.proofs.lower.lower_stmt.Goals as goal
use Rattle.xc_type_lowering.proofs.Folded.{leaving_kept, sees_kept, ids_kept, declared_kept}
use Rattle.xc_type_lowering.proofs.Statements.{stmt_typed}

pub returns-clause-typed : goal.returns-clause-typed
returns-clause-typed c = stmt_typed c.args.addressed.now c.args.s.now

pub returns-clause-leaves : goal.returns-clause-leaves
returns-clause-leaves c = leaving_kept c.args.addressed.now c.args.s.now

pub returns-clause-sees : goal.returns-clause-sees
returns-clause-sees c = sees_kept c.args.addressed.now c.args.s.now

pub returns-clause-loops : goal.returns-clause-loops
returns-clause-loops c = ids_kept c.args.addressed.now c.args.s.now

pub returns-clause-declares : goal.returns-clause-declares
returns-clause-declares c = declared_kept c.args.addressed.now c.args.s.now
