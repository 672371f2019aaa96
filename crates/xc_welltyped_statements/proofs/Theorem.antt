-- What statements without faults make.
use Rattle.xc_raw.specs.declared.tree.Raw.{Raw}
use Rattle.xc_type_expressions.specs.declared.text.Text.{Text}
use Rattle.xc_type_statements.specs.Stated.{statement}
use Rattle.xc_welltyped_locals.proofs.UsedValues.{given_used}
use Rattle.xc_welltyped_claims.specs.Shaped.{Shaped, IsLexed}
use Rattle.xc_welltyped_structs.proofs.Types.{object_grows}
use Rattle.xc_welltyped_structs.proofs.Promises.{promise_kept}
use Rattle.xc_welltyped_expressions.proofs.Names.{named_fine}
use Rattle.xc_welltyped_expressions.proofs.Places.{as_value_fine, indexed_fine, dotted_fine, arrowed_fine}
use Rattle.xc_welltyped_expressions.proofs.Roles.{role_fine}
use Rattle.xc_welltyped_statements.specs.Stmts.{PartFine}
use Rattle.xc_welltyped_statements.proofs.Reached.{PlacesFine}
use Rattle.xc_welltyped_statements.proofs.Futures.{future_fine}
use Rattle.xc_welltyped_statements.proofs.Inits.{valued, local_inits_fine}
use Rattle.xc_welltyped_statements.proofs.Statements as nodes

-- names, members and elements
places_fine : (t : Text) → PlacesFine t
places_fine t = record {
  named_fine = named_fine t;
  as_value_fine = as_value_fine t;
  indexed_fine = indexed_fine t;
  dotted_fine = dotted_fine t;
  arrowed_fine = arrowed_fine t;
}

pub statement_fine : (t : Text) → IsLexed t → (node : Raw) → Shaped t node → PartFine t node (statement t node)
statement_fine t lexed = nodes.statement_fine t lexed (valued t lexed) (role_fine t lexed) promise_kept (local_inits_fine t lexed) given_used
    (future_fine t lexed (valued t lexed) (places_fine t) object_grows)
