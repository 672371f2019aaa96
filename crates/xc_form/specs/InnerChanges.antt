-- What only private functions and proofs speak of, beside `Changes`.
use Rattle.std.specs.Prelude.{ℕ, Bool, List, Option}
use Rattle.xc_tree.specs.declared.expr.Expr.{Expr}
use Rattle.xc_form.specs.declared.effect.Effect.{Effect}
use Rattle.xc_form.specs.Changes.{fixity}

abbrev pub plain_global : List Effect → Bool → Expr → Option ℕ
plain_global es unsettled e = (fixity es unsettled e).global
