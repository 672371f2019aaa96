-- What only private functions and proofs speak of, beside `Arguments`.
use Rattle.std.specs.Prelude.{List, [], ◌∷◌, ◌++◌, Option}
use Rattle.xc_tree.specs.declared.expr.Expr.{Expr}
use Rattle.xc_type_rule.specs.Making.{both}

-- what is made of these and one more, if all are made
abbrev pub one_more : Option (List Expr) → Option Expr → Option (List Expr)
one_more es e = both (λ es e. es ++ e ∷ []) es e
