-- What only private functions and proofs speak of, beside `Affine`.
use Rattle.std.specs.Prelude.{pos, List, [], ◌∷◌, ◌++◌}
use Rattle.xc_lin.specs.declared.affine.Var.{Var}
use Rattle.xc_lin.specs.declared.affine.Term.{Term}
use Rattle.xc_lin.specs.Affine.{without, merged}

-- the terms of two forms, and a variable where they do not have it
abbrev pub met : List Term → List Term → Var → List Term
met a b var = merged a b ++ without (merged a b) (record { var = var; coeff = pos 1 } ∷ [])
